use Rattle.h1_head.proofs.Waits as waits
use Rattle.h1_head.proofs.laws.drops_lines.Goals as goal

pub returns : goal.returns
returns c = waits.behind_more
