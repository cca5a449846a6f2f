use Rattle.h1_head.proofs.Known as knows
use Rattle.h1_head.proofs.laws.is_known.Goals as goal

pub returns : goal.returns
returns c = knows.known
