use Rattle.cfg_laws.proofs.LawLemmas.Lines.{line_read}
use Rattle.cfg_laws.proofs.laws.lines_read_back.Goals as goal

pub returns : goal.returns
returns c = line_read
