use Rattle.cfg_laws.proofs.LawLemmas.Words.{line_back}
use Rattle.cfg_laws.proofs.laws.words_read_back.Goals as goal

pub returns : goal.returns
returns c = line_back
