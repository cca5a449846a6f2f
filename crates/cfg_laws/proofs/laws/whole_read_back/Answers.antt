use Rattle.cfg_laws.proofs.LawLemmas.Wholes.{whole_back}
use Rattle.cfg_laws.proofs.laws.whole_read_back.Goals as goal

pub returns : goal.returns
returns c = whole_back
