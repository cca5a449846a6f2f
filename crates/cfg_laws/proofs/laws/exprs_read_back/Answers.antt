use Rattle.cfg_laws.proofs.LawLemmas.Exprs.{expr_back}
use Rattle.cfg_laws.proofs.laws.exprs_read_back.Goals as goal

pub returns : goal.returns
returns c = expr_back
