use Rattle.cfg_laws.proofs.LawLemmas.Exprs.{whole_expr_back}
use Rattle.cfg_laws.proofs.laws.whole_exprs_read_back.Goals as goal

pub returns : goal.returns
returns c = whole_expr_back
