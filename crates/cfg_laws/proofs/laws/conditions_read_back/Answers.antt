use Rattle.cfg_laws.proofs.LawLemmas.Conditions.{condition_back}
use Rattle.cfg_laws.proofs.laws.conditions_read_back.Goals as goal

pub returns : goal.returns
returns c = condition_back
