use Rattle.cfg_laws.proofs.LawLemmas.Rules.{rule_back}
use Rattle.cfg_laws.proofs.laws.rules_read_back.Goals as goal

pub returns : goal.returns
returns c = rule_back
