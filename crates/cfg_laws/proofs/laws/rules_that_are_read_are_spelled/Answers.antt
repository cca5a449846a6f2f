use Rattle.cfg_laws.proofs.ReadLemmas.Actions.{actions_spelled}
use Rattle.cfg_laws.proofs.ReadLemmas.Terms.{lines_few, ends_spelled}
use Rattle.cfg_laws.proofs.ReadLemmas.Rules.{rules_spelled}
use Rattle.cfg_laws.proofs.ReadLemmas.PairReadings.{pairs_spelled, forwarding_spelled}
use Rattle.cfg_laws.proofs.laws.rules_that_are_read_are_spelled.Goals as goal

pub returns-clause-actions : goal.returns-clause-actions
returns-clause-actions c = actions_spelled

pub returns-clause-lines : goal.returns-clause-lines
returns-clause-lines c = lines_few

pub returns-clause-ends : goal.returns-clause-ends
returns-clause-ends c = ends_spelled

pub returns-clause-rules : goal.returns-clause-rules
returns-clause-rules c = rules_spelled

pub returns-clause-pairs : goal.returns-clause-pairs
returns-clause-pairs c = pairs_spelled

pub returns-clause-forwarding : goal.returns-clause-forwarding
returns-clause-forwarding c = forwarding_spelled
