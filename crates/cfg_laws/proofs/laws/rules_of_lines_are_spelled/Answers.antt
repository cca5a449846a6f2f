use Rattle.cfg_laws.proofs.ReadLemmas.RuleLines.{start_keeps, rules_kept, all_rules_kept}
use Rattle.cfg_laws.proofs.laws.rules_of_lines_are_spelled.Goals as goal

pub returns-clause-start : goal.returns-clause-start
returns-clause-start c = start_keeps

pub returns-clause-line : goal.returns-clause-line
returns-clause-line c = rules_kept

pub returns-clause-lines : goal.returns-clause-lines
returns-clause-lines c = all_rules_kept
