use Rattle.cfg_laws.proofs.LawLemmas.Declared.{table_spelled, table_declared}
use Rattle.cfg_laws.proofs.LawLemmas.Names.{name_declared}
use Rattle.cfg_laws.proofs.LawLemmas.Table.{term_named, condition_named}
use Rattle.cfg_laws.proofs.laws.table_read_back.Goals as goal

pub returns-clause-text : goal.returns-clause-text
returns-clause-text c = table_spelled

pub returns-clause-names : goal.returns-clause-names
returns-clause-names c = name_declared

pub returns-clause-lines : goal.returns-clause-lines
returns-clause-lines c = table_declared

pub returns-clause-terms : goal.returns-clause-terms
returns-clause-terms c = term_named

pub returns-clause-conditions : goal.returns-clause-conditions
returns-clause-conditions c = condition_named
