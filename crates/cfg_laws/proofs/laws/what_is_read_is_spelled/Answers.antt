use Rattle.cfg_laws.proofs.ReadLemmas.Calls.{calls_spelled}
use Rattle.cfg_laws.proofs.ReadLemmas.Numbers.{numbers_spelled}
use Rattle.cfg_laws.proofs.ReadLemmas.Fetches.{counts_spelled, occurrences_spelled, fields_spelled, variables_spelled, fetches_spelled}
use Rattle.cfg_laws.proofs.ReadLemmas.Convs.{convs_spelled}
use Rattle.cfg_laws.proofs.ReadLemmas.Exprs.{exprs_spelled, whole_exprs_spelled}
use Rattle.cfg_laws.proofs.ReadLemmas.Formats.{formats_spelled}
use Rattle.cfg_laws.proofs.ReadLemmas.Tests.{tests_spelled}
use Rattle.cfg_laws.proofs.ReadLemmas.Names.{names_spelled}
use Rattle.cfg_laws.proofs.ReadLemmas.Conditions.{lines_spelled, conds_spelled}
use Rattle.cfg_laws.proofs.laws.what_is_read_is_spelled.Goals as goal

pub returns-clause-calls : goal.returns-clause-calls
returns-clause-calls c = calls_spelled

pub returns-clause-numbers : goal.returns-clause-numbers
returns-clause-numbers c = numbers_spelled

pub returns-clause-counts : goal.returns-clause-counts
returns-clause-counts c = counts_spelled

pub returns-clause-occurrences : goal.returns-clause-occurrences
returns-clause-occurrences c = occurrences_spelled

pub returns-clause-fields : goal.returns-clause-fields
returns-clause-fields c = fields_spelled

pub returns-clause-variables : goal.returns-clause-variables
returns-clause-variables c = variables_spelled

pub returns-clause-fetches : goal.returns-clause-fetches
returns-clause-fetches c = fetches_spelled

pub returns-clause-converters : goal.returns-clause-converters
returns-clause-converters c = convs_spelled

pub returns-clause-expressions : goal.returns-clause-expressions
returns-clause-expressions c = exprs_spelled

pub returns-clause-whole_expressions : goal.returns-clause-whole_expressions
returns-clause-whole_expressions c = whole_exprs_spelled

pub returns-clause-formats : goal.returns-clause-formats
returns-clause-formats c = formats_spelled

pub returns-clause-tests : goal.returns-clause-tests
returns-clause-tests c = tests_spelled

pub returns-clause-names : goal.returns-clause-names
returns-clause-names c = names_spelled

pub returns-clause-lines : goal.returns-clause-lines
returns-clause-lines c = lines_spelled

pub returns-clause-conditions : goal.returns-clause-conditions
returns-clause-conditions c = conds_spelled
