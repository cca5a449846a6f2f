use Rattle.std.proofs.Common.{sym, subst}
use Rattle.http_rules.specs.Rule.Valid.{IsVariableName}
use Rattle.cfg_parse.proofs.ActionLemmas.NameLemmas.{variable_named}
use Rattle.cfg_parse.proofs.action.arguments.variable_behind.Goals as goal

pub returns-in_ok-copy-in-Some-variable_of-clause-good : goal.returns-in_ok-copy-in-Some-variable_of-clause-good
returns-in_ok-copy-in-Some-variable_of-clause-good c =
    subst IsVariableName (sym c.in_ok-copy-in-Some-variable_of.ensures)
    (variable_named c.in-Some.text.now (c.in-Some-variable_of.scope, c.in-Some-variable_of.name.now) (sym c.in-Some-variable_of.ensures))
