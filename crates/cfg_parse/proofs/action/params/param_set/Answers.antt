use Rattle.std.proofs.Common.{ℕ, List, sym, subst}
use Rattle.http_rules.specs.declared.rule.action.Action.TheVariants as actions
use Rattle.http_rules.specs.declared.rule.action.Direction.TheVariants as lists
use Rattle.http_rules.specs.Rule.Valid.{IsGoodRule}
use Rattle.cfg_parse.proofs.ApplicationLemmas.{param_set-good}
use Rattle.cfg_parse.proofs.action.params.param_set.Goals as goal

pub returns-clause-good : goal.returns-clause-good
returns-clause-good c = λ is.
    subst (λ (field : List ℕ). IsGoodRule lists.Request (record { action = actions.SetHeader field c.args.fmt; cond = c.args.cond })) (sym c.in_ok-field.ensures)
    (param_set-good c.args.name.now c.args.fmt c.args.cond is)
