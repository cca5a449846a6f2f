-- What `replace-header` and `replace-value` came to, by their steps.
use Rattle.std.proofs.Common.{◌≡◌, ℕ, List, map, sym, subst}
use Rattle.http_model.specs.Block.{Block}
use Rattle.px_pattern.specs.Pattern.{Pattern}
use Rattle.px_sample.specs.Variables.{Variables}
use Rattle.log_format.specs.declared.fmt.Fmt.{Fmt}
use Rattle.http_rules.specs.declared.rule.action.Action.{Action}
use Rattle.http_rules.specs.declared.rule.action.Action.TheVariants as actions
use Rattle.http_rules.specs.declared.action.side.Side.{Side}
use Rattle.http_rules.specs.declared.action.stepped.Stepped.{Stepped}
use Rattle.http_rules.specs.declared.action.extent.Extent.TheVariants.{Whole, Values}
use Rattle.http_rules.specs.Action.Given.{Env}
use Rattle.http_rules.specs.Action.Replacing.{places, replace_in}
use Rattle.http_rules.specs.Action.Steps.{steps_of}
use Rattle.http_rules.specs.Action.Acts.{run_steps}
use Rattle.http_rules.specs.Action.Outcome.{Ran}

pub whole : (side : Side) (env : Env) (size : ℕ) (name given : List ℕ) (pat : Pattern) (fmt : Fmt) (action : Action) (came : Stepped) (blocks : List Block) (vars : Variables) → action ≡ actions.ReplaceHeader name pat fmt
    → given ≡ name → Ran side (run_steps (map (replace_in Whole size pat fmt) (places given env.head.fields 0)) env) came blocks vars → Ran side (run_steps (steps_of size action env) env) came blocks vars
unfolding steps_of
whole side env size name given pat fmt action came blocks vars is same ran =
    subst (λ (a : Action). Ran side (run_steps (steps_of size a env) env) came blocks vars) (sym is)
    (subst (λ (n : List ℕ). Ran side (run_steps (map (replace_in Whole size pat fmt) (places n env.head.fields 0)) env) came blocks vars) same ran)

pub values : (side : Side) (env : Env) (size : ℕ) (name given : List ℕ) (pat : Pattern) (fmt : Fmt) (action : Action) (came : Stepped) (blocks : List Block) (vars : Variables) → action ≡ actions.ReplaceValue name pat fmt
    → given ≡ name → Ran side (run_steps (map (replace_in Values size pat fmt) (places given env.head.fields 0)) env) came blocks vars → Ran side (run_steps (steps_of size action env) env) came blocks vars
unfolding steps_of
values side env size name given pat fmt action came blocks vars is same ran =
    subst (λ (a : Action). Ran side (run_steps (steps_of size a env) env) came blocks vars) (sym is)
    (subst (λ (n : List ℕ). Ran side (run_steps (map (replace_in Values size pat fmt) (places n env.head.fields 0)) env) came blocks vars) same ran)
