-- What an action came to, by its steps.
use Rattle.std.proofs.Common.{◌≡◌, ℕ, List, [], ◌∷◌, sym, subst}
use Rattle.std.specs.Prelude.{Result, Ok, Err}
use Rattle.http_model.specs.declared.Why.{Why}
use Rattle.http_model.specs.Block.{Block}
use Rattle.px_sample.specs.Variables.{Variables}
use Rattle.http_rules.specs.declared.rule.action.Action.{Action}
use Rattle.http_rules.specs.declared.rule.action.Action.TheVariants as actions
use Rattle.http_rules.specs.declared.action.side.Side.{Side}
use Rattle.http_rules.specs.declared.action.stepped.Stepped.{Stepped}
use Rattle.http_rules.specs.declared.action.stepped.Stepped.TheVariants.{Done, Failed}
use Rattle.http_rules.specs.Action.Given.{Env}
use Rattle.http_rules.specs.Action.Edits.{Step}
use Rattle.std.specs.Prelude.{Option}
use Rattle.px_sample.specs.declared.scope.Scope.{Scope}
use Rattle.http_rules.specs.declared.rule.action.DelBy.{DelBy}
use Rattle.http_rules.specs.Action.Lines.{restated, reason_by}
use Rattle.http_rules.specs.Action.Steps.{del_step, unset_var_step, steps_of}
use Rattle.http_rules.specs.Action.Acts.{act, Act, Next, Fails, after_step, run_steps}
use Rattle.http_rules.specs.Action.Outcome.{Came, Ran}
use Rattle.http_rules.specs.Action.Does.{Does, acted_by}

-- one step alone
pub one : (side : Side) (env : Env) (step : Step) (came : Stepped) (blocks : List Block) (vars : Variables) → Came side env (step env) came blocks vars
    → Ran side (run_steps (step ∷ []) env) came blocks vars
one side env step came blocks vars c = by (step env) came c
  where
    by : (r : Result Env Why) (s : Stepped) → Came side env r s blocks vars → Ran side (after_step env r (run_steps [])) s blocks vars
    by (Ok next) Done h = h
    by (Ok next) (Failed why) h = absurd h
    by (Err why) Done h = absurd h
    by (Err why) (Failed told) h = h

-- steps in turn
pub several : (side : Side) (env : Env) (act : Act) (came : Stepped) (blocks : List Block) (vars : Variables) → Ran side act came blocks vars → Does side env act (acted_by came) blocks vars
several side env (Next next) Done blocks vars h = h
several side env (Fails why left) (Failed told) blocks vars h = h
several side env act came blocks vars h = absurd h

-- the actions of one step by name
pub deleted : (side : Side) (env : Env) (size : ℕ) (by : DelBy) (action : Action) (came : Stepped) (blocks : List Block) (vars : Variables) → action ≡ actions.DelHeader by
    → Came side env (del_step size by env) came blocks vars → Ran side (run_steps (steps_of size action env) env) came blocks vars
unfolding steps_of
deleted side env size by action came blocks vars is c =
    subst (λ (a : Action). Ran side (run_steps (steps_of size a env) env) came blocks vars) (sym is) (one side env (del_step size by) came blocks vars c)

pub stated_anew : (side : Side) (env : Env) (size code : ℕ) (reason : Option (List ℕ)) (action : Action) (came : Stepped) (blocks : List Block) (vars : Variables) → action ≡ actions.SetStatus code reason
    → Came side env (restated size env code (reason_by code reason)) came blocks vars → Ran side (run_steps (steps_of size action env) env) came blocks vars
unfolding steps_of
stated_anew side env size code reason action came blocks vars is c =
    subst (λ (a : Action). Ran side (run_steps (steps_of size a env) env) came blocks vars) (sym is)
    (one side env (λ e. restated size e code (reason_by code reason)) came blocks vars c)

pub unset : (side : Side) (env : Env) (size : ℕ) (scope : Scope) (name given : List ℕ) (action : Action) (came : Stepped) (blocks : List Block) (vars : Variables) → action ≡ actions.UnsetVar scope name
    → given ≡ name → Came side env (unset_var_step scope given env) came blocks vars → Ran side (run_steps (steps_of size action env) env) came blocks vars
unfolding steps_of
unset side env size scope name given action came blocks vars is same c =
    subst (λ (a : Action). Ran side (run_steps (steps_of size a env) env) came blocks vars) (sym is)
    (one side env (unset_var_step scope name) came blocks vars (subst (λ (n : List ℕ). Came side env (unset_var_step scope n env) came blocks vars) same c))
