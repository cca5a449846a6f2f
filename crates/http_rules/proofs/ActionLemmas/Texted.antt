-- What an action that makes its edit by a text came to.
use Rattle.std.proofs.Common.{◌≡◌, ℕ, List, [], ◌∷◌, ap, subst, sym}
use Rattle.std.specs.Prelude.{Option, Some, unwrap_or}
use Rattle.http_model.specs.Block.{Block}
use Rattle.px_sample.specs.Variables.{Variables}
use Rattle.log_format.specs.declared.fmt.Fmt.{Fmt}
use Rattle.http_rules.specs.declared.rule.action.Action.{Action}
use Rattle.http_rules.specs.declared.rule.action.Action.TheVariants as actions
use Rattle.http_rules.specs.declared.action.side.Side.{Side}
use Rattle.http_rules.specs.declared.action.stepped.Stepped.{Stepped}
use Rattle.http_rules.specs.Action.Given.{Env}
use Rattle.http_rules.specs.Action.Edits.{Step}
use Rattle.http_rules.specs.Action.Steps.{steps_of, line_step}
use Rattle.http_rules.specs.Action.TextEdits.{format_of, text_edit, text_step}
use Rattle.http_rules.specs.Action.Acts.{run_steps}
use Rattle.http_rules.specs.Action.Outcome.{Came, Ran}
use Rattle.http_rules.proofs.ActionLemmas.Doing.{one}

same : (f fmt : Fmt) → Some f ≡ Some fmt → f ≡ fmt
same f fmt is = ap (λ (o : Option Fmt). unwrap_or o fmt) is

-- the one step of the action is the edit by the text of its format
is_step : (size : ℕ) (env : Env) (action : Action) (fmt : Fmt) → format_of action ≡ Some fmt → steps_of size action env ≡ text_step size action fmt ∷ []
unfolding steps_of line_step text_edit
is_step size env (actions.AddHeader name f) fmt is = ap (λ (g : Fmt). text_step size (actions.AddHeader name f) g ∷ []) (same f fmt is)
is_step size env (actions.SetHeader name f) fmt is = ap (λ (g : Fmt). text_step size (actions.SetHeader name f) g ∷ []) (same f fmt is)
is_step size env (actions.SetMethod f) fmt is = ap (λ (g : Fmt). text_step size (actions.SetMethod f) g ∷ []) (same f fmt is)
is_step size env (actions.SetPath f) fmt is = ap (λ (g : Fmt). text_step size (actions.SetPath f) g ∷ []) (same f fmt is)
is_step size env (actions.SetPathq f) fmt is = ap (λ (g : Fmt). text_step size (actions.SetPathq f) g ∷ []) (same f fmt is)
is_step size env (actions.SetUri f) fmt is = ap (λ (g : Fmt). text_step size (actions.SetUri f) g ∷ []) (same f fmt is)
is_step size env (actions.SetQuery f) fmt is = ap (λ (g : Fmt). text_step size (actions.SetQuery f) g ∷ []) (same f fmt is)
is_step size env action fmt is = absurd cc

pub texted : (side : Side) (env : Env) (size : ℕ) (action : Action) (fmt : Fmt) (came : Stepped) (blocks : List Block) (vars : Variables) → format_of action ≡ Some fmt
    → Came side env (text_step size action fmt env) came blocks vars → Ran side (run_steps (steps_of size action env) env) came blocks vars
texted side env size action fmt came blocks vars is c =
    subst (λ (steps : List Step). Ran side (run_steps steps env) came blocks vars) (sym (is_step size env action fmt is)) (one side env (text_step size action fmt) came blocks vars c)

-- an action by its name and its text
pub edited_as : (side : Side) (env : Env) (size : ℕ) (action by : Action) (text given : List ℕ) (came : Stepped) (blocks : List Block) (vars : Variables) → action ≡ by → given ≡ text
    → Came side env (text_edit size by given env) came blocks vars → Came side env (text_edit size action text env) came blocks vars
edited_as side env size action by text given came blocks vars is held c =
    subst (λ (a : Action). Came side env (text_edit size a text env) came blocks vars) (sym is) (subst (λ (t : List ℕ). Came side env (text_edit size by t env) came blocks vars) held c)
