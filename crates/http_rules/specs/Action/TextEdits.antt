-- Actions that make their edit by the text of a format.
use Rattle.std.specs.Prelude.{ℕ, List, Option, Some, None, Ok}
use Rattle.http_model.specs.Fields.{add_field}
use Rattle.log_format.specs.declared.fmt.Fmt.{Fmt}
use Rattle.http_rules.specs.declared.rule.action.Action.{Action}
use Rattle.http_rules.specs.declared.rule.action.Action.TheVariants as actions
use Rattle.http_rules.specs.declared.action.part.TargetPart.TheVariants.{Path, Pathq}
use Rattle.http_rules.specs.Action.Given.{text_on}
use Rattle.http_rules.specs.Action.Edits.{Step, by_text, by_value}
use Rattle.http_rules.specs.Action.Lines.{retargeted, remethoded, with_part, with_query}
use Rattle.http_rules.specs.Action.Hosts.{reset, reuri}

-- the format of such an action, and none of any other
abbrev pub format_of : Action → Option Fmt
format_of (actions.AddHeader name fmt) = Some fmt
format_of (actions.SetHeader name fmt) = Some fmt
format_of (actions.SetMethod fmt) = Some fmt
format_of (actions.SetPath fmt) = Some fmt
format_of (actions.SetPathq fmt) = Some fmt
format_of (actions.SetUri fmt) = Some fmt
format_of (actions.SetQuery fmt) = Some fmt
format_of action = None

-- its edit by a text
unfoldable pub text_edit : (size : ℕ) → Action → (text : List ℕ) → Step
text_edit size (actions.AddHeader name fmt) text env = by_value size env text (λ value. add_field name value env.head)
text_edit size (actions.SetHeader name fmt) text env = reset size env name text
text_edit size (actions.SetMethod fmt) text env = remethoded size env text
text_edit size (actions.SetPath fmt) text env = retargeted size env (λ target. with_part Path target text)
text_edit size (actions.SetPathq fmt) text env = retargeted size env (λ target. with_part Pathq target text)
text_edit size (actions.SetUri fmt) text env = reuri size env text
text_edit size (actions.SetQuery fmt) text env = retargeted size env (λ target. with_query target text)
text_edit size action text env = Ok env

-- its edit by the text of a format
abbrev pub text_step : (size : ℕ) → Action → Fmt → Step
text_step size action fmt env = by_text size (text_on size env fmt) (λ text. text_edit size action text env)
