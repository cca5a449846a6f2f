-- A rule is a list of steps, each on the environment that the one before leaves (Configuration Manual, sections 4.2 and 6).
use Rattle.std.specs.Prelude.{ℕ, List, [], ◌∷◌, map, filter, Bool, not, ◌&&◌, Ok}
use Rattle.std.specs.Str.{str_to_ascii_lowercase}
use Rattle.http_model.specs.Head.{Head, Field}
use Rattle.http_model.specs.Fields.{same_name, is_named_among, add_field}
use Rattle.http_model.specs.Finish.{framing_names}
use Rattle.session_model.specs.Env.{env_with_vars}
use Rattle.header_ops.specs.Matching.{begins_with, ends_with, has_part}
use Rattle.px_sample.specs.Variables.{set_variable, unset_variable}
use Rattle.px_sample.specs.declared.scope.Scope.{Scope}
use Rattle.px_expr.specs.declared.expr.Expr.{Expr}
use Rattle.log_format.specs.declared.fmt.Fmt.{Fmt}
use Rattle.http_rules.specs.declared.rule.action.DelBy.{DelBy}
use Rattle.http_rules.specs.declared.rule.action.DelBy.TheVariants.{Str, Beg, End, Sub, Reg}
use Rattle.http_rules.specs.declared.rule.action.Action.{Action}
use Rattle.http_rules.specs.declared.rule.action.Action.TheVariants as actions
use Rattle.px_pattern.specs.Pattern.{Pattern}
use Rattle.http_rules.specs.declared.action.part.TargetPart.{TargetPart}
use Rattle.http_rules.specs.declared.action.part.TargetPart.TheVariants.{Path, Pathq, Uri}
use Rattle.http_rules.specs.Action.Given.{Env, text_on, sample_on}
use Rattle.http_rules.specs.Action.Edits.{Step, edited, by_text, by_value}
use Rattle.http_rules.specs.Action.Lines.{retargeted, remethoded, restated, reason_by, with_part, with_query, part_of, on_request, sent_to}
use Rattle.http_rules.specs.Action.Hosts.{reset, reuri}
use Rattle.http_rules.specs.Action.Replacing.{matches, by_match, places, replace_whole, replace_values}

-- ---- fields

abbrev pub add_step : (size : ℕ) → (name : List ℕ) → Fmt → Step
add_step size name fmt env = by_text size (text_on size env fmt) (λ text. by_value size env text (λ value. add_field name value env.head))

-- The text is made on the environment that has the fields which go. Host stays the authority of the target.
abbrev pub set_step : (size : ℕ) → (name : List ℕ) → Fmt → Step
set_step size name fmt env = by_text size (text_on size env fmt) (λ text. reset size env name text)

-- the name is meant
abbrev pub is_meant : DelBy → List ℕ → Bool
is_meant (Str text) name = same_name name text
is_meant (Beg text) name = begins_with name text
is_meant (End text) name = ends_with name text
is_meant (Sub text) name = has_part name text
is_meant (Reg pat) name = matches pat (str_to_ascii_lowercase name)

-- the field goes: its name is meant, and does not frame the message or speak of its connection
abbrev pub goes : DelBy → Field → Bool
goes by field = is_meant by field.0 && not (is_named_among framing_names field)

-- fields go in whose name a pattern matches
abbrev pub by_pattern : Pattern → DelBy
by_pattern pat = Reg pat

abbrev pub without_meant : DelBy → Head → Head
without_meant by head = record { line = head.line; fields = filter (λ field. not (goes by field)) head.fields }

abbrev pub del_step : (size : ℕ) → DelBy → Step
del_step size by env = edited size env (without_meant by env.head)

-- ---- request lines and status lines

abbrev pub method_step : (size : ℕ) → Fmt → Step
method_step size fmt env = by_text size (text_on size env fmt) (remethoded size env)

abbrev pub part_step : (size : ℕ) → TargetPart → Fmt → Step
part_step size part fmt env = by_text size (text_on size env fmt) (λ text. retargeted size env (λ target. with_part part target text))

-- the whole target, whose authority stays that of Host
abbrev pub uri_step : (size : ℕ) → Fmt → Step
uri_step size fmt env = by_text size (text_on size env fmt) (λ text. reuri size env text)

abbrev pub query_step : (size : ℕ) → Fmt → Step
query_step size fmt env = by_text size (text_on size env fmt) (λ text. retargeted size env (λ target. with_query target text))

abbrev pub replace_part : (size : ℕ) → TargetPart → Pattern → Fmt → Step
replace_part size part pat fmt env =
    on_request env (λ method target version.
    by_match size env pat fmt (part_of part target) (λ text. sent_to size env method (with_part part target text) version))

-- the step of an action on a request line, and none of any other
unfoldable pub line_step : (size : ℕ) → Action → Step
line_step size (actions.SetMethod fmt) env = method_step size fmt env
line_step size (actions.SetPath fmt) env = part_step size Path fmt env
line_step size (actions.SetPathq fmt) env = part_step size Pathq fmt env
line_step size (actions.SetUri fmt) env = uri_step size fmt env
line_step size (actions.SetQuery fmt) env = query_step size fmt env
line_step size (actions.ReplacePath pat fmt) env = replace_part size Path pat fmt env
line_step size (actions.ReplacePathq pat fmt) env = replace_part size Pathq pat fmt env
line_step size (actions.ReplaceUri pat fmt) env = replace_part size Uri pat fmt env
line_step size action env = Ok env

-- ---- variables

abbrev pub set_var_step : (size : ℕ) → Scope → (name : List ℕ) → Expr → Step
set_var_step size scope name expr env = Ok (env_with_vars env (set_variable env.vars scope name (sample_on size env expr)))

abbrev pub unset_var_step : Scope → (name : List ℕ) → Step
unset_var_step scope name env = Ok (env_with_vars env (unset_variable env.vars scope name))

-- ---- all

-- The steps of an action; how many they are is seen on the environment that the rule begins with. An action that answers, and
-- one that changes the mode, has none; all that are not named here are on a request line.
unfoldable pub steps_of : (size : ℕ) → Action → Env → List Step
steps_of size actions.Allow env = []
steps_of size (actions.Deny code) env = []
steps_of size (actions.AddHeader name fmt) env = add_step size name fmt ∷ []
steps_of size (actions.SetHeader name fmt) env = set_step size name fmt ∷ []
steps_of size (actions.DelHeader by) env = del_step size by ∷ []
steps_of size (actions.ReplaceHeader name pat fmt) env = map (replace_whole size pat fmt) (places name env.head.fields 0)
steps_of size (actions.ReplaceValue name pat fmt) env = map (replace_values size pat fmt) (places name env.head.fields 0)
steps_of size (actions.SetStatus code reason) env = (λ e. restated size e code (reason_by code reason)) ∷ []
steps_of size (actions.Redirect to code drop_query append_slash) env = []
steps_of size (actions.Return status content_type payload hdrs) env = []
steps_of size (actions.SetVar scope name expr) env = set_var_step size scope name expr ∷ []
steps_of size (actions.UnsetVar scope name) env = unset_var_step scope name ∷ []
steps_of size (actions.StrictMode on) env = []
steps_of size action env = line_step size action ∷ []
