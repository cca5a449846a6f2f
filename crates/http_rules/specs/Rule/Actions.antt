-- The actions of rules: their words, the lists in which each may stand, their arguments, and whether they hold a pattern: only
-- rules with one take memory when they run (Configuration Manual, section 4.2).
use Rattle.std.specs.Prelude.{ℕ, List, ◌++◌, Bool, true, false, ◌||◌, nat_eq, if◌then◌else◌, Option, Some, None, codes}
use Rattle.std.specs.List.{list_any, starts_with}
use Rattle.std.specs.Str.{bytes_eq}
use Rattle.px_pattern.specs.Pattern.{Pattern}
use Rattle.log_format.specs.declared.fmt.Fmt.{Fmt}
use Rattle.log_format.specs.Format as formats
use Rattle.px_expr.specs.Expr as exprs
use Rattle.acl_eval.specs.Condition as conditions
use Rattle.acl_eval.specs.declared.condition.Cond.{Cond}
use Rattle.http_rules.specs.declared.rule.reply.RedirectTo.{RedirectTo}
use Rattle.http_rules.specs.declared.rule.reply.RedirectTo.TheVariants.{Location, Prefix, Scheme}
use Rattle.http_rules.specs.declared.rule.reply.Payload.{Payload}
use Rattle.http_rules.specs.declared.rule.reply.Payload.TheVariants.{Literal, Format}
use Rattle.http_rules.specs.declared.rule.reply.Hdr.{Hdr}
use Rattle.http_rules.specs.declared.rule.action.Direction.{Direction}
use Rattle.http_rules.specs.declared.rule.action.Direction.TheVariants.{Request, Response, After}
use Rattle.http_rules.specs.declared.rule.action.ActionName.{ActionName}
use Rattle.http_rules.specs.declared.rule.action.ActionName.TheVariants as names
use Rattle.http_rules.specs.declared.rule.action.DelBy.{DelBy}
use Rattle.http_rules.specs.declared.rule.action.DelBy.TheVariants.{Str, Beg, End, Sub, Reg}
use Rattle.http_rules.specs.declared.rule.action.Action.{Action}
use Rattle.http_rules.specs.declared.rule.action.Action.TheVariants as actions
use Rattle.http_rules.specs.declared.rule.rule.Rule.{Rule}

-- ---- the lists of rules

-- rules on requests
abbrev pub is_request : Direction → Bool
is_request Request = true
is_request Response = false
is_request After = false

-- rules on requests and on responses of servers, which may answer by themselves
abbrev pub may_answer : Direction → Bool
may_answer Request = true
may_answer Response = true
may_answer After = false

-- rules on responses, replies and refusals
abbrev pub has_status : Direction → Bool
has_status Request = false
has_status Response = true
has_status After = true

-- the rules of this direction may have the action
abbrev pub stands_in : Direction → ActionName → Bool
stands_in direction names.Allow = true
stands_in direction names.Deny = may_answer direction
stands_in direction names.AddHeader = true
stands_in direction names.SetHeader = true
stands_in direction names.DelHeader = true
stands_in direction names.ReplaceHeader = true
stands_in direction names.ReplaceValue = true
stands_in direction names.SetMethod = is_request direction
stands_in direction names.SetPath = is_request direction
stands_in direction names.SetPathq = is_request direction
stands_in direction names.SetUri = is_request direction
stands_in direction names.SetQuery = is_request direction
stands_in direction names.ReplacePath = is_request direction
stands_in direction names.ReplacePathq = is_request direction
stands_in direction names.ReplaceUri = is_request direction
stands_in direction names.SetStatus = has_status direction
stands_in direction names.Redirect = is_request direction
stands_in direction names.Return = may_answer direction
stands_in direction names.SetVar = true
stands_in direction names.UnsetVar = true
stands_in direction names.StrictMode = true

-- the name of an action
abbrev pub name_of : Action → ActionName
name_of actions.Allow = names.Allow
name_of (actions.Deny code) = names.Deny
name_of (actions.AddHeader name fmt) = names.AddHeader
name_of (actions.SetHeader name fmt) = names.SetHeader
name_of (actions.DelHeader by) = names.DelHeader
name_of (actions.ReplaceHeader name pat fmt) = names.ReplaceHeader
name_of (actions.ReplaceValue name pat fmt) = names.ReplaceValue
name_of (actions.SetMethod fmt) = names.SetMethod
name_of (actions.SetPath fmt) = names.SetPath
name_of (actions.SetPathq fmt) = names.SetPathq
name_of (actions.SetUri fmt) = names.SetUri
name_of (actions.SetQuery fmt) = names.SetQuery
name_of (actions.ReplacePath pat fmt) = names.ReplacePath
name_of (actions.ReplacePathq pat fmt) = names.ReplacePathq
name_of (actions.ReplaceUri pat fmt) = names.ReplaceUri
name_of (actions.SetStatus code reason) = names.SetStatus
name_of (actions.Redirect to code drop_query append_slash) = names.Redirect
name_of (actions.Return status content_type payload hdrs) = names.Return
name_of (actions.SetVar scope name expr) = names.SetVar
name_of (actions.UnsetVar scope name) = names.UnsetVar
name_of (actions.StrictMode on) = names.StrictMode

-- ---- words

-- actions on fields and on the mode, and the end of the rules
unfoldable pub field_action : List ℕ → Option ActionName
field_action word =
    if bytes_eq word (codes "allow") then Some names.Allow
    else (if bytes_eq word (codes "add-header") then Some names.AddHeader
    else (if bytes_eq word (codes "set-header") then Some names.SetHeader
    else (if bytes_eq word (codes "del-header") then Some names.DelHeader
    else (if bytes_eq word (codes "replace-header") then Some names.ReplaceHeader
    else (if bytes_eq word (codes "replace-value") then Some names.ReplaceValue
    else (if bytes_eq word (codes "strict-mode") then Some names.StrictMode
    else None))))))

-- actions on a request line
unfoldable pub line_action : List ℕ → Option ActionName
line_action word =
    if bytes_eq word (codes "set-method") then Some names.SetMethod
    else (if bytes_eq word (codes "set-path") then Some names.SetPath
    else (if bytes_eq word (codes "set-pathq") then Some names.SetPathq
    else (if bytes_eq word (codes "set-uri") then Some names.SetUri
    else (if bytes_eq word (codes "set-query") then Some names.SetQuery
    else (if bytes_eq word (codes "replace-path") then Some names.ReplacePath
    else (if bytes_eq word (codes "replace-pathq") then Some names.ReplacePathq
    else (if bytes_eq word (codes "replace-uri") then Some names.ReplaceUri
    else None)))))))

-- the word is this name, or has it and a bracket in front
abbrev pub is_call_of : (name : List ℕ) → List ℕ → Bool
is_call_of name word = bytes_eq word name || starts_with nat_eq word (name ++ codes "(")

-- answers, a status, and variables, whose name stands in brackets behind that of the action
unfoldable pub other_action : List ℕ → Option ActionName
other_action word =
    if bytes_eq word (codes "deny") then Some names.Deny
    else (if bytes_eq word (codes "redirect") then Some names.Redirect
    else (if bytes_eq word (codes "return") then Some names.Return
    else (if bytes_eq word (codes "set-status") then Some names.SetStatus
    else (if is_call_of (codes "set-var") word then Some names.SetVar
    else (if is_call_of (codes "unset-var") word then Some names.UnsetVar
    else None)))))

abbrev pub or_else : Option ActionName → Option ActionName → Option ActionName
or_else (Some name) other = Some name
or_else None other = other

-- the action of a word
abbrev pub action_named : List ℕ → Option ActionName
action_named word = or_else (field_action word) (or_else (line_action word) (other_action word))

-- ---- actions on a request line, by their arguments

-- a pattern stands in front of the text
abbrev pub takes_pattern : ActionName → Bool
takes_pattern names.ReplacePath = true
takes_pattern names.ReplacePathq = true
takes_pattern names.ReplaceUri = true
takes_pattern name = false

abbrev pub by_text : ActionName → Fmt → Option Action
by_text names.SetMethod fmt = Some (actions.SetMethod fmt)
by_text names.SetPath fmt = Some (actions.SetPath fmt)
by_text names.SetPathq fmt = Some (actions.SetPathq fmt)
by_text names.SetUri fmt = Some (actions.SetUri fmt)
by_text names.SetQuery fmt = Some (actions.SetQuery fmt)
by_text name fmt = None

abbrev pub by_pattern : ActionName → Pattern → Fmt → Option Action
by_pattern names.ReplacePath pat fmt = Some (actions.ReplacePath pat fmt)
by_pattern names.ReplacePathq pat fmt = Some (actions.ReplacePathq pat fmt)
by_pattern names.ReplaceUri pat fmt = Some (actions.ReplaceUri pat fmt)
by_pattern name pat fmt = None

-- ---- patterns

-- the names that go are told by a pattern
abbrev pub del_holds_pattern : DelBy → Bool
del_holds_pattern (Str text) = false
del_holds_pattern (Beg text) = false
del_holds_pattern (End text) = false
del_holds_pattern (Sub text) = false
del_holds_pattern (Reg pat) = true

-- the text of the location has one
abbrev pub location_holds_pattern : RedirectTo → Bool
location_holds_pattern (Location fmt) = formats.holds_pattern fmt
location_holds_pattern (Prefix fmt) = formats.holds_pattern fmt
location_holds_pattern (Scheme fmt) = formats.holds_pattern fmt

-- the text of the body has one
abbrev pub payload_holds_pattern : Option Payload → Bool
payload_holds_pattern None = false
payload_holds_pattern (Some (Literal text)) = false
payload_holds_pattern (Some (Format fmt)) = formats.holds_pattern fmt

-- the text of the field has one
abbrev pub hdr_holds_pattern : Hdr → Bool
hdr_holds_pattern hdr = formats.holds_pattern hdr.value

-- the action has one, itself or in a text
abbrev pub action_holds_pattern : Action → Bool
action_holds_pattern actions.Allow = false
action_holds_pattern (actions.Deny code) = false
action_holds_pattern (actions.AddHeader name fmt) = formats.holds_pattern fmt
action_holds_pattern (actions.SetHeader name fmt) = formats.holds_pattern fmt
action_holds_pattern (actions.DelHeader by) = del_holds_pattern by
action_holds_pattern (actions.ReplaceHeader name pat fmt) = true
action_holds_pattern (actions.ReplaceValue name pat fmt) = true
action_holds_pattern (actions.SetMethod fmt) = formats.holds_pattern fmt
action_holds_pattern (actions.SetPath fmt) = formats.holds_pattern fmt
action_holds_pattern (actions.SetPathq fmt) = formats.holds_pattern fmt
action_holds_pattern (actions.SetUri fmt) = formats.holds_pattern fmt
action_holds_pattern (actions.SetQuery fmt) = formats.holds_pattern fmt
action_holds_pattern (actions.ReplacePath pat fmt) = true
action_holds_pattern (actions.ReplacePathq pat fmt) = true
action_holds_pattern (actions.ReplaceUri pat fmt) = true
action_holds_pattern (actions.SetStatus code reason) = false
action_holds_pattern (actions.Redirect to code drop_query append_slash) = location_holds_pattern to
action_holds_pattern (actions.Return status content_type payload hdrs) =
    payload_holds_pattern payload || list_any hdr_holds_pattern hdrs
action_holds_pattern (actions.SetVar scope name expr) = exprs.holds_pattern expr
action_holds_pattern (actions.UnsetVar scope name) = false
action_holds_pattern (actions.StrictMode on) = false

-- the condition has one
abbrev pub cond_holds_pattern : Option Cond → Bool
cond_holds_pattern None = false
cond_holds_pattern (Some cond) = conditions.holds_pattern cond

-- the action of the rule has one, or its condition
abbrev pub rule_holds_pattern : Rule → Bool
rule_holds_pattern rule = cond_holds_pattern rule.cond || action_holds_pattern rule.action

-- a rule of the list does
abbrev pub rules_hold_pattern : List Rule → Bool
rules_hold_pattern rules = list_any rule_holds_pattern rules
