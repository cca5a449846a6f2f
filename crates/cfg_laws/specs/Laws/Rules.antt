-- Rules of a canonical text, and what is read of their words.
use Rattle.std.specs.Prelude.{◌≡◌, ℕ, true, List, [], ◌∷◌, ◌++◌, Option, Some, None, Ok}
use Rattle.std.specs.List.{flat_map}
use Rattle.px_pattern.specs.Pattern.{Pattern}
use Rattle.http_rules.specs.declared.rule.action.Direction.{Direction}
use Rattle.http_rules.specs.declared.rule.action.DelBy.{DelBy}
use Rattle.http_rules.specs.declared.rule.action.DelBy.TheVariants as dels
use Rattle.http_rules.specs.declared.rule.action.Action.{Action}
use Rattle.http_rules.specs.declared.rule.action.Action.TheVariants as actions
use Rattle.http_rules.specs.declared.rule.reply.RedirectTo.{RedirectTo}
use Rattle.http_rules.specs.declared.rule.reply.RedirectTo.TheVariants.{Location, Prefix, Scheme}
use Rattle.http_rules.specs.declared.rule.reply.Payload.{Payload}
use Rattle.http_rules.specs.declared.rule.reply.Payload.TheVariants as payloads
use Rattle.http_rules.specs.declared.rule.reply.Hdr.{Hdr}
use Rattle.http_rules.specs.declared.rule.rule.Rule.{Rule}
use Rattle.http_rules.specs.Rule.Valid.{IsGoodRule}
use Rattle.cfg_expr.specs.declared.condition.written.AclLine.{AclLine}
use Rattle.cfg_expr.specs.Condition.Conditions.{rule_end}
use Rattle.cfg_parse.specs.Action.Names.{side_of}
use Rattle.cfg_parse.specs.Action.Rules.{rule_of}
use Rattle.cfg_print.specs.Actions.{action_words}
use Rattle.cfg_laws.specs.SpelledActions.{is_spelled_action, ends_action}
use Rattle.cfg_laws.specs.Laws.Exprs.{expr_patterns}
use Rattle.cfg_laws.specs.Laws.Formats.{format_patterns}

-- ---- patterns, in the order in which they are asked for

abbrev pub del_patterns : DelBy → List Pattern
del_patterns (dels.Str name) = []
del_patterns (dels.Beg text) = []
del_patterns (dels.End text) = []
del_patterns (dels.Sub text) = []
del_patterns (dels.Reg pat) = pat ∷ []

abbrev pub target_patterns : RedirectTo → List Pattern
target_patterns (Location fmt) = format_patterns fmt
target_patterns (Prefix fmt) = format_patterns fmt
target_patterns (Scheme fmt) = format_patterns fmt

abbrev pub payload_patterns : Option Payload → List Pattern
payload_patterns None = []
payload_patterns (Some (payloads.Literal text)) = []
payload_patterns (Some (payloads.Format fmt)) = format_patterns fmt

abbrev pub hdr_patterns : Hdr → List Pattern
hdr_patterns hdr = format_patterns hdr.value

-- the patterns of an action: its own in front of those of its text
unfoldable pub action_patterns : Action → List Pattern
action_patterns (actions.AddHeader name fmt) = format_patterns fmt
action_patterns (actions.SetHeader name fmt) = format_patterns fmt
action_patterns (actions.DelHeader by) = del_patterns by
action_patterns (actions.ReplaceHeader name pat fmt) = pat ∷ format_patterns fmt
action_patterns (actions.ReplaceValue name pat fmt) = pat ∷ format_patterns fmt
action_patterns (actions.SetMethod fmt) = format_patterns fmt
action_patterns (actions.SetPath fmt) = format_patterns fmt
action_patterns (actions.SetPathq fmt) = format_patterns fmt
action_patterns (actions.SetUri fmt) = format_patterns fmt
action_patterns (actions.SetQuery fmt) = format_patterns fmt
action_patterns (actions.ReplacePath pat fmt) = pat ∷ format_patterns fmt
action_patterns (actions.ReplacePathq pat fmt) = pat ∷ format_patterns fmt
action_patterns (actions.ReplaceUri pat fmt) = pat ∷ format_patterns fmt
action_patterns (actions.Redirect to code drop_query append_slash) = target_patterns to
action_patterns (actions.Return status content_type payload hdrs) = payload_patterns payload ++ flat_map hdr_patterns hdrs
action_patterns (actions.SetVar scope name expr) = expr_patterns expr
action_patterns _ = []

-- ---- laws

-- A rule is read back where its condition is: its words ask for its action's patterns, and give it.
abbrev pub RulesReadBack : Type 0
RulesReadBack = (direction : Direction) (lines : List AclLine) (rule : Rule) (ends : List (List ℕ)) → IsGoodRule direction rule
    → is_spelled_action (side_of direction) rule.action ≡ true → ends_action ends ≡ true → rule_end (side_of direction) lines ends ≡ record { asks = []; gives = Ok rule.cond }
    → rule_of direction lines (action_words rule.action ++ ends) ≡ record { asks = action_patterns rule.action; gives = Ok rule }
