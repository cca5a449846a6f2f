-- What of actions a text can say. An action that was read is so; one that was made otherwise need not be.
use Rattle.std.specs.Prelude.{ℕ, Bool, true, not, ◌||◌, ◌&&◌, List, [], ◌∷◌, Option, Some, None, codes}
use Rattle.std.specs.List.{list_all}
use Rattle.std.specs.Str.{bytes_eq}
use Rattle.px_pattern.specs.Pattern.{Pattern}
use Rattle.http_rules.specs.declared.rule.action.DelBy.{DelBy}
use Rattle.http_rules.specs.declared.rule.action.DelBy.TheVariants as dels
use Rattle.http_rules.specs.declared.rule.action.Action.{Action}
use Rattle.http_rules.specs.declared.rule.action.Action.TheVariants as actions
use Rattle.http_rules.specs.declared.rule.reply.RedirectTo.{RedirectTo}
use Rattle.http_rules.specs.declared.rule.reply.RedirectTo.TheVariants.{Location, Prefix, Scheme}
use Rattle.http_rules.specs.declared.rule.reply.Payload.{Payload}
use Rattle.http_rules.specs.declared.rule.reply.Payload.TheVariants as payloads
use Rattle.http_rules.specs.declared.rule.reply.Hdr.{Hdr}
use Rattle.cfg_expr.specs.declared.side.Side.{Side}
use Rattle.cfg_laws.specs.Spelled.{is_spelled, is_spelled_format}

-- a pattern of an action keeps its case: no word of an action says that it does not
abbrev pub keeps_case : Pattern → Bool
keeps_case pat = not pat.icase

abbrev pub is_spelled_del : DelBy → Bool
is_spelled_del (dels.Str name) = true
is_spelled_del (dels.Beg text) = true
is_spelled_del (dels.End text) = true
is_spelled_del (dels.Sub text) = true
is_spelled_del (dels.Reg pat) = keeps_case pat

abbrev pub is_spelled_target : Side → RedirectTo → Bool
is_spelled_target side (Location fmt) = is_spelled_format side fmt
is_spelled_target side (Prefix fmt) = is_spelled_format side fmt
is_spelled_target side (Scheme fmt) = is_spelled_format side fmt

abbrev pub is_spelled_payload : Side → Option Payload → Bool
is_spelled_payload side None = true
is_spelled_payload side (Some (payloads.Literal text)) = true
is_spelled_payload side (Some (payloads.Format fmt)) = is_spelled_format side fmt

abbrev pub is_spelled_hdr : Side → Hdr → Bool
is_spelled_hdr side hdr = is_spelled_format side hdr.value

-- an action that rules of this side can say
unfoldable pub is_spelled_action : Side → Action → Bool
is_spelled_action side (actions.AddHeader name fmt) = is_spelled_format side fmt
is_spelled_action side (actions.SetHeader name fmt) = is_spelled_format side fmt
is_spelled_action side (actions.DelHeader by) = is_spelled_del by
is_spelled_action side (actions.ReplaceHeader name pat fmt) = keeps_case pat && is_spelled_format side fmt
is_spelled_action side (actions.ReplaceValue name pat fmt) = keeps_case pat && is_spelled_format side fmt
is_spelled_action side (actions.SetMethod fmt) = is_spelled_format side fmt
is_spelled_action side (actions.SetPath fmt) = is_spelled_format side fmt
is_spelled_action side (actions.SetPathq fmt) = is_spelled_format side fmt
is_spelled_action side (actions.SetUri fmt) = is_spelled_format side fmt
is_spelled_action side (actions.SetQuery fmt) = is_spelled_format side fmt
is_spelled_action side (actions.ReplacePath pat fmt) = keeps_case pat && is_spelled_format side fmt
is_spelled_action side (actions.ReplacePathq pat fmt) = keeps_case pat && is_spelled_format side fmt
is_spelled_action side (actions.ReplaceUri pat fmt) = keeps_case pat && is_spelled_format side fmt
is_spelled_action side (actions.Redirect to code drop_query append_slash) = is_spelled_target side to
is_spelled_action side (actions.Return status content_type payload hdrs) = is_spelled_payload side payload && list_all (is_spelled_hdr side) hdrs
is_spelled_action side (actions.SetVar scope name expr) = is_spelled side expr
is_spelled_action side _ = true

-- ---- what stands behind an action

-- `if` or `unless`
abbrev pub is_sense : List ℕ → Bool
is_sense word = bytes_eq word (codes "if") || bytes_eq word (codes "unless")

-- a condition begins there, or nothing stands there
abbrev pub ends_action : List (List ℕ) → Bool
ends_action [] = true
ends_action (word ∷ others) = is_sense word
