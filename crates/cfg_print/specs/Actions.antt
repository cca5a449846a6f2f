-- The words of an action, with each option written that has a default (Configuration Manual, section 4.2).
use Rattle.std.specs.Prelude.{ℕ, List, [], ◌∷◌, ◌++◌, Bool, true, false, Option, Some, None, codes}
use Rattle.std.specs.List.{flat_map}
use Rattle.std.specs.Fmt.{decimal}
use Rattle.px_pattern.specs.Pattern.{Pattern}
use Rattle.px_sample.specs.declared.scope.Scope.{Scope}
use Rattle.log_format.specs.declared.fmt.Fmt.{Fmt}
use Rattle.http_rules.specs.declared.rule.action.DelBy.{DelBy}
use Rattle.http_rules.specs.declared.rule.action.DelBy.TheVariants as dels
use Rattle.http_rules.specs.declared.rule.action.Action.{Action}
use Rattle.http_rules.specs.declared.rule.action.Action.TheVariants as actions
use Rattle.http_rules.specs.declared.rule.reply.RedirectTo.{RedirectTo}
use Rattle.http_rules.specs.declared.rule.reply.RedirectTo.TheVariants.{Location, Prefix, Scheme}
use Rattle.http_rules.specs.declared.rule.reply.Payload.{Payload}
use Rattle.http_rules.specs.declared.rule.reply.Payload.TheVariants as payloads
use Rattle.http_rules.specs.declared.rule.reply.Hdr.{Hdr}
use Rattle.cfg_print.specs.Exprs.{expr_text, variable_text}
use Rattle.cfg_print.specs.Formats.{format_text}

-- ---- fields

-- a name or a part of one behind `del-header`, and how it is compared
abbrev pub matched : (text how : List ℕ) → List (List ℕ)
matched text how = text ∷ codes "-m" ∷ how ∷ []

abbrev pub del_words : DelBy → List (List ℕ)
del_words (dels.Str name) = name ∷ []
del_words (dels.Beg text) = matched text (codes "beg")
del_words (dels.End text) = matched text (codes "end")
del_words (dels.Sub text) = matched text (codes "sub")
del_words (dels.Reg pat) = matched pat.text (codes "reg")

-- ---- replies

abbrev pub target_words : RedirectTo → List (List ℕ)
target_words (Location fmt) = codes "location" ∷ format_text fmt ∷ []
target_words (Prefix fmt) = codes "prefix" ∷ format_text fmt ∷ []
target_words (Scheme fmt) = codes "scheme" ∷ format_text fmt ∷ []

-- a word that stands where something holds
abbrev pub where_so : Bool → List ℕ → List (List ℕ)
where_so true word = word ∷ []
where_so false word = []

abbrev pub redirect_words : RedirectTo → (code : ℕ) → (drop_query append_slash : Bool) → List (List ℕ)
redirect_words to code drop_query append_slash =
    target_words to ++ codes "code" ∷ decimal code ∷ where_so drop_query (codes "drop-query") ++ where_so append_slash (codes "append-slash")

abbrev pub type_words : Option (List ℕ) → List (List ℕ)
type_words None = []
type_words (Some text) = codes "content-type" ∷ text ∷ []

abbrev pub payload_words : Option Payload → List (List ℕ)
payload_words None = []
payload_words (Some (payloads.Literal text)) = codes "string" ∷ text ∷ []
payload_words (Some (payloads.Format fmt)) = codes "lf-string" ∷ format_text fmt ∷ []

abbrev pub hdr_words : Hdr → List (List ℕ)
hdr_words hdr = codes "hdr" ∷ hdr.name ∷ format_text hdr.value ∷ []

abbrev pub return_words : (status : ℕ) → Option (List ℕ) → Option Payload → List Hdr → List (List ℕ)
return_words status content_type payload hdrs =
    codes "status" ∷ decimal status ∷ type_words content_type ++ payload_words payload ++ flat_map hdr_words hdrs

-- ---- others

abbrev pub reason_words : Option (List ℕ) → List (List ℕ)
reason_words None = []
reason_words (Some text) = codes "reason" ∷ text ∷ []

-- an action whose own word has a variable in brackets
abbrev pub variable_word : (name : List ℕ) → Scope → (variable : List ℕ) → List ℕ
variable_word name scope variable = name ++ 40 ∷ variable_text scope variable ++ 41 ∷ []

abbrev pub switch_text : Bool → List ℕ
switch_text true = codes "on"
switch_text false = codes "off"

-- a name and the arguments behind it
abbrev pub by_format : (name : List ℕ) → Fmt → List (List ℕ)
by_format name fmt = name ∷ format_text fmt ∷ []

abbrev pub by_pattern : (name : List ℕ) → Pattern → Fmt → List (List ℕ)
by_pattern name pat fmt = name ∷ pat.text ∷ format_text fmt ∷ []

-- ---- all

-- the words of an action
unfoldable pub action_words : Action → List (List ℕ)
action_words actions.Allow = codes "allow" ∷ []
action_words (actions.Deny code) = codes "deny" ∷ codes "status" ∷ decimal code ∷ []
action_words (actions.AddHeader name fmt) = codes "add-header" ∷ name ∷ format_text fmt ∷ []
action_words (actions.SetHeader name fmt) = codes "set-header" ∷ name ∷ format_text fmt ∷ []
action_words (actions.DelHeader by) = codes "del-header" ∷ del_words by
action_words (actions.ReplaceHeader name pat fmt) = codes "replace-header" ∷ name ∷ pat.text ∷ format_text fmt ∷ []
action_words (actions.ReplaceValue name pat fmt) = codes "replace-value" ∷ name ∷ pat.text ∷ format_text fmt ∷ []
action_words (actions.SetMethod fmt) = by_format (codes "set-method") fmt
action_words (actions.SetPath fmt) = by_format (codes "set-path") fmt
action_words (actions.SetPathq fmt) = by_format (codes "set-pathq") fmt
action_words (actions.SetUri fmt) = by_format (codes "set-uri") fmt
action_words (actions.SetQuery fmt) = by_format (codes "set-query") fmt
action_words (actions.ReplacePath pat fmt) = by_pattern (codes "replace-path") pat fmt
action_words (actions.ReplacePathq pat fmt) = by_pattern (codes "replace-pathq") pat fmt
action_words (actions.ReplaceUri pat fmt) = by_pattern (codes "replace-uri") pat fmt
action_words (actions.SetStatus code reason) = codes "set-status" ∷ decimal code ∷ reason_words reason
action_words (actions.Redirect to code drop_query append_slash) = codes "redirect" ∷ redirect_words to code drop_query append_slash
action_words (actions.Return status content_type payload hdrs) = codes "return" ∷ return_words status content_type payload hdrs
action_words (actions.SetVar scope name expr) = variable_word (codes "set-var") scope name ∷ expr_text expr ∷ []
action_words (actions.UnsetVar scope name) = variable_word (codes "unset-var") scope name ∷ []
action_words (actions.StrictMode on) = codes "strict-mode" ∷ switch_text on ∷ []
