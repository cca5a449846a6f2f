-- An action that is read can be said again.
use Rattle.std.proofs.Common.{◌≡◌, ℕ, Bool, true, cond, List, [], ◌∷◌, length, Ok, Err, refl}
use Rattle.std.specs.Prelude.{◌&&◌, Option, Some, None, codes}
use Rattle.std.specs.Str.{bytes_eq}
use Rattle.px_pattern.specs.Pattern.{Pattern}
use Rattle.px_sample.specs.declared.scope.Scope.{Scope}
use Rattle.px_expr.specs.declared.expr.Expr.{Expr}
use Rattle.log_format.specs.declared.fmt.Fmt.{Fmt}
use Rattle.http_rules.specs.declared.rule.action.ActionName.{ActionName}
use Rattle.http_rules.specs.declared.rule.action.ActionName.TheVariants as names
use Rattle.http_rules.specs.declared.rule.action.Direction.{Direction}
use Rattle.http_rules.specs.declared.rule.action.DelBy.{DelBy}
use Rattle.http_rules.specs.declared.rule.action.DelBy.TheVariants as dels
use Rattle.http_rules.specs.declared.rule.action.Action.{Action}
use Rattle.http_rules.specs.declared.rule.action.Action.TheVariants as actions
use Rattle.http_rules.specs.Rule.Actions.{by_text, by_pattern}
use Rattle.cfg_expr.specs.declared.side.Side.{Side}
use Rattle.cfg_expr.specs.Steps as steps
use Rattle.cfg_expr.specs.Reading.{plain, ◌>>=◌}
use Rattle.cfg_expr.specs.Exprs.{expr_of}
use Rattle.cfg_parse.specs.declared.action.fault.RuleKind.TheVariants.{Argument}
use Rattle.cfg_parse.specs.declared.action.parts.ActionParts.{ActionParts}
use Rattle.cfg_parse.specs.declared.action.parts.ActionParts.TheVariants as parts
use Rattle.cfg_parse.specs.Action.Faults.{Read, RuleReading, of_text, argument}
use Rattle.cfg_parse.specs.Action.Names.{side_of}
use Rattle.cfg_parse.specs.Action.Arguments.{Words, name_of, made_name_at, variable_behind, code_of}
use Rattle.cfg_parse.specs.Action.Asked.{format_at}
use Rattle.cfg_parse.specs.Action.Plain.{Behind, denial_of, is_status, denied_with, denied, with_body, is_reason, reasoned, reason_behind, status_set, variable_unset, mode_of, mode_set}
use Rattle.cfg_parse.specs.Action.Redirects as redirects
use Rattle.cfg_parse.specs.Action.RedirectOptions.{redirect_options}
use Rattle.cfg_parse.specs.Action.Returns as returns
use Rattle.cfg_parse.specs.Action.ReturnOptions.{return_options}
use Rattle.cfg_parse.specs.Action.Actions.{name_and_format, pattern_and_format, named_by, told_by, matched_by, is_match_flag, deleted, deleted_matching, deleted_behind, field_deleted, made_by, replaced_by, field_at, known, set_at, changed_at, line_at, variable_set, whole, whole_action, redirect_parts, return_parts, action_parts, made_of}
use Rattle.cfg_laws.specs.Spelled.{is_spelled, is_spelled_format}
use Rattle.cfg_laws.specs.SpelledActions.{keeps_case, is_spelled_del, is_spelled_action}
use Rattle.cfg_laws.proofs.ReadLemmas.Steps.{Gives, Has, gives_so, gives_behind, gives_either, reads_either}
use Rattle.cfg_laws.proofs.ReadLemmas.Exprs.{whole_gives}
use Rattle.cfg_laws.proofs.ReadLemmas.Arguments.{any_behind, text_gives, fmt_said, format_said, named_said, name_and_format_said, both_said, pattern_and_format_said}
use Rattle.cfg_laws.proofs.ReadLemmas.Options.{any_then, are_redirects, redirects_said, redirects_give, redirect_gives, are_replies, replies_said, replies_give, return_gives}

-- an action that can be said, whatever words are behind it
abbrev action_said : Side → Behind → Bool
action_said side found = is_spelled_action side found.0

-- ---- fields

made_said : (made : List ℕ → Fmt → Action) (side : Side) (words : Words) → ((name : List ℕ) (fmt : Fmt) → is_spelled_format side fmt ≡ true → is_spelled_action side (made name fmt) ≡ true)
    → Gives (action_said side) (made_by made side words).gives
made_said made side words said = gives_behind (named_said side) (action_said side) (name_and_format side words).gives (λ found. plain (Ok (made found.0 found.1, found.2))) (name_and_format_said side words) (λ found is. said found.0 found.1 is)

replaced_said : (made : List ℕ → Pattern → Fmt → Action) (side : Side) (words : Words)
    → ((name : List ℕ) (pat : Pattern) (fmt : Fmt) → (keeps_case pat && is_spelled_format side fmt) ≡ true → is_spelled_action side (made name pat fmt) ≡ true) → Gives (action_said side) (replaced_by made side words).gives
replaced_said made side words said =
    let with_name : List ℕ → Pattern × Fmt × Words → RuleReading Behind = λ name found. plain (Ok (made name found.0 found.1, found.2)) in
    any_behind (action_said side) (made_name_at words) (λ name. pattern_and_format side name.1 >>= with_name name.0)
    (λ name. gives_behind (both_said side) (action_said side) (pattern_and_format side name.1).gives (with_name name.0) (pattern_and_format_said side name.1) (λ found is. said name.0 found.0 found.1 is))

named_is : (made : List ℕ → DelBy) (word : List ℕ) → ((name : List ℕ) → is_spelled_del (made name) ≡ true) → Gives is_spelled_del (named_by made word).gives
named_is made word said = any_behind is_spelled_del (name_of word) (λ name. plain (Ok (made name))) (λ name. said name)

matched_said : (word how : List ℕ) → Gives is_spelled_del (matched_by word how).gives
unfolding matched_by
matched_said word how =
    let none : RuleReading DelBy = plain (Err Argument) in
    let or_told = cond (bytes_eq how (codes "reg")) (told_by word) none in
    let or_part = cond (bytes_eq how (codes "sub")) (named_by dels.Sub word) or_told in
    let or_end = cond (bytes_eq how (codes "end")) (named_by dels.End word) or_part in
    let or_begin = cond (bytes_eq how (codes "beg")) (named_by dels.Beg word) or_end in
    reads_either is_spelled_del (bytes_eq how (codes "str")) (named_by dels.Str word) or_begin (named_is dels.Str word (λ name. refl))
    (reads_either is_spelled_del (bytes_eq how (codes "beg")) (named_by dels.Beg word) or_end (named_is dels.Beg word (λ name. refl))
    (reads_either is_spelled_del (bytes_eq how (codes "end")) (named_by dels.End word) or_part (named_is dels.End word (λ name. refl))
    (reads_either is_spelled_del (bytes_eq how (codes "sub")) (named_by dels.Sub word) or_told (named_is dels.Sub word (λ name. refl))
    (reads_either is_spelled_del (bytes_eq how (codes "reg")) (told_by word) none refl tt))))

deleted_said : (side : Side) (others : Words) (by : DelBy) → is_spelled_del by ≡ true → Gives (action_said side) (deleted others by).gives
unfolding is_spelled_action
deleted_said side others by h = h

by_name : (side : Side) (word : List ℕ) (others : Words) → Gives (action_said side) (named_by dels.Str word >>= deleted others).gives
by_name side word others = gives_behind is_spelled_del (action_said side) (named_by dels.Str word).gives (deleted others) (named_is dels.Str word (λ name. refl)) (deleted_said side others)

matching_said : (side : Side) (word : List ℕ) (others : Words) → Gives (action_said side) (deleted_matching word others).gives
unfolding deleted_matching
matching_said side word others = any_behind (action_said side) (argument others) (λ how. matched_by word how.0 >>= deleted how.1)
    (λ how. gives_behind is_spelled_del (action_said side) (matched_by word how.0).gives (deleted how.1) (matched_said word how.0) (deleted_said side how.1))

behind_said : (side : Side) (word : List ℕ) (words : Words) → Gives (action_said side) (deleted_behind word words).gives
behind_said side word [] = by_name side word []
behind_said side word (flag ∷ others) =
    reads_either (action_said side) (is_match_flag flag) (deleted_matching word others) (named_by dels.Str word >>= deleted (flag ∷ others)) (matching_said side word others) (by_name side word (flag ∷ others))

field_said : (side : Side) (words : Words) → Gives (action_said side) (field_deleted words).gives
unfolding field_deleted
field_said side words = any_behind (action_said side) (argument words) (λ word. deleted_behind word.0 word.1) (λ word. behind_said side word.0 word.1)

-- ---- the line of a request

known_said : (side : Side) (found : Option Action) (others : Words) → Has (is_spelled_action side) found → Gives (action_said side) (known found others).gives
known_said side None others h = tt
known_said side (Some action) others h = h

set_said : (side : Side) (name : ActionName) (words : Words) → ((fmt : Fmt) → is_spelled_format side fmt ≡ true → Has (is_spelled_action side) (by_text name fmt)) → Gives (action_said side) (set_at side name words).gives
unfolding set_at
set_said side name words said = gives_behind (fmt_said side) (action_said side) (format_at side words).gives (λ fmt. known (by_text name fmt.0) fmt.1) (format_said side words) (λ fmt is. known_said side (by_text name fmt.0) fmt.1 (said fmt.0 is))

changed_said : (side : Side) (name : ActionName) (words : Words) → ((pat : Pattern) (fmt : Fmt) → (keeps_case pat && is_spelled_format side fmt) ≡ true → Has (is_spelled_action side) (by_pattern name pat fmt))
    → Gives (action_said side) (changed_at side name words).gives
unfolding changed_at
changed_said side name words said =
    gives_behind (both_said side) (action_said side) (pattern_and_format side words).gives (λ found. known (by_pattern name found.0 found.1) found.2) (pattern_and_format_said side words)
    (λ found is. known_said side (by_pattern name found.0 found.1) found.2 (said found.0 found.1 is))

-- ---- without formats and patterns

denied_said : (side : Side) (direction : Direction) (words : Words) → Gives (action_said side) (denied direction words)
unfolding denied denied_with is_spelled_action
denied_said side direction [] = refl
denied_said side direction (word ∷ others) =
    let with_code : List ℕ × Words → Read Behind = λ w. steps.◌>>=◌ (code_of 400 599 w.0) (λ code. Ok (actions.Deny code, w.1)) in
    gives_either (action_said side) (is_status word) (denied_with others) (Ok (actions.Deny (denial_of direction), word ∷ others))
    (any_then (action_said side) (argument others) with_code (λ w. any_then (action_said side) (code_of 400 599 w.0) (λ code. Ok (actions.Deny code, w.1)) (λ code. refl))) refl

reason_said : (side : Side) (status : ℕ) (words : Words) → Gives (action_said side) (reason_behind status words)
unfolding reasoned is_spelled_action
reason_said side status [] = refl
reason_said side status (word ∷ others) =
    gives_either (action_said side) (is_reason word) (reasoned status others) (Ok (actions.SetStatus status None, word ∷ others))
    (any_then (action_said side) (argument others) (λ reason. Ok (actions.SetStatus status (Some reason.0), reason.1)) (λ reason. refl)) refl

status_said : (side : Side) (words : Words) → Gives (action_said side) (status_set words)
unfolding status_set
status_said side words =
    let of_code : List ℕ × Words → ℕ → Read Behind = λ word code. steps.◌>>=◌ (with_body code) (λ status. reason_behind status word.1) in
    let of_word : List ℕ × Words → Read Behind = λ word. steps.◌>>=◌ (code_of 200 999 word.0) (of_code word) in
    any_then (action_said side) (argument words) of_word
    (λ word. any_then (action_said side) (code_of 200 999 word.0) (of_code word)
    (λ code. any_then (action_said side) (with_body code) (λ status. reason_behind status word.1) (λ status. reason_said side status word.1)))

unset_said : (side : Side) (word : List ℕ) (words : Words) → Gives (action_said side) (variable_unset word words)
unfolding variable_unset is_spelled_action
unset_said side word words =
    any_then (action_said side) (variable_behind (codes "unset-var(") word) (λ variable. Ok (actions.UnsetVar variable.0 variable.1, words)) (λ variable. refl)

mode_said : (side : Side) (words : Words) → Gives (action_said side) (mode_set words)
unfolding mode_set is_spelled_action
mode_said side words =
    let with_mode : List ℕ × Words → Read Behind = λ word. steps.◌>>=◌ (mode_of word.0) (λ on. Ok (actions.StrictMode on, word.1)) in
    any_then (action_said side) (argument words) with_mode (λ word. any_then (action_said side) (mode_of word.0) (λ on. Ok (actions.StrictMode on, word.1)) (λ on. refl))

-- ---- variables

variable_said : (side : Side) (word : List ℕ) (words : Words) → Gives (action_said side) (variable_set side word words).gives
unfolding variable_set is_spelled_action
variable_said side word words =
    let with_expr : Scope × List ℕ → List ℕ × Words → Expr → RuleReading Behind = λ variable text expr. plain (Ok (actions.SetVar variable.0 variable.1 expr, text.1)) in
    let of_word : Scope × List ℕ → List ℕ × Words → RuleReading Behind = λ variable text. of_text (expr_of side text.0) >>= with_expr variable text in
    any_behind (action_said side) (variable_behind (codes "set-var(") word) (λ variable. plain (argument words) >>= of_word variable)
    (λ variable. any_behind (action_said side) (argument words) (of_word variable)
    (λ text. gives_behind (is_spelled side) (action_said side) (of_text (expr_of side text.0)).gives (with_expr variable text)
    (text_gives (is_spelled side) (expr_of side text.0).gives (whole_gives side text.0)) (λ expr is. is)))

-- ---- all

-- what is known of an action can be said
abbrev pub are_said : Side → ActionParts → Bool
are_said side (parts.Whole action) = is_spelled_action side action
are_said side (parts.Redirect options) = are_redirects side options
are_said side (parts.Return options) = are_replies side options

abbrev pub parts_said : Side → ActionParts × Words → Bool
parts_said side found = are_said side found.0

whole_said : (side : Side) (reading : RuleReading Behind) → Gives (action_said side) reading.gives → Gives (parts_said side) (whole reading).gives
whole_said side reading h = gives_behind (action_said side) (parts_said side) reading.gives (λ found. plain (Ok (parts.Whole found.0, found.1))) h (λ found is. is)

redirect_said : (side : Side) (words : Words) → Gives (parts_said side) (redirect_parts side words).gives
unfolding redirect_parts
redirect_said side words =
    gives_behind (redirects_said side) (parts_said side) (redirect_options side (length words) redirects.no_options words).gives (λ found. plain (Ok (parts.Redirect found.0, found.1)))
    (redirects_give side (length words) redirects.no_options words refl) (λ found is. is)

return_said : (side : Side) (words : Words) → Gives (parts_said side) (return_parts side words).gives
unfolding return_parts
return_said side words =
    gives_behind (replies_said side) (parts_said side) (return_options side (length words) returns.no_options words).gives (λ found. plain (Ok (parts.Return found.0, found.1)))
    (replies_give side (length words) returns.no_options words refl) (λ found is. is)

pub parts_give : (direction : Direction) (name : ActionName) (word : List ℕ) (words : Words) → Gives (parts_said (side_of direction)) (action_parts direction name word words).gives
unfolding action_parts field_at line_at is_spelled_action
parts_give direction names.Allow word words = refl
parts_give direction names.Deny word words = whole_said (side_of direction) (whole_action direction names.Deny word words) (denied_said (side_of direction) direction words)
parts_give direction names.AddHeader word words = whole_said (side_of direction) (whole_action direction names.AddHeader word words) (made_said actions.AddHeader (side_of direction) words (λ name fmt is. is))
parts_give direction names.SetHeader word words = whole_said (side_of direction) (whole_action direction names.SetHeader word words) (made_said actions.SetHeader (side_of direction) words (λ name fmt is. is))
parts_give direction names.DelHeader word words = whole_said (side_of direction) (whole_action direction names.DelHeader word words) (field_said (side_of direction) words)
parts_give direction names.ReplaceHeader word words = whole_said (side_of direction) (whole_action direction names.ReplaceHeader word words) (replaced_said actions.ReplaceHeader (side_of direction) words (λ name pat fmt is. is))
parts_give direction names.ReplaceValue word words = whole_said (side_of direction) (whole_action direction names.ReplaceValue word words) (replaced_said actions.ReplaceValue (side_of direction) words (λ name pat fmt is. is))
parts_give direction names.SetMethod word words = whole_said (side_of direction) (whole_action direction names.SetMethod word words) (set_said (side_of direction) names.SetMethod words (λ fmt is. is))
parts_give direction names.SetPath word words = whole_said (side_of direction) (whole_action direction names.SetPath word words) (set_said (side_of direction) names.SetPath words (λ fmt is. is))
parts_give direction names.SetPathq word words = whole_said (side_of direction) (whole_action direction names.SetPathq word words) (set_said (side_of direction) names.SetPathq words (λ fmt is. is))
parts_give direction names.SetUri word words = whole_said (side_of direction) (whole_action direction names.SetUri word words) (set_said (side_of direction) names.SetUri words (λ fmt is. is))
parts_give direction names.SetQuery word words = whole_said (side_of direction) (whole_action direction names.SetQuery word words) (set_said (side_of direction) names.SetQuery words (λ fmt is. is))
parts_give direction names.ReplacePath word words = whole_said (side_of direction) (whole_action direction names.ReplacePath word words) (changed_said (side_of direction) names.ReplacePath words (λ pat fmt is. is))
parts_give direction names.ReplacePathq word words = whole_said (side_of direction) (whole_action direction names.ReplacePathq word words) (changed_said (side_of direction) names.ReplacePathq words (λ pat fmt is. is))
parts_give direction names.ReplaceUri word words = whole_said (side_of direction) (whole_action direction names.ReplaceUri word words) (changed_said (side_of direction) names.ReplaceUri words (λ pat fmt is. is))
parts_give direction names.SetStatus word words = whole_said (side_of direction) (whole_action direction names.SetStatus word words) (status_said (side_of direction) words)
parts_give direction names.Redirect word words = redirect_said (side_of direction) words
parts_give direction names.Return word words = return_said (side_of direction) words
parts_give direction names.SetVar word words = whole_said (side_of direction) (whole_action direction names.SetVar word words) (variable_said (side_of direction) word words)
parts_give direction names.UnsetVar word words = whole_said (side_of direction) (whole_action direction names.UnsetVar word words) (unset_said (side_of direction) word words)
parts_give direction names.StrictMode word words = whole_said (side_of direction) (whole_action direction names.StrictMode word words) (mode_said (side_of direction) words)

-- what is known makes an action that can be said
pub made_give : (side : Side) (known : ActionParts) → are_said side known ≡ true → Gives (is_spelled_action side) (made_of known)
made_give side (parts.Whole action) h = h
made_give side (parts.Redirect options) h = redirect_gives side options h
made_give side (parts.Return options) h = return_gives side options h

-- as a law
pub actions_spelled : (direction : Direction) (name : ActionName) (word : List ℕ) (words : Words) (known : ActionParts) (rest : Words) (action : Action)
    → (action_parts direction name word words).gives ≡ Ok (known, rest) → made_of known ≡ Ok action → is_spelled_action (side_of direction) action ≡ true
actions_spelled direction name word words known rest action is made =
    let side = side_of direction in
    gives_so (is_spelled_action side) (made_of known) action (made_give side known (gives_so (parts_said side) (action_parts direction name word words).gives (known, rest) (parts_give direction name word words) is)) made
