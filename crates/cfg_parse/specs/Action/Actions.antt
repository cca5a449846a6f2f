-- One action and its arguments (Configuration Manual, sections 4.2 and 6).
use Rattle.std.specs.Prelude.{ℕ, List, [], ◌∷◌, length, Bool, false, if◌then◌else◌, Option, Some, None, Ok, Err, codes}
use Rattle.std.specs.Str.{bytes_eq}
use Rattle.log_format.specs.declared.fmt.Fmt.{Fmt}
use Rattle.px_pattern.specs.Pattern.{Pattern}
use Rattle.http_rules.specs.declared.rule.action.ActionName.{ActionName}
use Rattle.http_rules.specs.declared.rule.action.ActionName.TheVariants as names
use Rattle.http_rules.specs.declared.rule.action.Direction.{Direction}
use Rattle.http_rules.specs.declared.rule.action.DelBy.{DelBy}
use Rattle.http_rules.specs.declared.rule.action.DelBy.TheVariants.{Str, Beg, End, Sub, Reg}
use Rattle.http_rules.specs.declared.rule.action.Action.{Action}
use Rattle.http_rules.specs.declared.rule.action.Action.TheVariants as actions
use Rattle.http_rules.specs.Rule.Actions.{takes_pattern, by_text, by_pattern}
use Rattle.cfg_expr.specs.declared.side.Side.{Side}
use Rattle.cfg_expr.specs.Reading.{Reading, plain, built, ◌>>=◌}
use Rattle.cfg_expr.specs.Exprs.{expr_of}
use Rattle.cfg_parse.specs.declared.action.fault.RuleKind.TheVariants.{Argument, Keyword}
use Rattle.cfg_parse.specs.declared.action.parts.ActionParts.{ActionParts}
use Rattle.cfg_parse.specs.declared.action.parts.ActionParts.TheVariants as parts
use Rattle.cfg_parse.specs.Action.Faults.{Read, RuleReading, of_text, argument}
use Rattle.cfg_parse.specs.Action.Names.{side_of}
use Rattle.cfg_parse.specs.Action.Arguments.{Words, name_of, variable_behind, made_name_at}
use Rattle.cfg_parse.specs.Action.Asked.{format_at, pattern_at}
use Rattle.cfg_parse.specs.Action.Plain.{Behind, denied, status_set, variable_unset, mode_set}
use Rattle.cfg_parse.specs.Action.Redirects as redirects
use Rattle.cfg_parse.specs.Action.RedirectOptions.{redirect_options}
use Rattle.cfg_parse.specs.Action.Returns as returns
use Rattle.cfg_parse.specs.Action.ReturnOptions.{return_options}

-- ---- fields

-- NAME FMT, and the words behind them
unfoldable pub name_and_format : Side → Words → RuleReading (List ℕ × Fmt × Words)
name_and_format side words = do
  name ← plain (made_name_at words)
  fmt ← format_at side name.1
  plain (Ok (name.0, fmt.0, fmt.1))

-- RE FMT, and the words behind them
unfoldable pub pattern_and_format : Side → Words → RuleReading (Pattern × Fmt × Words)
pattern_and_format side words = do
  pat ← pattern_at words
  fmt ← format_at side pat.1
  plain (Ok (pat.0, fmt.0, fmt.1))

-- a name or a part of one, in lower case
abbrev pub named_by : (List ℕ → DelBy) → List ℕ → RuleReading DelBy
named_by made word = plain (name_of word) >>= λ name. plain (Ok (made name))

-- names that a pattern tells, which keeps its case
abbrev pub told_by : List ℕ → RuleReading DelBy
told_by word = built (record { text = word; icase = false }) >>= λ pat. plain (Ok (Reg pat))

-- the names that `-m` and a word mean
unfoldable pub matched_by : (word how : List ℕ) → RuleReading DelBy
matched_by word how =
    if bytes_eq how (codes "str") then named_by Str word
    else (if bytes_eq how (codes "beg") then named_by Beg word
    else (if bytes_eq how (codes "end") then named_by End word
    else (if bytes_eq how (codes "sub") then named_by Sub word
    else (if bytes_eq how (codes "reg") then told_by word
    else plain (Err Argument)))))

unfoldable pub is_match_flag : List ℕ → Bool
is_match_flag word = bytes_eq word (codes "-m")

abbrev pub deleted : Words → DelBy → RuleReading Behind
deleted others by = plain (Ok (actions.DelHeader by, others))

-- behind `-m`
unfoldable pub deleted_matching : (word : List ℕ) → Words → RuleReading Behind
deleted_matching word others = do
  how ← plain (argument others)
  by ← matched_by word how.0
  deleted how.1 by

-- what stands behind the name
abbrev pub deleted_behind : (word : List ℕ) → Words → RuleReading Behind
deleted_behind word [] = named_by Str word >>= deleted []
deleted_behind word (flag ∷ others) =
    if is_match_flag flag then deleted_matching word others else (named_by Str word >>= deleted (flag ∷ others))

-- NAME and a match
unfoldable pub field_deleted : Words → RuleReading Behind
field_deleted words = plain (argument words) >>= λ word. deleted_behind word.0 word.1

-- a field that a rule makes
abbrev pub made_by : (List ℕ → Fmt → Action) → Side → Words → RuleReading Behind
made_by made side words = name_and_format side words >>= λ found. plain (Ok (made found.0 found.1, found.2))

-- NAME RE FMT
abbrev pub replaced_by : (List ℕ → Pattern → Fmt → Action) → Side → Words → RuleReading Behind
replaced_by made side words =
    plain (made_name_at words) >>= λ name. pattern_and_format side name.1 >>= λ found. plain (Ok (made name.0 found.0 found.1, found.2))

-- actions on fields; no other is one
unfoldable pub field_at : Side → ActionName → Words → RuleReading Behind
field_at side names.AddHeader words = made_by actions.AddHeader side words
field_at side names.SetHeader words = made_by actions.SetHeader side words
field_at side names.DelHeader words = field_deleted words
field_at side names.ReplaceHeader words = replaced_by actions.ReplaceHeader side words
field_at side names.ReplaceValue words = replaced_by actions.ReplaceValue side words
field_at side _ words = plain (Err Keyword)

-- ---- the line of a request

-- an action that there is
abbrev pub known : Option Action → Words → RuleReading Behind
known None others = plain (Err Keyword)
known (Some action) others = plain (Ok (action, others))

-- FMT: a part that becomes a text
unfoldable pub set_at : Side → ActionName → Words → RuleReading Behind
set_at side name words = format_at side words >>= λ fmt. known (by_text name fmt.0) fmt.1

-- RE FMT: a part in which a pattern is replaced
unfoldable pub changed_at : Side → ActionName → Words → RuleReading Behind
changed_at side name words = pattern_and_format side words >>= λ found. known (by_pattern name found.0 found.1) found.2

-- actions on a request line
unfoldable pub line_at : Side → ActionName → Words → RuleReading Behind
line_at side name words = if takes_pattern name then changed_at side name words else set_at side name words

-- ---- variables

-- the variable is in the action's own word, and EXPR behind it
unfoldable pub variable_set : Side → (word : List ℕ) → Words → RuleReading Behind
variable_set side word words = do
  variable ← plain (variable_behind (codes "set-var(") word)
  text ← plain (argument words)
  expr ← of_text (expr_of side text.0)
  plain (Ok (actions.SetVar variable.0 variable.1 expr, text.1))

-- ---- all

-- a whole action
abbrev pub whole : RuleReading Behind → RuleReading (ActionParts × Words)
whole reading = reading >>= λ found. plain (Ok (parts.Whole found.0, found.1))

unfoldable pub redirect_parts : Side → Words → RuleReading (ActionParts × Words)
redirect_parts side words =
    redirect_options side (length words) redirects.no_options words >>= λ found. plain (Ok (parts.Redirect found.0, found.1))

unfoldable pub return_parts : Side → Words → RuleReading (ActionParts × Words)
return_parts side words =
    return_options side (length words) returns.no_options words >>= λ found. plain (Ok (parts.Return found.0, found.1))

-- An action that no options make, and what stands behind it. All others are on a request line.
abbrev pub whole_action : Direction → ActionName → (word : List ℕ) → Words → RuleReading Behind
whole_action direction names.Allow word words = plain (Ok (actions.Allow, words))
whole_action direction names.Deny word words = plain (denied direction words)
whole_action direction names.AddHeader word words = field_at (side_of direction) names.AddHeader words
whole_action direction names.SetHeader word words = field_at (side_of direction) names.SetHeader words
whole_action direction names.DelHeader word words = field_at (side_of direction) names.DelHeader words
whole_action direction names.ReplaceHeader word words = field_at (side_of direction) names.ReplaceHeader words
whole_action direction names.ReplaceValue word words = field_at (side_of direction) names.ReplaceValue words
whole_action direction names.SetStatus word words = plain (status_set words)
whole_action direction names.SetVar word words = variable_set (side_of direction) word words
whole_action direction names.UnsetVar word words = plain (variable_unset word words)
whole_action direction names.StrictMode word words = plain (mode_set words)
whole_action direction name word words = line_at (side_of direction) name words

-- the action of a name and its own word, and what stands behind it
unfoldable pub action_parts : Direction → ActionName → (word : List ℕ) → Words → RuleReading (ActionParts × Words)
action_parts direction names.Redirect word words = redirect_parts (side_of direction) words
action_parts direction names.Return word words = return_parts (side_of direction) words
action_parts direction name word words = whole (whole_action direction name word words)

-- The action that its parts make. What lacks in them counts as behind the last word of the line.
abbrev pub made_of : ActionParts → Read Action
made_of (parts.Whole action) = Ok action
made_of (parts.Redirect options) = redirects.redirect_of options
made_of (parts.Return options) = returns.return_of options
