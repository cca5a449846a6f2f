-- The arguments of a rule, word by word.
use Rattle.std.specs.Prelude.{ℕ, ◌-◌, List, [], ◌∷◌, length, take, drop, Bool, ◌&&◌, nat_le, nat_lt, nat_eq, if◌then◌else◌, Option, Some, None, Ok, Err, codes}
use Rattle.std.specs.List.{list_any, starts_with, ends_with}
use Rattle.std.specs.Str.{bytes_eq, str_to_ascii_lowercase}
use Rattle.http_model.specs.Sizes.{most_name}
use Rattle.http_model.specs.Finish.{framing_names}
use Rattle.px_bytes.specs.Tokens.{is_token}
use Rattle.px_bytes.specs.Numbers.{decimal_of}
use Rattle.px_sample.specs.declared.scope.Scope.{Scope}
use Rattle.cfg_expr.specs.Steps.{◌>>=◌}
use Rattle.cfg_expr.specs.Fetches.{variable_of}
use Rattle.cfg_parse.specs.declared.action.fault.RuleKind.TheVariants.{Argument, FramingName}
use Rattle.cfg_parse.specs.Action.Faults.{Read, argument}

-- the words that are left
abbrev pub Words : Type 0
Words = List (List ℕ)

-- a name of a field: a token of 1 to 255 bytes
abbrev pub is_name : List ℕ → Bool
is_name word = is_token word && nat_le (length word) most_name

-- the name of a field, in lower case
abbrev pub name_of : List ℕ → Read (List ℕ)
name_of word = if is_name word then Ok (str_to_ascii_lowercase word) else Err Argument

-- a name in lower case that frames a message or speaks of its connection
unfoldable pub is_framing : List ℕ → Bool
is_framing name = list_any (λ framing. bytes_eq framing name) framing_names

abbrev pub free_name : List ℕ → Read (List ℕ)
free_name name = if is_framing name then Err FramingName else Ok name

-- the name of a field that a rule makes, in lower case
unfoldable pub made_name : List ℕ → Read (List ℕ)
made_name word = name_of word >>= free_name

-- the most digits of a number
abbrev pub most_digits : ℕ
most_digits = 18

abbrev pub within : (least most : ℕ) → Option ℕ → Read ℕ
within least most None = Err Argument
within least most (Some n) = if nat_le least n && nat_le n most then Ok n else Err Argument

-- a code within bounds
abbrev pub code_of : (least most : ℕ) → List ℕ → Read ℕ
code_of least most word = within least most (decimal_of most_digits word)

-- ---- variables

-- what stands in brackets, of which the first is the end of what the word begins with
unfoldable pub bracketed : (begin : List ℕ) → List ℕ → Option (List ℕ)
bracketed begin word =
    if starts_with nat_eq word begin && ends_with nat_eq word (codes ")") then
    (if nat_lt (length begin) (length word) then Some (take (length word - 1 - length begin) (drop (length begin) word)) else None)
    else None

abbrev pub variable_in : Option (List ℕ) → Option (Scope × List ℕ)
variable_in None = None
variable_in (Some text) = variable_of text

abbrev pub known : Option (Scope × List ℕ) → Read (Scope × List ℕ)
known None = Err Argument
known (Some variable) = Ok variable

-- SCOPE.NAME in brackets
abbrev pub variable_behind : (begin : List ℕ) → List ℕ → Read (Scope × List ℕ)
variable_behind begin word = known (variable_in (bracketed begin word))

-- ---- names and the words behind them

-- the name of a field that a rule makes, and the words behind it
unfoldable pub made_name_at : Words → Read (List ℕ × Words)
made_name_at words = do
  word ← argument words
  name ← made_name word.0
  Ok (name, word.1)

-- ---- the field of `option forwardfor` (Configuration Manual, section 4.2)

-- nothing follows
abbrev pub ended : {A : Type 0} → A → Words → Read A
ended x [] = Ok x
ended x (word ∷ others) = Err Argument

-- the last word as the name of a field that a rule makes
unfoldable pub last_name : Words → Read (List ℕ)
last_name words = made_name_at words >>= λ found. ended found.0 found.1

-- the name behind `header`, or `x-forwarded-for`
unfoldable pub forwarded_name : Words → Read (List ℕ)
forwarded_name [] = made_name (codes "x-forwarded-for")
forwarded_name (word ∷ others) = if bytes_eq word (codes "header") then last_name others else Err Argument
