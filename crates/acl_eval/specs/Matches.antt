-- Whether a sample matches the values of a test (Configuration Manual, section 7.1).
use Rattle.std.specs.Prelude.{ℕ, ℤ, pos, Bool, true, false, ◌&&◌, ◌||◌, List, [], ◌∷◌, length, nat_le, nat_eq, int_le, is_some, Option, Some, None, if◌then◌else◌}
use Rattle.std.specs.Str.{bytes_eq, str_to_ascii_lowercase}
use Rattle.std.specs.List.{list_any, starts_with, ends_with}
use Rattle.regex.specs.Patterns.{find}
use Rattle.px_pattern.specs.Pattern.{Pattern}
use Rattle.px_pattern.specs.Meaning.{pattern_of}
use Rattle.px_sample.specs.Sample.{Value}
use Rattle.px_sample.specs.Cast.{number_of, truth_of, text_of}
use Rattle.acl_eval.specs.declared.condition.Match.{Match}
use Rattle.acl_eval.specs.declared.condition.Match.TheVariants as matches
use Rattle.acl_eval.specs.declared.condition.TestValue.{TestValue}
use Rattle.acl_eval.specs.declared.condition.TestValue.TheVariants as values
use Rattle.acl_eval.specs.declared.condition.Test.{Test}

-- a text as it is compared: with `-i` its ASCII letters in lower case
abbrev pub compared : (icase : Bool) → List ℕ → List ℕ
compared icase text = if icase then str_to_ascii_lowercase text else text

-- a literal stands somewhere in a text
abbrev pub contains_text : (text literal : List ℕ) → Bool
contains_text [] literal = starts_with nat_eq [] literal
contains_text (b ∷ text) literal = starts_with nat_eq (b ∷ text) literal || contains_text text literal

-- a text is equal to a literal, begins with it, ends with it or contains it; the other matches have no literals
abbrev pub literal_matches : Match → (text literal : List ℕ) → Bool
literal_matches matches.Str text literal = bytes_eq text literal
literal_matches matches.Beg text literal = starts_with nat_eq text literal
literal_matches matches.End text literal = ends_with nat_eq text literal
literal_matches matches.Sub text literal = contains_text text literal
literal_matches _ text literal = false

-- a number is not below a bound, where there is one
abbrev pub is_from : Option ℤ → ℤ → Bool
is_from None n = true
is_from (Some low) n = int_le low n

-- nor above one
abbrev pub is_up_to : Option ℤ → ℤ → Bool
is_up_to None n = true
is_up_to (Some high) n = int_le n high

-- a number lies in a range
abbrev pub is_in_range : (low high : Option ℤ) → ℤ → Bool
is_in_range low high n = is_from low n && is_up_to high n

-- a number matches a range
abbrev pub number_matches : ℤ → TestValue → Bool
number_matches n (values.Range low high) = is_in_range low high n
number_matches n (values.Literal literal) = false
number_matches n (values.Pattern pat) = false

-- the length of a text lies in a range
abbrev pub length_matches : Match → (low high : Option ℤ) → List ℕ → Bool
length_matches matches.Len low high text = is_in_range low high (pos (length text))
length_matches _ low high text = false

-- a pattern matches somewhere in a text
abbrev pub pattern_matches : Match → Pattern → List ℕ → Bool
pattern_matches matches.Reg pat text = is_some (find (pattern_of pat) text 0)
pattern_matches _ pat text = false

-- a text matches a value
abbrev pub text_matches : Match → (icase : Bool) → List ℕ → TestValue → Bool
text_matches how icase text (values.Range low high) = length_matches how low high text
text_matches how icase text (values.Literal literal) = literal_matches how (compared icase text) (compared icase literal)
text_matches how icase text (values.Pattern pat) = pattern_matches how pat text

-- a sample as bytes, which are at most so many
abbrev pub text_in : (cap : ℕ) → Value → Option (List ℕ)
text_in cap v = if nat_le (length (text_of v)) cap then Some (text_of v) else None

-- what a sample was cast to passes the test; it doesn't where it can't be cast
abbrev pub passes : {A : Type 0} → (A → Bool) → Option A → Bool
passes test None = false
passes test (Some a) = test a

-- a value of a sample matches, where a buffer holds so many bytes
abbrev pub value_matches : (cap : ℕ) → Match → (icase : Bool) → List TestValue → Value → Bool
value_matches cap matches.Found icase tried v = true
value_matches cap matches.Bool icase tried v = passes (λ truth. truth) (truth_of v)
value_matches cap matches.Int icase tried v = passes (λ n. list_any (number_matches n) tried) (number_of v)
value_matches cap how icase tried v = passes (λ text. list_any (text_matches how icase text) tried) (text_in cap v)

-- a sample matches; an absent one doesn't
abbrev pub sample_matches : (cap : ℕ) → Test → Option Value → Bool
sample_matches cap test v = passes (value_matches cap test.how test.icase test.values) v

-- the value is a pattern
abbrev pub is_pattern : TestValue → Bool
is_pattern (values.Range low high) = false
is_pattern (values.Literal literal) = false
is_pattern (values.Pattern pat) = true
