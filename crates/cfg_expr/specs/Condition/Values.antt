-- The values of a test (Configuration Manual, section 7.1).
use Rattle.std.specs.Prelude.{ℕ, ◌+◌, ◌-◌, ◌^◌, ℤ, pos, negsuc, ◌+ℤ◌, ◌-ℤ◌, Bool, true, false, ◌==◌, List, [], ◌∷◌, ◌++◌, take, drop, map, position, Option, Some, None, Ok, Err, if◌then◌else◌, codes}
use Rattle.std.specs.Ordering.{int_eq}
use Rattle.std.specs.Str.{bytes_eq}
use Rattle.px_sample.specs.Cast.{number_of_text}
use Rattle.acl_eval.specs.declared.condition.TestValue.{TestValue}
use Rattle.acl_eval.specs.declared.condition.TestValue.TheVariants.{Range, Literal}
use Rattle.cfg_expr.specs.declared.fault.TextKind.TheVariants.{Acl}
use Rattle.cfg_expr.specs.Steps.{◌>>=◌}
use Rattle.cfg_expr.specs.Faults.{Told}
use Rattle.cfg_expr.specs.declared.condition.values.Ranges.{Ranges}
use Rattle.cfg_expr.specs.declared.condition.values.Operator.{Operator}
use Rattle.cfg_expr.specs.declared.condition.values.Operator.TheVariants.{Eq, Ge, Gt, Le, Lt}

-- where there is none, the test is malformed
abbrev pub needed : {A : Type 0} → Option A → Told A
needed None = Err Acl
needed (Some x) = Ok x

-- ---- numbers

-- an operator, which holds for the single numbers that follow it
unfoldable pub operator_of : List ℕ → Option Operator
operator_of word =
    if bytes_eq word (codes "eq") then Some Eq
    else (if bytes_eq word (codes "ge") then Some Ge
    else (if bytes_eq word (codes "gt") then Some Gt
    else (if bytes_eq word (codes "le") then Some Le
    else (if bytes_eq word (codes "lt") then Some Lt
    else None))))

-- a range that no number lies in
abbrev pub nothing : TestValue
nothing = Range (Some (pos 1)) (Some (pos 0))

-- the numbers that stand so to a number; none is above the greatest of 64 bits or below the least
abbrev pub numbers_by : Operator → ℤ → TestValue
numbers_by Eq n = Range (Some n) (Some n)
numbers_by Ge n = Range (Some n) None
numbers_by Gt n = if int_eq n (pos (2 ^ 63 - 1)) then nothing else Range (Some (n +ℤ pos 1)) None
numbers_by Le n = Range None (Some n)
numbers_by Lt n = if int_eq n (negsuc (2 ^ 63 - 1)) then nothing else Range None (Some (n -ℤ pos 1))

-- a number of 64 bits
abbrev pub number : List ℕ → Told ℤ
number text = needed (number_of_text text)

-- a bound of a range, or nothing
abbrev pub bound : List ℕ → Told (Option ℤ)
bound [] = Ok None
bound (b ∷ text) = number (b ∷ text) >>= λ n. Ok (Some n)

-- both bounds; a colon alone is no range
abbrev pub range : Option ℤ → Option ℤ → Told TestValue
range None None = Err Acl
range None (Some high) = Ok (Range None (Some high))
range (Some low) high = Ok (Range (Some low) high)

abbrev pub is_colon : ℕ → Bool
is_colon b = b == 58

-- A value of `int` or `len`, and whether the operator still lacks a number: a range has its own bounds.
abbrev pub number_at : Operator → (lacking : Bool) → List ℕ → Option ℕ → Told (TestValue × Bool)
number_at operator lacking word None = number word >>= λ n. Ok (numbers_by operator n, false)
number_at operator lacking word (Some at) =
    bound (take at word) >>= λ low. bound (drop (at + 1) word) >>= λ high. range low high >>= λ value. Ok (value, lacking)

unfoldable pub number_value : Operator → (lacking : Bool) → List ℕ → Told (TestValue × Bool)
number_value operator lacking word = number_at operator lacking word (position is_colon word)

-- an operator lacks a number
abbrev pub unless_lacking : (lacking : Bool) → Told (Unit {0})
unless_lacking true = Err Acl
unless_lacking false = Ok tt

-- with a word that is an operator, or else a value
abbrev pub ranges_by : Ranges → List ℕ → Option Operator → Told Ranges
ranges_by so_far word (Some operator) =
    unless_lacking so_far.lacking >>= λ ok. Ok (record { values = so_far.values; operator = operator; lacking = true })
ranges_by so_far word None =
    number_value so_far.operator so_far.lacking word >>= λ found.
    Ok (record { values = so_far.values ++ found.0 ∷ []; operator = so_far.operator; lacking = found.1 })

unfoldable pub with_word : Ranges → List ℕ → Told Ranges
with_word so_far word = ranges_by so_far word (operator_of word)

-- all words; the last operator has a number
abbrev pub ranges_from : Ranges → List (List ℕ) → Told (List TestValue)
ranges_from so_far [] = unless_lacking so_far.lacking >>= λ ok. Ok so_far.values
ranges_from so_far (word ∷ others) = with_word so_far word >>= λ next. ranges_from next others

-- the values of `int` and `len`; a number in front of any operator is itself
abbrev pub no_ranges : Ranges
no_ranges = record { values = []; operator = Eq; lacking = false }

-- ---- texts

abbrev pub literals : List (List ℕ) → List TestValue
literals words = map Literal words
