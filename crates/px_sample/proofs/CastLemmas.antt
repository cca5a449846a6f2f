-- Digits, read from the left.
use Rattle.std.proofs.Common.{◌≡◌, ℕ, zero, suc, ◌+◌, ◌-◌, ◌*◌, ◌^◌, ◌<◌, Bool, true, false, ◌&&◌, ltb, leb, ◌/◌, List, [], ◌∷◌, length, get_or, take, refl, arith, add-one, None}
use Rattle.std.specs.Str.{all_ascii_digits}
use Rattle.std.specs.Str.Parse.{digits_value}
use Rattle.std.specs.Char.{is_ascii_digit, digit_value}
use Rattle.std.proofs.lemmas.Bool.{and_parts, and_from, and_left, and_right, lt-leb}
use Rattle.std.proofs.lemmas.Int.Digits.{digits_value_more}
use Rattle.std.proofs.lemmas.Str.Parse.{digits_value-take-le}
use Rattle.std.proofs.lemmas.Bool.Decides.{nat_tests}
use Rattle.std.proofs.lemmas.Str.{digit_value_digit}
use Rattle.px_sample.specs.Cast.{magnitude_of}

-- the value of a digit
digit_value_is : (c : ℕ) → is_ascii_digit c ≡ true → digit_value c ≡ c - 48
digit_value_is c h = grind (arith, nat_tests, digit_value_digit)

not_all : (ds : List ℕ) (i : ℕ) → i < length ds → is_ascii_digit (get_or ds i 0) ≡ false → all_ascii_digits ds ≡ false
not_all [] i inside other = absurd (omega arith)
not_all (d ∷ ds) zero inside other = and_left (is_ascii_digit d) (all_ascii_digits ds) other
not_all (d ∷ ds) (suc i) inside other = and_right (is_ascii_digit d) (all_ascii_digits ds) (not_all ds i (omega arith) other)

all_more : (ds : List ℕ) (i : ℕ) → i < length ds → all_ascii_digits (take i ds) ≡ true → is_ascii_digit (get_or ds i 0) ≡ true → all_ascii_digits (take (suc i) ds) ≡ true
all_more [] i inside before here = absurd (omega arith)
all_more (d ∷ ds) zero inside before here = and_from (is_ascii_digit d) true here refl
all_more (d ∷ ds) (suc i) inside before here =
    let parts = and_parts (is_ascii_digit d) (all_ascii_digits (take i ds)) before in
    and_from (is_ascii_digit d) (all_ascii_digits (take (suc i) ds)) parts.0 (all_more ds i (omega arith) parts.1 here)

-- one more digit
pub digits_one_more : (ds : List ℕ) (i : ℕ) → i < length ds → all_ascii_digits (take i ds) ≡ true → is_ascii_digit (get_or ds i 0) ≡ true → all_ascii_digits (take (i + 1) ds) ≡ true
digits_one_more ds i inside before here = rw add-one (all_more ds i inside before here)

-- the number after one more digit
pub value_one_more : (ds : List ℕ) (i value digit : ℕ) → i < length ds → value ≡ digits_value 10 (take i ds) → is_ascii_digit (get_or ds i 0) ≡ true → digit ≡ get_or ds i 0 - 48 → value * 10 + digit ≡ digits_value 10 (take (i + 1) ds)
value_one_more ds i value digit inside before here is =
    let more = digits_value_more 10 ds i inside in
    let digit_is = digit_value_is (get_or ds i 0) here in
    omega arith

abbrev test : List ℕ → Bool
test ds = (ltb 0 (length ds) && all_ascii_digits ds) && leb (digits_value 10 ds) (2 ^ 63)

none_by : (ds : List ℕ) → test ds ≡ false → magnitude_of ds ≡ None
none_by ds h = rw h refl

-- a byte that is no digit
pub magnitude_other : (ds : List ℕ) (i : ℕ) → i < length ds → is_ascii_digit (get_or ds i 0) ≡ false → magnitude_of ds ≡ None
magnitude_other ds i inside other =
    none_by ds (and_left (ltb 0 (length ds) && all_ascii_digits ds) (leb (digits_value 10 ds) (2 ^ 63)) (and_right (ltb 0 (length ds)) (all_ascii_digits ds) (not_all ds i inside other)))

-- more than the limit
pub magnitude_large : (ds : List ℕ) → 2 ^ 63 < digits_value 10 ds → magnitude_of ds ≡ None
magnitude_large ds large = none_by ds (and_right (ltb 0 (length ds) && all_ascii_digits ds) (leb (digits_value 10 ds) (2 ^ 63)) (lt-leb (digits_value 10 ds) (2 ^ 63) large))

-- the digits so far are so many that one more passes the limit
pub magnitude_passed : (ds : List ℕ) (i : ℕ) → i < length ds → 2 ^ 63 / 10 < digits_value 10 (take i ds) → magnitude_of ds ≡ None
magnitude_passed ds i inside large =
    let more = digits_value_more 10 ds i inside in
    let within = digits_value-take-le 10 ds (i + 1) (omega arith) in
    magnitude_large ds (omega arith)
