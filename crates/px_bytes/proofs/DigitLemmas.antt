-- Numbers, their digits, and how many there are.
use Rattle.std.proofs.Common.{◌≡◌, ℕ, ◌^◌, ◌<◌, ◌≤◌, Bool, true, false, ◌&&◌, cond, List, [], ◌∷◌, length, refl, arith, rules}
use Rattle.std.proofs.Math.Nat.{pow-le-pow_right}
use Rattle.std.proofs.lemmas.Bool.{le-leb}
use Rattle.std.proofs.lemmas.Bool.Decides.{nat_tests}
use Rattle.std.specs.Prelude.{nat_le, Some, None}
use Rattle.std.specs.List.{list_all}
use Rattle.std.specs.Char.{is_ascii_digit, is_ascii_hexdigit, digit_value}
use Rattle.std.specs.Fmt.{decimal, digits}
use Rattle.std.specs.Str.Parse.{AllDigits, digits_value}
use Rattle.std.proofs.lemmas.Str.Parse.{IsNumeralModel, numerals_by_value}
use Rattle.std.proofs.lemmas.Fmt.{digits_decimal, digits_value-decimal, decimal_nonempty, length-decimal-le, digits_is_IsNumeral}
use Rattle.px_bytes.proofs.HexLemmas.{length-hex-le}
use Rattle.px_bytes.specs.Numbers.{decimal_of, hex_of}

-- a number of few digits is small
pub within_digits : (base number index most : ℕ) → 0 < base → number < base ^ index → index ≤ most → number < base ^ most
within_digits base number index most some small le =
    let bound : base ^ index ≤ base ^ most = pow-le-pow_right {n = base} some {i = index} {j = most} le in
    omega arith

-- all decimal digits, as a test, is what std's words on numerals speak of
own : IsNumeralModel (λ ds. list_all is_ascii_digit ds ≡ true) (digits_value 10)
own = numerals_by_value (λ ds. list_all is_ascii_digit ds ≡ true) (search rules)

read_if : (a b c : Bool) (n m : ℕ) → a ≡ true → b ≡ true → c ≡ true → n ≡ m → cond ((a && b) && c) (Some n) None ≡ Some m
read_if a b c n m x y z e = cc

-- what `decimal` writes reads as the number
pub decimal_back : (most n : ℕ) → 0 < most → n < 10 ^ most → n < 2 ^ 64 → decimal_of most (decimal n) ≡ Some n
decimal_back most n some fits small = read_if (nat_le 1 (length (decimal n))) (nat_le (length (decimal n)) most) (list_all is_ascii_digit (decimal n)) (digits_value 10 (decimal n)) n
    (le-leb 1 (length (decimal n)) (decimal_nonempty n small)) (le-leb (length (decimal n)) most (length-decimal-le most n some fits small))
    (digits_decimal own n small) (digits_value-decimal own n small)

-- a digit below 16 is a hexadecimal one
hex_from_value : (c : ℕ) → digit_value c < 16 → is_ascii_hexdigit c ≡ true
hex_from_value c h = grind (arith, nat_tests)

all_hex : (ds : List ℕ) → AllDigits 16 ds → list_all is_ascii_hexdigit ds ≡ true
all_hex [] h = refl
all_hex (d ∷ ds) h = let one = hex_from_value d h.0 in let rest = all_hex ds h.1 in cc

-- what `digits` writes in base 16 reads as the number
pub hex_back : (most n : ℕ) → 8 ≤ most → n < 2 ^ 32 → hex_of most (digits 16 false n) ≡ Some n
hex_back most n some small =
    let is = digits_is_IsNumeral 16 false (omega arith) (omega arith) n (omega arith) in
    let short : length (digits 16 false n) ≤ 8 = length-hex-le 8 n (omega arith) (omega arith) (omega arith) in
    read_if (nat_le 1 (length (digits 16 false n))) (nat_le (length (digits 16 false n)) most) (list_all is_ascii_hexdigit (digits 16 false n)) (digits_value 16 (digits 16 false n)) n
    (le-leb 1 (length (digits 16 false n)) is.0.0) (le-leb (length (digits 16 false n)) most (omega arith))
    (all_hex (digits 16 false n) is.0.1) is.1
