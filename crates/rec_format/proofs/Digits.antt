-- Digits, and the numbers that they mean.
use Rattle.std.proofs.Common.{◌≡◌, ℕ, ◌<◌, ◌^◌, Bool, true, false, ◌&&◌, List, [], ◌∷◌, length, get_or, ap, refl, arith, suc, zero, lit<, decimal}
use Rattle.std.specs.List.{list_all}
use Rattle.std.specs.Char.{is_ascii_digit}
use Rattle.std.specs.Str.{all_ascii_digits}
use Rattle.std.specs.Str.Parse.{digits_value}
use Rattle.std.proofs.lemmas.Str.Parse.{IsNumeralModel, numerals_by_value, tells_all_ascii_digits}
use Rattle.std.proofs.lemmas.Fmt.{first_decimal, decimal_digit}

-- std's words for digits and their value
pub own : IsNumeralModel (λ ds. all_ascii_digits ds ≡ true) (digits_value 10)
own = numerals_by_value (λ ds. all_ascii_digits ds ≡ true) tells_all_ascii_digits

pub both : (a b : Bool) → (a && b) ≡ true → (a ≡ true) × (b ≡ true)
both true b h = (refl, h)
both false b h = cc

pub and_true : (a b : Bool) → a ≡ true → b ≡ true → (a && b) ≡ true
and_true true b p q = q
and_true false b p q = p

-- a number that begins with `0` has one digit
pub no_zero : (n : ℕ) → n < 2 ^ 64 → get_or (decimal n) 0 0 ≡ 48 → length (decimal n) ≡ 1
no_zero zero fits first = ap length (decimal_digit 0 (lit< tt))
no_zero (suc n) fits first = absurd (omega (arith, first_decimal (suc n) (omega arith) fits, first))

-- std's two words for a text of digits
pub each_digit : (ds : List ℕ) → list_all is_ascii_digit ds ≡ all_ascii_digits ds
each_digit [] = refl
each_digit (d ∷ ds) = ap (λ b. is_ascii_digit d && b) (each_digit ds)
