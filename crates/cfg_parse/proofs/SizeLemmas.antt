-- Decimal digits that are read one after the other.
use Rattle.std.proofs.Common.{◌≡◌, ℕ, ◌+◌, ◌-◌, ◌*◌, ◌<◌, ◌≤◌, ◌⊎◌, inl, inr, true, List, [], ◌∷◌, length, get_or, drop, sym, ap, subst, ◌∙◌, arith}
use Rattle.std.specs.Prelude.{min}
use Rattle.std.specs.Char.{is_ascii_digit, digit_value}
use Rattle.std.specs.Str.Parse.{digits_value_after}
use Rattle.std.proofs.lemmas.Bool.Decides.{nat_tests}
use Rattle.std.proofs.lemmas.Bool.{cases_lt}
use Rattle.std.proofs.lemmas.List.{at_drop_more}
use Rattle.std.proofs.Math.Nat.{min-eq_left, min-eq_right}

-- more digits make no smaller number
pub digits_value_after-grows : (n : ℕ) (digits : List ℕ) → n ≤ digits_value_after 10 n digits
digits_value_after-grows n [] = omega arith
digits_value_after-grows n (c ∷ digits) = omega (arith, digits_value_after-grows (n * 10 + digit_value c) digits)

pub digit_value-decimal : (c : ℕ) → is_ascii_digit c ≡ true → digit_value c ≡ c - 48
digit_value-decimal c is = grind (arith, nat_tests)

-- one digit is read
pub digits_value_after-more : (size : ℕ) (word : List ℕ) (i : ℕ) → i < length word → is_ascii_digit (get_or word i 0) ≡ true
    → digits_value_after 10 size (drop i word) ≡ digits_value_after 10 (size * 10 + (get_or word i 0 - 48)) (drop (i + 1) word)
digits_value_after-more size word i inside is =
    at_drop_more (digits_value_after 10 size) word i 0 inside ∙ ap (λ d. digits_value_after 10 (size * 10 + d) (drop (i + 1) word)) (digit_value-decimal (get_or word i 0) is)

-- a number that is cut at the most stays so, whatever digits follow
pub min_after : (number most : ℕ) (digits : List ℕ) → min (digits_value_after 10 (min number most) digits) most ≡ min (digits_value_after 10 number digits) most
min_after number most digits = by_size (cases_lt most number)
  where
    by_size : (most < number) ⊎ (number ≤ most) → min (digits_value_after 10 (min number most) digits) most ≡ min (digits_value_after 10 number digits) most
    by_size (inr small) = ap (λ (n : ℕ). min (digits_value_after 10 n digits) most) (min-eq_left small)
    by_size (inl large) =
        let cut : min number most ≡ most = min-eq_right {n = most} {m = number} (omega arith) in
        let grows : most ≤ digits_value_after 10 (min number most) digits = subst (λ (n : ℕ). most ≤ digits_value_after 10 n digits) (sym cut) (digits_value_after-grows most digits) in
        let above : most ≤ digits_value_after 10 number digits = omega (arith, digits_value_after-grows number digits) in
        min-eq_right grows ∙ sym (min-eq_right above)
