-- Numbers that stay at the last value of a u64.
use Rattle.std.proofs.Common.{◌≡◌, ℕ, ◌+◌, ◌*◌, ◌-◌, ◌^◌, ◌≤◌, ◌<◌, min, List, [], ◌∷◌, arith, ap, inl, inr}
use Rattle.std.proofs.lemmas.Bool.{cases_lt}
use Rattle.std.specs.Str.Parse.{digits_value_after}
use Rattle.std.specs.Char.{digit_value}

-- digits that follow a number do not make it less
pub at_least : (n : ℕ) (digits : List ℕ) → n ≤ digits_value_after 10 n digits
at_least n [] = omega arith
at_least n (digit ∷ digits) = let more = at_least (n * 10 + digit_value digit) digits in omega (arith, more)

low_case : (n : ℕ) (digits : List ℕ) → n < 2 ^ 64 → min (digits_value_after 10 (min n (2 ^ 64 - 1)) digits) (2 ^ 64 - 1) ≡ min (digits_value_after 10 n digits) (2 ^ 64 - 1)
low_case n digits low =
    let same : min n (2 ^ 64 - 1) ≡ n = omega arith in
    ap (λ m. min (digits_value_after 10 m digits) (2 ^ 64 - 1)) same

high_case : (n : ℕ) (digits : List ℕ) → 2 ^ 64 ≤ n → min (digits_value_after 10 (min n (2 ^ 64 - 1)) digits) (2 ^ 64 - 1) ≡ min (digits_value_after 10 n digits) (2 ^ 64 - 1)
high_case n digits high =
    let one = at_least (min n (2 ^ 64 - 1)) digits in
    let other = at_least n digits in
    omega (arith, one, other)

-- a number may be capped before digits follow it
pub capped : (n : ℕ) (digits : List ℕ) → min (digits_value_after 10 (min n (2 ^ 64 - 1)) digits) (2 ^ 64 - 1) ≡ min (digits_value_after 10 n digits) (2 ^ 64 - 1)
capped n digits = elim (cases_lt n (2 ^ 64)) [ inl low ↦ low_case n digits low | inr high ↦ high_case n digits high ]
