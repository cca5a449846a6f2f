-- Where the value of a number stands.
use Rattle.std.proofs.Common.{◌≡◌, ℕ, zero, suc, ◌+◌, ◌-◌, ◌<◌, ◌≤◌, ◌^◌, List, length, slice_get, None, refl, ap, arith}
use Rattle.std.specs.Prelude.{ℤ, pos, negsuc, unsigned_abs, ◌≤ℤ◌, ◌<ℤ◌}
use Rattle.std.proofs.lemmas.Option.{slice_get_past}
use Rattle.std.proofs.lemmas.Bool.Decides.{nat_tests}
use Rattle.std.proofs.lemmas.Int.{ints}
use Rattle.header_ops.specs.Walk.{from_back}
use Rattle.http_fetch.specs.Fetches.{at_occurrence}
use Rattle.http_fetch.proofs.Few.{few_read}

-- number 0
pub none_is_zero : (occurrence : ℤ) (values : List (List ℕ)) → occurrence ≡ pos 0 → at_occurrence occurrence values ≡ None
none_is_zero occurrence values is = ap (λ (n : ℤ). at_occurrence n values) is

-- too few
none_there : (occurrence : ℤ) (values : List (List ℕ)) (passed : ℕ) → passed + 1 ≡ unsigned_abs occurrence → length values ≤ passed → at_occurrence occurrence values ≡ None
none_there (pos zero) values passed is far = refl
none_there (pos (suc before)) values passed is far = slice_get_past values before (omega (arith, is))
none_there (negsuc behind) values passed is far = grind (arith, nat_tests, is)

-- more than a message has
pub none_so_far : (occurrence : ℤ) (values : List (List ℕ)) → 4294967296 < unsigned_abs occurrence → length values < 2 ^ 32 → at_occurrence occurrence values ≡ None
none_so_far occurrence values far few = none_there occurrence values (unsigned_abs occurrence - 1) (omega (arith, far)) (omega (arith, far, few))

-- from the front
pub front_there : (occurrence : ℤ) (values : List (List ℕ)) (passed : ℕ) → passed + 1 ≡ unsigned_abs occurrence → pos 0 <ℤ occurrence → slice_get values passed ≡ at_occurrence occurrence values
front_there (pos zero) values passed is front = absurd (omega (arith, is))
front_there (pos (suc before)) values passed is front = let e : passed ≡ before = omega (arith, is) in ap (slice_get values) e
front_there (negsuc behind) values passed is front = absurd (omega (arith, ints))

-- from the back
pub back_there : (occurrence : ℤ) (values : List (List ℕ)) (passed : ℕ) → passed + 1 ≡ unsigned_abs occurrence → occurrence ≤ℤ pos 0 → from_back values passed ≡ at_occurrence occurrence values
back_there (pos zero) values passed is back = absurd (omega (arith, is))
back_there (pos (suc before)) values passed is back = absurd (omega (arith, ints))
back_there (negsuc behind) values passed is back = let e : passed ≡ behind = omega (arith, is) in ap (from_back values) e

pub ruleset places = (none_is_zero, none_so_far)

pub ruleset counted = (few_read, front_there, back_there)
