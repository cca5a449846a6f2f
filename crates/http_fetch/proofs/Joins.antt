-- Two texts, one behind the other.
use Rattle.std.proofs.Common.{◌≡◌, ℕ, List, [], ◌∷◌, ◌++◌, Some, refl, arith, length, true, false}
use Rattle.std.specs.Prelude.{◌==◌}
use Rattle.std.proofs.lemmas.Bool.{both_ways}
use Rattle.px_sample.specs.Sample.{Bytes}
use Rattle.http_fetch.specs.Fetches.{some_bytes}

pub some_joined : (front behind : List ℕ) → (length front == 0) ≡ false → some_bytes (front ++ behind) ≡ Some (Bytes (front ++ behind))
some_joined [] behind h = absurd (both_ways true h refl)
some_joined (b ∷ bs) behind h = refl

pub none_joined : (front behind : List ℕ) → (length front == 0) ≡ true → some_bytes (front ++ behind) ≡ some_bytes behind
none_joined [] behind h = refl
none_joined (b ∷ bs) behind h = grind (arith, h)

pub ruleset joins = (some_joined, none_joined)
