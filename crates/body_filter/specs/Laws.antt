-- What the filters make of a body's bytes so far holds of each body that goes on from there.
use Rattle.std.specs.Prelude.{◌≡◌, ℕ, Bool, false, List, ◌++◌}
use Rattle.body_filter.specs.Filter.{behind}
use Rattle.body_filter.specs.Feeding.{Meaning}
use Rattle.body_filter.specs.Pairs.{HasTold}

-- What is given of the bytes so far is given of each continuation, in front of what is made of the rest; a refusal of the
-- bytes so far is that of each continuation.
pub record GoesOn (m : Meaning) (used : List ℕ) : Type 0 where
  pub later : Meaning
  pub same : (whole : Bool) (rest : List ℕ) → m whole (used ++ rest) ≡ behind (m false used).output (later whole rest)
  pub told : HasTold later (m false used).state
