-- The public laws of a search at a byte.
use Rattle.std.proofs.Common.{◌≡◌, ℕ, ◌-◌, Bool, true, List, ◌∷◌, length, false, []}
use Rattle.std.specs.Prelude.{Option, ◌&&◌, not}
use Rattle.body_filter.specs.Filter.{begins, searched, matched, behind}
use Rattle.body_filter.proofs.Searching as searching

-- Where the needle stands it is matched, and the search goes on behind it.
pub here : (n : List ℕ) (to : Option (List ℕ)) (whole : Bool) (b : ℕ) (bs : List ℕ) → begins n (b ∷ bs) ≡ true
    → searched n to 0 whole (b ∷ bs) ≡ matched to (searched n to (length n - 1) whole bs)
here = searching.here

-- A byte passes where the needle neither stands nor may yet stand.
pub passes : (n : List ℕ) (to : Option (List ℕ)) (whole : Bool) (b : ℕ) (bs : List ℕ) → begins n (b ∷ bs) ≡ false → (begins (b ∷ bs) n && not whole) ≡ false
    → searched n to 0 whole (b ∷ bs) ≡ behind (b ∷ []) (searched n to 0 whole bs)
passes = searching.passes
