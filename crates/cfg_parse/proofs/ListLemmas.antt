-- Lists that are read from the front.
use Rattle.std.proofs.Common.{◌≡◌, ℕ, ◌+◌, ◌∙◌, List, ◌∷◌, Bool, true, false, drop, Some, sym, ap}
use Rattle.std.specs.Prelude.{◌||◌}
use Rattle.std.specs.List.{slice_get, list_any}
use Rattle.std.proofs.lemmas.List.{drop_more}
use Rattle.std.proofs.lemmas.Option.{slice_get_within, get_or_from_slice_get}

-- the element at an index, in front of those behind it
pub drop-slice_get : {X : Type 0} (xs : List X) (i : ℕ) (x : X) → slice_get xs i ≡ Some x → drop i xs ≡ x ∷ drop (i + 1) xs
drop-slice_get xs i x is = drop_more xs i x (slice_get_within xs i x is) ∙ ap (λ y. y ∷ drop (i + 1) xs) (get_or_from_slice_get xs i x x is)

-- whether there is one from an index on, where the one at the index is none, and where it is one
pub list_any-next : {X : Type 0} (P : X → Bool) (xs : List X) (i : ℕ) (x : X) → slice_get xs i ≡ Some x → P x ≡ false → list_any P (drop (i + 1) xs) ≡ list_any P (drop i xs)
list_any-next P xs i x is differs = sym (ap (list_any P) (drop-slice_get xs i x is) ∙ ap (λ (b : Bool). b || list_any P (drop (i + 1) xs)) differs)

pub list_any-here : {X : Type 0} (P : X → Bool) (xs : List X) (i : ℕ) (x : X) → slice_get xs i ≡ Some x → P x ≡ true → list_any P (drop i xs) ≡ true
list_any-here P xs i x is same = ap (list_any P) (drop-slice_get xs i x is) ∙ ap (λ (b : Bool). b || list_any P (drop (i + 1) xs)) same
