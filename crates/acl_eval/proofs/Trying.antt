-- Lists that are gone through up to the first item that decides.
use Rattle.std.proofs.Common.{inl, inr, ◌≡◌, ℕ, zero, suc, Bool, true, false, ◌+◌, ◌≤◌, ◌||◌, ◌&&◌, List, [], ◌∷◌, length, drop, sym, ap, ◌∙◌, add-one, Some}
use Rattle.std.specs.Prelude.{slice_get}
use Rattle.std.specs.List.{list_any, list_all}
use Rattle.std.proofs.lemmas.Bool.{cases_Bool, false≢true}
use Rattle.std.proofs.lemmas.Option.{slice_get_within, get_or_from_slice_get}
use Rattle.std.proofs.lemmas.List.Folds.{list_any_at}
use Rattle.std.proofs.Math.ListN.{drop_of_length-le}

-- the items from a place on begin with the one that stands there
drop_get : {A : Type 0} → (xs : List A) (at : ℕ) (x : A) → slice_get xs at ≡ Some x → drop at xs ≡ x ∷ drop (suc at) xs
drop_get [] at x is = cc
drop_get {A} (y ∷ xs) zero x is = let same : y ≡ x = cc in ap (λ (z : A). z ∷ xs) same
drop_get (y ∷ xs) (suc at) x is = drop_get xs at x is

-- an item that doesn't pass leaves the others to decide whether one does
pub goes_on : {A : Type 0} (f : A → Bool) (xs : List A) (at : ℕ) (x : A) (whole : Bool) → slice_get xs at ≡ Some x → false ≡ f x
    → list_any f (drop at xs) ≡ whole → list_any f (drop (at + 1) xs) ≡ whole
goes_on {A} f xs at x whole is fails left =
    let here = ap (λ (ys : List A). list_any f ys) (drop_get xs at x is) in
    let first = ap (λ (b : Bool). b || list_any f (drop (suc at) xs)) fails in
    rw add-one (first ∙ (sym here ∙ left))

-- one that passes decides
pub decides : {A : Type 0} (f : A → Bool) (xs : List A) (at : ℕ) (x : A) (whole : Bool) → slice_get xs at ≡ Some x → true ≡ f x
    → list_any f (drop at xs) ≡ whole → true ≡ whole
decides {A} f xs at x whole is passes left =
    let here = ap (λ (ys : List A). list_any f ys) (drop_get xs at x is) in
    let first = ap (λ (b : Bool). b || list_any f (drop (suc at) xs)) passes in
    first ∙ (sym here ∙ left)

-- behind the last item none passes
pub none_left : {A : Type 0} (f : A → Bool) (xs : List A) (at : ℕ) (whole : Bool) → length xs ≤ at
    → list_any f (drop at xs) ≡ whole → false ≡ whole
none_left {A} f xs at whole all left = sym (ap (λ (ys : List A). list_any f ys) (drop_of_length-le xs all)) ∙ left

-- where no item passes, this one doesn't
pub not_this_one : {A : Type 0} (f : A → Bool) (xs : List A) (at : ℕ) (x : A) → slice_get xs at ≡ Some x → list_any f xs ≡ false → f x ≡ false
not_this_one f xs at x is none =
    elim (cases_Bool (f x)) [
      | inl passes ↦
          let here = get_or_from_slice_get xs at x x is in
          let any = list_any_at f xs at x (slice_get_within xs at x is) (ap f here ∙ passes) in
          absurd (false≢true (sym none ∙ any))
      | inr other ↦ other
    ]

-- an item that passes leaves the others to decide whether all do
pub all_go_on : {A : Type 0} (f : A → Bool) (xs : List A) (at : ℕ) (x : A) (whole : Bool) → slice_get xs at ≡ Some x → true ≡ f x
    → list_all f (drop at xs) ≡ whole → list_all f (drop (at + 1) xs) ≡ whole
all_go_on {A} f xs at x whole is passes left =
    let here = ap (λ (ys : List A). list_all f ys) (drop_get xs at x is) in
    let first = ap (λ (b : Bool). b && list_all f (drop (suc at) xs)) passes in
    rw add-one (first ∙ (sym here ∙ left))

-- one that doesn't decides
pub all_decides : {A : Type 0} (f : A → Bool) (xs : List A) (at : ℕ) (x : A) (whole : Bool) → slice_get xs at ≡ Some x → false ≡ f x
    → list_all f (drop at xs) ≡ whole → false ≡ whole
all_decides {A} f xs at x whole is fails left =
    let here = ap (λ (ys : List A). list_all f ys) (drop_get xs at x is) in
    let first = ap (λ (b : Bool). b && list_all f (drop (suc at) xs)) fails in
    first ∙ (sym here ∙ left)
