-- Filters that are gone through up to the first that decides.
use Rattle.std.proofs.Common.{◌≡◌, ℕ, zero, suc, ◌+◌, ◌≤◌, false, ◌||◌, List, [], ◌∷◌, length, drop, sym, ap, ◌∙◌, add-one, Some}
use Rattle.std.specs.Prelude.{slice_get}
use Rattle.std.proofs.Math.ListN.{drop_of_length-le}
use Rattle.body_filter.specs.declared.filter_spec.FilterSpec.{FilterSpec}
use Rattle.forward_core.specs.Meaning.Product.{is_replace, replaces, decided_by, or_else, passes_limit}

-- the items from a place on begin with the one that stands there
drop_get : {A : Type 0} → (xs : List A) (at : ℕ) (x : A) → slice_get xs at ≡ Some x → drop at xs ≡ x ∷ drop (suc at) xs
drop_get [] at x is = cc
drop_get {A} (y ∷ xs) zero x is = let same : y ≡ x = cc in ap (λ (z : A). z ∷ xs) same
drop_get (y ∷ xs) (suc at) x is = drop_get xs at x is

-- those from a place on decide as all of them: the filter there decides first
pub first_replaces : (filters : List FilterSpec) (at : ℕ) (filter : FilterSpec) → slice_get filters at ≡ Some filter → replaces (drop at filters) ≡ replaces filters
    → replaces filters ≡ (is_replace filter || replaces (drop (at + 1) filters))
first_replaces filters at filter is left = sym left ∙ ap replaces (drop_get filters at filter is) ∙ ap (λ n. is_replace filter || replaces (drop n filters)) (sym (add-one at))

pub first_decides : (filters : List FilterSpec) (n at : ℕ) (filter : FilterSpec) → slice_get filters at ≡ Some filter → passes_limit (drop at filters) n ≡ passes_limit filters n
    → passes_limit filters n ≡ or_else (decided_by filter n) (passes_limit (drop (at + 1) filters) n)
unfolding passes_limit
first_decides filters n at filter is left =
    sym left ∙ ap (λ fs. passes_limit fs n) (drop_get filters at filter is) ∙ ap (λ k. or_else (decided_by filter n) (passes_limit (drop k filters) n)) (sym (add-one at))

pub none_decides : (filters : List FilterSpec) (n at : ℕ) → length filters ≤ at → passes_limit (drop at filters) n ≡ passes_limit filters n → passes_limit filters n ≡ false
unfolding passes_limit
none_decides filters n at past left = sym left ∙ ap (λ fs. passes_limit fs n) (drop_of_length-le filters past)
