-- No body is over before its last byte.
use Rattle.std.proofs.Common.{◌≡◌, inl, inr, ℕ, Bool, true, false, List, [], ◌∷◌, ◌++◌, sym, ap, ◌∙◌, cond}
use Rattle.std.specs.Prelude.{zero, suc, ◌-◌, length, Option, Some, None, nat_le, not}
use Rattle.std.proofs.lemmas.Bool.{cases_Bool, and_left}
use Rattle.body_filter.specs.declared.filter_spec.FedState.{FedState}
use Rattle.body_filter.specs.declared.filter_spec.FedState.TheVariants.{Going, Over, Refused}
use Rattle.body_filter.specs.declared.filter_spec.FilterSpec.{FilterSpec}
use Rattle.body_filter.specs.declared.filter_spec.FilterSpec.TheVariants.{Limit, Deny, Replace}
use Rattle.body_filter.specs.Filter.{Filtered, begins, searched, behind, ended, is_over, joined, filtered, filtered_by}
use Rattle.body_filter.specs.Feeding.{Meaning}
use Rattle.body_filter.proofs.Searching.{here, waits, passes}

search_open : (n : List ℕ) (to : Option (List ℕ)) (skip : ℕ) (body : List ℕ) → (searched n to skip false body).state ≡ Over → ⊥
unfolding searched
search_open n to skip [] h = cc
search_open n to (suc skip) (b ∷ bs) h = search_open n to skip bs h
search_open n None zero (b ∷ bs) h = elim (cases_Bool (begins n (b ∷ bs))) [
  | inl is ↦ let e : Refused 403 ≡ Over = sym (ap (λ (f : Filtered). f.state) (here n None false b bs is)) ∙ h in cc
  | inr off ↦ elim (cases_Bool (begins (b ∷ bs) n)) [
    | inl may ↦ let e : Going ≡ Over = sym (ap (λ (f : Filtered). f.state) (waits n None b bs off may)) ∙ h in cc
    | inr never ↦ search_open n None 0 bs (sym (ap (λ (f : Filtered). f.state) (passes n None false b bs off (and_left (begins (b ∷ bs) n) (not false) never))) ∙ h)
  ]
]
search_open n (Some to) zero (b ∷ bs) h = elim (cases_Bool (begins n (b ∷ bs))) [
  | inl is ↦ search_open n (Some to) (length n - 1) bs (sym (ap (λ (f : Filtered). f.state) (here n (Some to) false b bs is)) ∙ h)
  | inr off ↦ elim (cases_Bool (begins (b ∷ bs) n)) [
    | inl may ↦ let e : Going ≡ Over = sym (ap (λ (f : Filtered). f.state) (waits n (Some to) b bs off may)) ∙ h in cc
    | inr never ↦ search_open n (Some to) 0 bs (sym (ap (λ (f : Filtered). f.state) (passes n (Some to) false b bs off (and_left (begins (b ∷ bs) n) (not false) never))) ∙ h)
  ]
]

limit_open : (t : Bool) → cond t Going (Refused 413) ≡ Over → ⊥
limit_open true h = cc
limit_open false h = cc

filter_open : (f : FilterSpec) (body : List ℕ) → (filtered_by f false body).state ≡ Over → ⊥
filter_open (Limit n) body h = limit_open (nat_le (length body) n) h
filter_open (Deny needle) body h = search_open needle None 0 body h
filter_open (Replace from to) body h = search_open from (Some to) 0 body h

joined_open : (first next : FedState) → (first ≡ Over → ⊥) → joined first next ≡ Over → ⊥
joined_open first Going off h = cc
joined_open first Over off h = off h
joined_open first (Refused code) off h = cc

pub never_over : (fs : List FilterSpec) (body : List ℕ) → (filtered fs false body).state ≡ Over → ⊥
unfolding filtered
never_over [] body h = cc
never_over (f ∷ fs) body h =
    let x : Filtered = filtered_by f false body in
    joined_open x.state (filtered fs (is_over x.state) x.output).state (filter_open f body) h

pub never_early : (fs : List FilterSpec) (new : Meaning) (used given : List ℕ) (state : FedState)
    → ((whole : Bool) (rest : List ℕ) → filtered fs whole (used ++ rest) ≡ behind given (new whole rest))
    → (is_over state ≡ true → (whole : Bool) (rest : List ℕ) → new whole rest ≡ ended state) → state ≡ Over → ⊥
never_early fs new used given state stands told is =
    never_over fs (used ++ []) (ap (λ (f : Filtered). f.state) (stands false []) ∙ ap (λ (f : Filtered). f.state) (told (ap is_over is) false []) ∙ is)
