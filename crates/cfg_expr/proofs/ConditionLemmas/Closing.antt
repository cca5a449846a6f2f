-- The words up to the first `}`.
use Rattle.std.proofs.Common.{◌≡◌, ℕ, ◌+◌, ◌≤◌, ◌∙◌, List, [], ◌∷◌, ◌++◌, true, false, cond, length, take, drop, Option, Some, None, sym, ap, refl, append_assoc}
use Rattle.std.specs.Prelude.{slice_get}
use Rattle.std.proofs.lemmas.List.{append-nil, drop_all, take_all, take_more}
use Rattle.std.proofs.lemmas.Option.{slice_get_within, get_or_from_slice_get}
use Rattle.cfg_expr.specs.Condition.Words.{is_close, put, up_to_close}
use Rattle.cfg_expr.proofs.ConditionLemmas.Windows.{drop-slice_get}

-- what stands in front, and what is found behind it
abbrev behind : List (List ℕ) → List (List ℕ) × Option (List (List ℕ)) → List (List ℕ) × Option (List (List ℕ))
behind front found = (front ++ found.0, found.1)

abbrev pair : List (List ℕ) → Option (List (List ℕ)) → List (List ℕ) × Option (List (List ℕ))
pair front rest = (front, rest)

-- no `}` stands among the first words
pub record NoClose (words : List (List ℕ)) (k : ℕ) : Type 0 where
  pub so_far : up_to_close words ≡ behind (take k words) (up_to_close (drop k words))

pub no_close_begin : (words : List (List ℕ)) → NoClose words 0
no_close_begin words = record { so_far = refl }

pub no_close_on : (words : List (List ℕ)) (k : ℕ) (word : List ℕ) → slice_get words k ≡ Some word → is_close word ≡ false → NoClose words k → NoClose words (k + 1)
no_close_on words k word is other h =
    let rest = up_to_close (drop (k + 1) words) in
    let next = drop-slice_get words k word is in
    let here = ap up_to_close next ∙ ap (λ b. cond b (pair [] (Some (drop (k + 1) words))) (put word rest)) other in
    let taken = take_more words k word (slice_get_within words k word is) ∙ ap (λ w. take k words ++ w ∷ []) (get_or_from_slice_get words k word word is) in
    let front = sym (append_assoc (take k words) (word ∷ []) rest.0) ∙ ap (λ first. first ++ rest.0) (sym taken) in
    record { so_far = h.so_far ∙ ap (behind (take k words)) here ∙ ap (λ first. pair first rest.1) front }

pub closes : (words : List (List ℕ)) (k : ℕ) (word : List ℕ) → slice_get words k ≡ Some word → is_close word ≡ true → NoClose words k →
    up_to_close words ≡ pair (take k words) (Some (drop (k + 1) words))
closes words k word is close h =
    let next = drop-slice_get words k word is in
    h.so_far ∙ ap (behind (take k words)) (ap up_to_close next ∙ ap (λ b. cond b (pair [] (Some (drop (k + 1) words))) (put word (up_to_close (drop (k + 1) words)))) close)
    ∙ ap (λ front. pair front (Some (drop (k + 1) words))) (append-nil (take k words))

pub never_closes : (words : List (List ℕ)) (k : ℕ) → length words ≤ k → NoClose words k → up_to_close words ≡ pair words None
never_closes words k past h =
    h.so_far ∙ ap (λ left. behind (take k words) (up_to_close left)) (drop_all k words past) ∙ ap (λ front. pair front None) (append-nil (take k words) ∙ take_all k words past)
