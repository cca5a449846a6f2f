-- What all places say, when one of them changes.
use Rattle.std.proofs.Common.{◌≡◌, ℕ, ◌+◌, ◌<◌, ◌≤◌, List, [], ◌∷◌, ◌++◌, Option, Some, None, length, get_or, set, drop, false, refl, sym, ap, subst, ◌∙◌, arith}
use Rattle.std.specs.Prelude.{is_some, option_to_list}
use Rattle.std.proofs.Math.Seq.{drop-cons}
use Rattle.std.proofs.lemmas.List.{drop_all}
use Rattle.std.proofs.Math.Numerals.{suc-eq-add-one}
use Rattle.std.proofs.lemmas.Bool.{true≢false}
use Rattle.std.proofs.lemmas.List.Sums.{sum_by-cons, sum_by-set, get_or-le-sum_by}
use Rattle.px_link.specs.Net.{NetSeen}
use Rattle.px_run.specs.declared.connection.Connection.{Connection}
use Rattle.std.proofs.lemmas.Option.{get_or_from_slice_get, slice_get_within}
use Rattle.px_run.specs.Hall.{IsHere, taken_at, count_taken, IsSameNet, IsBalanced}

-- how many are open behind a change of one place
pub taken_set : {C L N : Type 0} (places : List (Option (Connection C L N))) (i : ℕ) (y d : Option (Connection C L N)) → i < length places → count_taken (set places i y) + taken_at (get_or places i d) ≡ count_taken places + taken_at y
taken_set {C} {L} {N} places i y d w = sum_by-set (λ (at : Option (Connection C L N)). taken_at at) places i y d w

pub taken_same : {C L N : Type 0} (places : List (Option (Connection C L N))) (i : ℕ) (y d : Option (Connection C L N)) → i < length places → taken_at y ≡ taken_at (get_or places i d) → count_taken (set places i y) ≡ count_taken places
taken_same places i y d w e = let s = taken_set places i y d w in omega (arith, s, e)

pub taken_most : {C L N : Type 0} (places : List (Option (Connection C L N))) (i : ℕ) (d : Option (Connection C L N)) → i < length places → taken_at (get_or places i d) ≤ count_taken places
taken_most {C} {L} {N} places i d w = get_or-le-sum_by (λ (at : Option (Connection C L N)). taken_at at) places i d w

-- where one is here, one at least is taken
pub here_taken : {C L N : Type 0} (places : List (Option (Connection C L N))) (i : ℕ) (c : Connection C L N) → IsHere places i c → 1 ≤ count_taken places
here_taken {C} {L} {N} places i c h =
    let most = taken_most places i (Some c) (slice_get_within places i (Some c) h) in
    let one : taken_at (get_or places i (Some c)) ≡ 1 = ap (λ (o : Option (Connection C L N)). taken_at o) (get_or_from_slice_get places i (Some c) (Some c) h) in
    omega (arith, most, one)

pub same_net : (net : NetSeen) → IsSameNet net net
same_net net = record { bound = refl; dialled = refl }

pub same_net_then : (a b c : NetSeen) → IsSameNet a b → IsSameNet b c → IsSameNet a c
same_net_then a b c s t = record { bound = t.bound ∙ s.bound; dialled = t.dialled ∙ s.dialled }

-- ---- none is open

pub taken_pushed : {C L N : Type 0} (places : List (Option (Connection C L N))) (at : Option (Connection C L N)) → count_taken (places ++ at ∷ []) ≡ count_taken places + taken_at at
taken_pushed {C} {L} {N} [] at =
    let one : count_taken {C = C} {L = L} {N = N} (at ∷ []) ≡ taken_at at + count_taken {C = C} {L = L} {N = N} [] = sum_by-cons (λ (o : Option (Connection C L N)). taken_at o) at [] in
    let none : count_taken {C = C} {L = L} {N = N} [] ≡ 0 = refl in
    omega (arith, one, none)
taken_pushed {C} {L} {N} (x ∷ xs) at =
    let f : Option (Connection C L N) → ℕ = λ o. taken_at o in
    let whole : count_taken {C = C} {L = L} {N = N} ((x ∷ xs) ++ at ∷ []) ≡ taken_at x + count_taken (xs ++ at ∷ []) = sum_by-cons f x (xs ++ at ∷ []) in
    let all : count_taken {C = C} {L = L} {N = N} (x ∷ xs) ≡ taken_at x + count_taken xs = sum_by-cons f x xs in
    let r = taken_pushed xs at in
    omega (arith, whole, all, r)

-- the last left its place
pub taken_popped : {C L N : Type 0} (old new : List (Option (Connection C L N))) (last : Option (Option (Connection C L N))) (at : Option (Connection C L N)) → last ≡ Some at → old ≡ new ++ option_to_list last → count_taken old ≡ count_taken new + taken_at at
taken_popped {C} {L} {N} old new last at f e =
    let Q : Option (Option (Connection C L N)) → Type 0 = λ o. count_taken old ≡ count_taken (new ++ option_to_list o) in
    subst Q f (ap (λ (l : List (Option (Connection C L N))). count_taken l) e) ∙ taken_pushed new at

is_none_taken : {C L N : Type 0} (at : Option (Connection C L N)) → is_some at ≡ false → taken_at at ≡ 0
is_none_taken None e = refl
is_none_taken (Some c) e = absurd (true≢false e)

next_taken : {C L N : Type 0} (places : List (Option (Connection C L N))) (i : ℕ) (d : Option (Connection C L N)) → i < length places → count_taken (drop i places) ≡ taken_at (get_or places i d) + count_taken (drop (i + 1) places)
next_taken {C} {L} {N} places i d h =
    ap (λ (l : List (Option (Connection C L N))). count_taken l) (drop-cons places i d h ∙ ap (λ k. get_or places i d ∷ drop k places) (suc-eq-add-one i)) ∙ sum_by-cons (λ (at : Option (Connection C L N)). taken_at at) (get_or places i d) (drop (i + 1) places)

-- none is open at this place
pub passes_none : {C L N : Type 0} (places : List (Option (Connection C L N))) (i total : ℕ) (x : Option (Connection C L N)) → i < length places → x ≡ get_or places i x → is_some x ≡ false → count_taken (drop i places) ≡ total → count_taken (drop (i + 1) places) ≡ total
passes_none {C} {L} {N} places i total x h is e p =
    let own : taken_at (get_or places i x) ≡ 0 = sym (ap (λ (y : Option (Connection C L N)). taken_at y) is) ∙ is_none_taken x e in
    let next = next_taken places i x h in
    omega (arith, own, next, p)

pub none_left : {C L N : Type 0} (places : List (Option (Connection C L N))) (i total : ℕ) → length places ≤ i → count_taken (drop i places) ≡ total → total ≡ 0
none_left {C} {L} {N} places i total w p = sym p ∙ ap (λ (l : List (Option (Connection C L N))). count_taken l) (drop_all i places w)

-- one place changes, and the connection there stays or none is there
pub taken_set_same : {C L N : Type 0} (places : List (Option (Connection C L N))) (i : ℕ) (y d : Option (Connection C L N)) → i < length places → get_or places i d ≡ d → taken_at y ≡ taken_at d → count_taken (set places i y) ≡ count_taken places
taken_set_same {C} {L} {N} places i y d w e t = taken_same places i y d w (t ∙ sym (ap (λ (at : Option (Connection C L N)). taken_at at) e))

pub balanced_then : {C L N : Type 0} (a b c : NetSeen) (ps qs rs : List (Option (Connection C L N))) → IsBalanced a b ps qs → IsBalanced b c qs rs → IsBalanced a c ps rs
balanced_then a b c ps qs rs s t = omega (arith, s, t)
