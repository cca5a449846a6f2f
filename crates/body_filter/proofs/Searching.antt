-- A search byte by byte.
use Rattle.std.proofs.Common.{◌≡◌, ℕ, ◌-◌, ◌<◌, ◌≤◌, inl, inr, Bool, true, false, List, [], ◌∷◌, ◌++◌, refl, sym, ap, ◌∙◌, arith, length, cond}
use Rattle.std.specs.Prelude.{suc, ◌==◌, ◌&&◌, not, Option, slice_index}
use Rattle.std.proofs.lemmas.Bool.{cases_Bool, and_from, and_left, and_right, eqb-true, false_from_ne_true, both_ways}
use Rattle.body_filter.specs.declared.filter_spec.FedState.TheVariants.{Going, Over}
use Rattle.body_filter.specs.Filter.{begins, searched, behind, ended, end_of, matched}
use Rattle.body_filter.specs.Kept.{kept, settled}
use Rattle.body_filter.proofs.Keeping.{begins-front, begins-self, begins-across, begins-long, kept-yes, kept-no, settled-yes, settled-no}

-- the three cases at a byte
pub here : (n : List ℕ) (to : Option (List ℕ)) (whole : Bool) (b : ℕ) (bs : List ℕ) → begins n (b ∷ bs) ≡ true
    → searched n to 0 whole (b ∷ bs) ≡ matched to (searched n to (length n - 1) whole bs)
unfolding searched
here n to whole b bs h =
    ap (λ t. cond t (matched to (searched n to (length n - 1) whole bs)) (cond (begins (b ∷ bs) n && not whole) (ended Going) (behind (b ∷ []) (searched n to 0 whole bs)))) h

pub waits : (n : List ℕ) (to : Option (List ℕ)) (b : ℕ) (bs : List ℕ) → begins n (b ∷ bs) ≡ false → begins (b ∷ bs) n ≡ true
    → searched n to 0 false (b ∷ bs) ≡ ended Going
unfolding searched
waits n to b bs h k =
    ap (λ t. cond t (matched to (searched n to (length n - 1) false bs)) (cond (begins (b ∷ bs) n && not false) (ended Going) (behind (b ∷ []) (searched n to 0 false bs)))) h
    ∙ ap (λ t. cond t (ended Going) (behind (b ∷ []) (searched n to 0 false bs))) (and_from (begins (b ∷ bs) n) (not false) k refl)

pub passes : (n : List ℕ) (to : Option (List ℕ)) (whole : Bool) (b : ℕ) (bs : List ℕ) → begins n (b ∷ bs) ≡ false → (begins (b ∷ bs) n && not whole) ≡ false
    → searched n to 0 whole (b ∷ bs) ≡ behind (b ∷ []) (searched n to 0 whole bs)
unfolding searched
passes n to whole b bs h k =
    ap (λ t. cond t (matched to (searched n to (length n - 1) whole bs)) (cond (begins (b ∷ bs) n && not whole) (ended Going) (behind (b ∷ []) (searched n to 0 whole bs)))) h
    ∙ ap (λ t. cond t (ended Going) (behind (b ∷ []) (searched n to 0 whole bs))) k

pub nothing : (n : List ℕ) (to : Option (List ℕ)) (whole : Bool) → searched n to 0 whole [] ≡ ended (end_of whole)
unfolding searched
nothing n to whole = refl

skipped : (n : List ℕ) (to : Option (List ℕ)) (whole : Bool) (xs rest : List ℕ) → searched n to (length xs) whole (xs ++ rest) ≡ searched n to 0 whole rest
unfolding searched
skipped n to whole [] rest = refl
skipped n to whole (x ∷ xs) rest = skipped n to whole xs rest

-- a needle
pub found : (n : List ℕ) (to : Option (List ℕ)) (whole : Bool) (rest : List ℕ) → 0 < length n → searched n to 0 whole (n ++ rest) ≡ matched to (searched n to 0 whole rest)
found [] to whole rest some = absurd (omega arith)
found (x ∷ n) to whole rest some =
    let short : length (x ∷ n) - 1 ≡ length n = omega arith in
    here (x ∷ n) to whole x (n ++ rest) (begins-self (x ∷ n) rest)
    ∙ ap (λ k. matched to (searched (x ∷ n) to k whole (n ++ rest))) short
    ∙ ap (matched to) (skipped (x ∷ n) to whole n rest)

-- what cannot become a needle is given
pub gives : (n : List ℕ) (to : Option (List ℕ)) (whole : Bool) (w rest : List ℕ) → length w ≤ length n
    → searched n to 0 whole (w ++ rest) ≡ behind (settled n w) (searched n to 0 whole (kept n w ++ rest))
unfolding kept settled
gives n to whole [] rest fits = refl
gives n to whole (x ∷ w) rest fits = elim (cases_Bool (begins (x ∷ w) n)) [
  | inl h ↦ sym (ap (λ ys. behind ys (searched n to 0 whole (kept n (x ∷ w) ++ rest))) (settled-yes n x w h) ∙ ap (λ ys. searched n to 0 whole (ys ++ rest)) (kept-yes n x w h))
  | inr h ↦
      let no : begins n (x ∷ (w ++ rest)) ≡ false = false_from_ne_true (begins n (x ∷ (w ++ rest))) (λ e. both_ways (begins (x ∷ w) n) h (begins-across (x ∷ w) rest n fits e)) in
      let more : begins (x ∷ (w ++ rest)) n ≡ false = false_from_ne_true (begins (x ∷ (w ++ rest)) n) (λ e. both_ways (begins (x ∷ w) n) h (begins-front (x ∷ w) rest n e)) in
      passes n to whole x (w ++ rest) no (and_left (begins (x ∷ (w ++ rest)) n) (not whole) more)
      ∙ ap (behind (x ∷ [])) (gives n to whole w rest (omega arith))
      ∙ sym (ap (λ ys. behind ys (searched n to 0 whole (kept n (x ∷ w) ++ rest))) (settled-no n x w h) ∙ ap (λ ys. behind (x ∷ settled n w) (searched n to 0 whole (ys ++ rest))) (kept-no n x w h))
]

-- at the end of the body all is given
pub at_end : (n : List ℕ) (to : Option (List ℕ)) (w : List ℕ) → length w < length n → searched n to 0 true w ≡ behind w (ended Over)
at_end n to [] fits = nothing n to true
at_end n to (x ∷ w) fits =
    passes n to true x w (begins-long n (x ∷ w) fits) (and_right (begins (x ∷ w) n) (not true) refl) ∙ ap (behind (x ∷ [])) (at_end n to w (omega arith))

-- and before it, what the needle begins with is kept back
pub kept_back : (n : List ℕ) (to : Option (List ℕ)) (w : List ℕ) → length w < length n → begins w n ≡ true → searched n to 0 false w ≡ ended Going
kept_back n to [] fits h = nothing n to false
kept_back n to (x ∷ w) fits h = waits n to x w (begins-long n (x ∷ w) fits) h

-- bytes without the needle's first one pass whole
pub runs : (f : ℕ) (n : List ℕ) (to : Option (List ℕ)) (whole : Bool) (run rest : List ℕ) → ((k : ℕ) → k < length run → slice_index run k ≡ f → ⊥)
    → searched (f ∷ n) to 0 whole (run ++ rest) ≡ behind run (searched (f ∷ n) to 0 whole rest)
runs f n to whole [] rest free = refl
runs f n to whole (x ∷ run) rest free =
    let other : x ≡ f → ⊥ = free 0 (omega arith) in
    let no : begins (f ∷ n) (x ∷ (run ++ rest)) ≡ false = and_left (f == x) (begins n (run ++ rest)) (false_from_ne_true (f == x) (λ e. other (sym (eqb-true f x e)))) in
    let more : begins (x ∷ (run ++ rest)) (f ∷ n) ≡ false = and_left (x == f) (begins (run ++ rest) n) (false_from_ne_true (x == f) (λ e. other (eqb-true x f e))) in
    passes (f ∷ n) to whole x (run ++ rest) no (and_left (begins (x ∷ (run ++ rest)) (f ∷ n)) (not whole) more)
    ∙ ap (behind (x ∷ [])) (runs f n to whole run rest (λ k less. free (suc k) (omega arith)))
