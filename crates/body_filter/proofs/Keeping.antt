-- Which end of a text a needle begins with.
use Rattle.std.proofs.Common.{◌≡◌, ℕ, ◌+◌, ◌<◌, ◌≤◌, inl, inr, true, false, List, [], ◌∷◌, ◌++◌, refl, sym, ap, ◌∙◌, arith, length, take, drop, subst, cond, length-append}
use Rattle.std.specs.Prelude.{◌==◌, slice_index}
use Rattle.std.proofs.lemmas.Bool.{cases_Bool, and_parts, and_from, eqb-true, eq-eqb, false≢true, false_from_ne_true, both_ways}
use Rattle.std.proofs.lemmas.List.{take-append-drop, length-take-le, length-drop, take_more}
use Rattle.std.proofs.Math.Seq.{get_or-append_seam}
use Rattle.std.proofs.Common.{get_or}
use Rattle.body_filter.specs.Filter.{begins}
use Rattle.body_filter.specs.Kept.{kept, settled, border}

pub begins-front : (f more t : List ℕ) → begins (f ++ more) t ≡ true → begins f t ≡ true
begins-front [] more t h = refl
begins-front (x ∷ f) more [] h = h
begins-front (x ∷ f) more (y ∷ t) h =
    let p = and_parts (x == y) (begins (f ++ more) t) h in
    and_from (x == y) (begins f t) p.0 (begins-front f more t p.1)

pub begins-self : (f t : List ℕ) → begins f (f ++ t) ≡ true
begins-self [] t = refl
begins-self (x ∷ f) t = and_from (x == x) (begins f (f ++ t)) (eq-eqb x x refl) (begins-self f t)

pub begins-is : (f t : List ℕ) → begins f t ≡ true → f ≡ take (length f) t
begins-is [] t h = refl
begins-is (x ∷ f) [] h = absurd (false≢true h)
begins-is (x ∷ f) (y ∷ t) h =
    let p = and_parts (x == y) (begins f t) h in
    ap (λ z. z ∷ f) (eqb-true x y p.0) ∙ ap (λ zs. y ∷ zs) (begins-is f t p.1)

pub begins-take : (k : ℕ) (t : List ℕ) → begins (take k t) t ≡ true
begins-take k t = subst (λ (s : List ℕ). begins (take k t) s ≡ true) (take-append-drop k t) (begins-self (take k t) (drop k t))

-- a needle that reaches past the text begins with it
pub begins-across : (w rest n : List ℕ) → length w ≤ length n → begins n (w ++ rest) ≡ true → begins w n ≡ true
begins-across [] rest n fits h = refl
begins-across (x ∷ w) rest [] fits h = absurd (omega arith)
begins-across (x ∷ w) rest (y ∷ n) fits h =
    let p = and_parts (y == x) (begins n (w ++ rest)) h in
    and_from (x == y) (begins w n) (eq-eqb x y (sym (eqb-true y x p.0))) (begins-across w rest n (omega arith) p.1)

-- a longer text is no front
pub begins-long : (f t : List ℕ) → length t < length f → begins f t ≡ false
begins-long [] t h = absurd (omega arith)
begins-long (x ∷ f) [] h = refl
begins-long (x ∷ f) (y ∷ t) h = grind (arith, begins-long f t (omega arith))

pub kept-yes : (n : List ℕ) (b : ℕ) (bs : List ℕ) → begins (b ∷ bs) n ≡ true → kept n (b ∷ bs) ≡ b ∷ bs
unfolding kept
kept-yes n b bs h = ap (λ t. cond t (b ∷ bs) (kept n bs)) h

pub kept-no : (n : List ℕ) (b : ℕ) (bs : List ℕ) → begins (b ∷ bs) n ≡ false → kept n (b ∷ bs) ≡ kept n bs
unfolding kept
kept-no n b bs h = ap (λ t. cond t (b ∷ bs) (kept n bs)) h

pub settled-yes : (n : List ℕ) (b : ℕ) (bs : List ℕ) → begins (b ∷ bs) n ≡ true → settled n (b ∷ bs) ≡ []
unfolding settled
settled-yes n b bs h = ap (λ t. cond t [] (b ∷ settled n bs)) h

pub settled-no : (n : List ℕ) (b : ℕ) (bs : List ℕ) → begins (b ∷ bs) n ≡ false → settled n (b ∷ bs) ≡ b ∷ settled n bs
unfolding settled
settled-no n b bs h = ap (λ t. cond t [] (b ∷ settled n bs)) h

kept-empty : (n : List ℕ) → kept n [] ≡ []
unfolding kept
kept-empty n = refl

settled-empty : (n : List ℕ) → settled n [] ≡ []
unfolding settled
settled-empty n = refl

pub kept-all : (n xs : List ℕ) → begins xs n ≡ true → kept n xs ≡ xs
kept-all n [] h = kept-empty n
kept-all n (b ∷ bs) h = kept-yes n b bs h

pub kept-begins : (n xs : List ℕ) → begins (kept n xs) n ≡ true
kept-begins n [] = ap (λ ys. begins ys n) (kept-empty n)
kept-begins n (b ∷ bs) = elim (cases_Bool (begins (b ∷ bs) n)) [
  | inl h ↦ ap (λ ys. begins ys n) (kept-yes n b bs h) ∙ h
  | inr h ↦ ap (λ ys. begins ys n) (kept-no n b bs h) ∙ kept-begins n bs
]

-- what is kept is a front of the needle
pub kept-is : (n xs : List ℕ) → kept n xs ≡ take (length (kept n xs)) n
kept-is n xs = begins-is (kept n xs) n (kept-begins n xs)

pub settled-kept : (n xs : List ℕ) → settled n xs ++ kept n xs ≡ xs
settled-kept n [] = ap (λ ys. ys ++ kept n []) (settled-empty n) ∙ kept-empty n
settled-kept n (b ∷ bs) = elim (cases_Bool (begins (b ∷ bs) n)) [
  | inl h ↦ ap (λ ys. ys ++ kept n (b ∷ bs)) (settled-yes n b bs h) ∙ kept-yes n b bs h
  | inr h ↦ ap (λ ys. ys ++ kept n (b ∷ bs)) (settled-no n b bs h) ∙ ap (λ ys. b ∷ (settled n bs ++ ys)) (kept-no n b bs h) ∙ ap (λ ys. b ∷ ys) (settled-kept n bs)
]

pub kept-short : (n xs : List ℕ) → length (kept n xs) ≤ length xs
kept-short n xs = omega (arith, ap length (settled-kept n xs), length-append (settled n xs) (kept n xs))

-- one byte more: only what is kept matters
pub kept-more : (n xs : List ℕ) (b : ℕ) → kept n (xs ++ b ∷ []) ≡ kept n (kept n xs ++ b ∷ [])
kept-more n [] b = ap (λ ys. kept n (ys ++ b ∷ [])) (sym (kept-empty n))
kept-more n (x ∷ xs) b = elim (cases_Bool (begins (x ∷ xs) n)) [
  | inl h ↦ ap (λ ys. kept n (ys ++ b ∷ [])) (sym (kept-yes n x xs h))
  | inr h ↦
      let longer : begins (x ∷ (xs ++ b ∷ [])) n ≡ false = false_from_ne_true (begins (x ∷ (xs ++ b ∷ [])) n) (λ e. both_ways (begins (x ∷ xs) n) h (begins-front (x ∷ xs) (b ∷ []) n e)) in
      kept-no n x (xs ++ b ∷ []) longer ∙ kept-more n xs b ∙ ap (λ ys. kept n (ys ++ b ∷ [])) (sym (kept-no n x xs h))
]

-- ---- the table

one_more : (n : List ℕ) (k b : ℕ) → k < length n → slice_index n k ≡ b → take k n ++ b ∷ [] ≡ take (k + 1) n
one_more n k b fits is = ap (λ c. take k n ++ c ∷ []) (sym is) ∙ sym (take_more n k 0 fits)

-- the next byte is the needle's
pub next_same : (n : List ℕ) (k b : ℕ) → k < length n → slice_index n k ≡ b → length (kept n (take k n ++ b ∷ [])) ≡ k + 1
next_same n k b fits is =
    ap (λ ys. length (kept n ys)) (one_more n k b fits is) ∙ ap length (kept-all n (take (k + 1) n) (begins-take (k + 1) n)) ∙ length-take-le (k + 1) n (omega arith)

no_front : (n : List ℕ) (k b : ℕ) → k < length n → (slice_index n k ≡ b → ⊥) → begins (take k n ++ b ∷ []) n ≡ false
no_front n k b fits other = false_from_ne_true (begins (take k n ++ b ∷ []) n) (λ e.
    let size : length (take k n) ≡ k = length-take-le k n (omega arith) in
    let long : length (take k n ++ b ∷ []) ≡ k + 1 = length-append (take k n) (b ∷ []) ∙ omega arith in
    let same : take k n ++ b ∷ [] ≡ take k n ++ get_or n k 0 ∷ [] = begins-is (take k n ++ b ∷ []) n e ∙ ap (λ j. take j n) long ∙ take_more n k 0 fits in
    let at : b ≡ get_or n k 0 = sym (get_or-append_seam (take k n) b [] 0) ∙ ap (λ ys. get_or ys (length (take k n)) 0) same ∙ get_or-append_seam (take k n) (get_or n k 0) [] 0 in
    other (sym at))

drop_first : (n w : List ℕ) (b : ℕ) → 0 < length w → begins (w ++ b ∷ []) n ≡ false → kept n (w ++ b ∷ []) ≡ kept n (take (length (kept n (drop 1 w))) n ++ b ∷ [])
drop_first n [] b some h = absurd (omega arith)
drop_first n (x ∷ w) b some h = kept-no n x (w ++ b ∷ []) h ∙ kept-more n w b ∙ ap (λ ys. kept n (ys ++ b ∷ [])) (kept-is n w)

-- it is another one, and nothing was kept
pub next_none : (n : List ℕ) (k b : ℕ) → k ≡ 0 → k < length n → (slice_index n k ≡ b → ⊥) → length (kept n (take k n ++ b ∷ [])) ≡ 0
next_none n k b none fits other =
    let empty : take k n ≡ [] = ap (λ j. take j n) none in
    let h : begins (b ∷ []) n ≡ false = sym (ap (λ ys. begins (ys ++ b ∷ []) n) empty) ∙ no_front n k b fits other in
    ap (λ ys. length (kept n (ys ++ b ∷ []))) empty ∙ ap length (kept-no n b [] h ∙ kept-empty n)

-- it is another one, and fewer bytes are tried
pub next_border : (n : List ℕ) (k b : ℕ) → 0 < k → k < length n → (slice_index n k ≡ b → ⊥) → kept n (take k n ++ b ∷ []) ≡ kept n (take (border n k) n ++ b ∷ [])
next_border n k b some fits other = drop_first n (take k n) b (omega (arith, length-take-le k n (omega arith))) (no_front n k b fits other)

pub border_less : (n : List ℕ) (k : ℕ) → 0 < k → k ≤ length n → border n k < k
border_less n k some fits = omega (arith, kept-short n (drop 1 (take k n)), length-drop 1 (take k n), length-take-le k n fits)

drop_one : (w : List ℕ) (b : ℕ) → 0 < length w → drop 1 (w ++ b ∷ []) ≡ drop 1 w ++ b ∷ []
drop_one [] b some = absurd (omega arith)
drop_one (x ∷ w) b some = refl

pub border_first : (n : List ℕ) → 0 < length n → border n 1 ≡ 0
border_first n some = omega (arith, border_less n 1 (omega arith) (omega arith))

pub border_next : (n : List ℕ) (k : ℕ) → 0 < k → k < length n → border n (k + 1) ≡ length (kept n (take (border n k) n ++ slice_index n k ∷ []))
border_next n k some fits =
    let w : List ℕ = take k n in
    let b : ℕ = get_or n k 0 in
    ap (λ ys. length (kept n (drop 1 ys))) (take_more n k 0 fits)
    ∙ ap (λ ys. length (kept n ys)) (drop_one w b (omega (arith, length-take-le k n (omega arith))))
    ∙ ap length (kept-more n (drop 1 w) b)
    ∙ ap (λ ys. length (kept n (ys ++ b ∷ []))) (kept-is n (drop 1 w))
