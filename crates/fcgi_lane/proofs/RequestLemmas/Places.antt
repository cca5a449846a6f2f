-- Bytes of a body in runs.
use Rattle.std.proofs.Common.{◌≡◌, ℕ, zero, suc, ◌-◌, ◌<◌, ◌≤◌, Bool, true, false, cond, nat_eq, List, [], ◌∷◌, ◌++◌, length, take, get_or, refl, sym, ap, subst, ◌∙◌, arith, append_assoc}
use Rattle.std.specs.List.{fold}
use Rattle.std.proofs.lemmas.Grind.{fold-append}
use Rattle.std.proofs.lemmas.Bool.{ne_eqb}
use Rattle.fcgi_model.specs.Body.{Place, Goes, leads, adds, body_in, length_left, chunk_left, InLength, InChunk}

-- ---- places

pub body_append : (at : Place) (xs ys : List ℕ) → body_in at (xs ++ ys) ≡ body_in at xs ++ body_in (fold leads at xs) ys
body_append at [] ys = refl
body_append at (x ∷ xs) ys =
    ap (λ (t : List ℕ). cond (adds at) (x ∷ []) [] ++ t) (body_append (leads at x) xs ys)
    ∙ sym (append_assoc (cond (adds at) (x ∷ []) []) (body_in (leads at x) xs) (body_in (fold leads (leads at x) xs) ys))

pub goes_on : (a b c : Place) (xs ys f g : List ℕ) → Goes a xs b f → Goes b ys c g → Goes a (xs ++ ys) c (f ++ g)
goes_on a b c xs ys f g one two = record {
  place = fold-append leads a xs ys ∙ ap (λ (p : Place). fold leads p ys) one.place ∙ two.place;
  found = body_append a xs ys
      ∙ ap (λ (t : List ℕ). t ++ body_in (fold leads a xs) ys) one.found
      ∙ ap (λ (p : Place). f ++ body_in p ys) one.place
      ∙ ap (λ (t : List ℕ). f ++ t) two.found;
}

pub goes_nowhere : (a : Place) → Goes a [] a []
goes_nowhere a = record { place = refl; found = refl }

-- a family of places in which each byte is of the body and leaves one less
abbrev pub Counts : (ℕ → Place) → Type 0
Counts at = (left b : ℕ) → 0 < left → (leads (at left) b ≡ at (left - 1)) × (adds (at left) ≡ true)

pub counted : (at : ℕ → Place) → Counts at → (n left : ℕ) (bytes : List ℕ) → n ≤ length bytes → n ≤ left → Goes (at left) (take n bytes) (at (left - n)) (take n bytes)
counted at c zero left bytes some fits =
    let same : left ≡ left - 0 = omega arith in
    subst (λ (k : ℕ). Goes (at left) [] (at k) []) same (goes_nowhere (at left))
counted at c (suc n) left [] some fits = absurd (omega (arith, some))
counted at c (suc n) left (b ∷ bytes) some fits =
    let here = c left b (omega (arith, fits)) in
    let rest = counted at c n (left - 1) bytes (omega (arith, some)) (omega (arith, fits)) in
    let same : (left - 1) - n ≡ left - suc n = omega arith in
    record {
      place = ap (λ (p : Place). fold leads p (take n bytes)) here.0 ∙ rest.place ∙ ap at same;
      found = ap (λ (t : Bool). cond t (b ∷ []) [] ++ body_in (leads (at left) b) (take n bytes)) here.1
          ∙ ap (λ (p : Place). b ∷ body_in p (take n bytes)) here.0
          ∙ ap (λ (t : List ℕ). b ∷ t) rest.found;
    }

-- a number that isn't 0 stays as it is
pub some_left : (A : Place) (B : Place) (left : ℕ) → 0 < left → cond (nat_eq left 0) A B ≡ B
some_left A B left some = ap (λ (t : Bool). cond t A B) (ne_eqb left 0 (λ (e : left ≡ 0). omega (arith, e, some)))

pub length_counts : Counts length_left
length_counts left b some =
    let here : length_left left ≡ InLength left = some_left _ (InLength left) left some in
    (ap (λ (p : Place). leads p b) here, ap adds here)

pub chunk_counts : Counts chunk_left
chunk_counts left b some =
    let here : chunk_left left ≡ InChunk left = some_left _ (InChunk left) left some in
    (ap (λ (p : Place). leads p b) here, ap adds here)

pub length_run : (n left : ℕ) (bytes : List ℕ) → 0 < left → n ≤ length bytes → n ≤ left → Goes (InLength left) (take n bytes) (length_left (left - n)) (take n bytes)
length_run n left bytes some fits less =
    subst (λ (p : Place). Goes p (take n bytes) (length_left (left - n)) (take n bytes)) (some_left _ (InLength left) left some) (counted length_left length_counts n left bytes fits less)

pub chunk_run : (n left : ℕ) (bytes : List ℕ) → 0 < left → n ≤ length bytes → n ≤ left → Goes (InChunk left) (take n bytes) (chunk_left (left - n)) (take n bytes)
chunk_run n left bytes some fits less =
    subst (λ (p : Place). Goes p (take n bytes) (chunk_left (left - n)) (take n bytes)) (some_left _ (InChunk left) left some) (counted chunk_left chunk_counts n left bytes fits less)

-- one byte that isn't of the body
pub one_frame : (at to : Place) (bytes : List ℕ) → 1 ≤ length bytes → adds at ≡ false → to ≡ leads at (get_or bytes 0 0) → Goes at (take 1 bytes) to []
one_frame at to [] some none is = absurd (omega (arith, some))
one_frame at to (b ∷ bytes) some none is = record { place = sym is; found = ap (λ (t : Bool). cond t (b ∷ []) [] ++ []) none }
