-- Samples that are gone through up to the first that matches: each is made of what a fetch gives.
use Rattle.std.proofs.Common.{◌≡◌, Bool, false, true, ◌<◌, ◌||◌, List, [], ◌∷◌, length, map, drop, sym, ap, ◌∙◌, arith, Some, None}
use Rattle.std.specs.Prelude.{slice_get}
use Rattle.std.specs.List.{list_any}

-- one that doesn't match leaves those behind it to decide
pub goes_on : {A : Type 0} (f : A → Bool) (p q : A → A) (xs behind : List A) (x : A) (whole : Bool) → slice_get (map p (map q xs)) 0 ≡ Some x → false ≡ f x → behind ≡ drop 1 xs
    → list_any f (map p (map q xs)) ≡ whole → list_any f (map p (map q behind)) ≡ whole
goes_on f p q [] behind x whole is fails next left = absurd (cc)
goes_on {A} f p q (y ∷ ys) behind x whole is fails next left =
    let same : p (q y) ≡ x = cc in
    let first : false ≡ f (p (q y)) = fails ∙ ap f (sym same) in
    ap (λ (zs : List A). list_any f (map p (map q zs))) next ∙ (ap (λ (b : Bool). b || list_any f (map p (map q ys))) first ∙ left)

-- one that matches decides
pub decides : {A : Type 0} (f : A → Bool) (p q : A → A) (xs : List A) (x : A) (whole : Bool) → slice_get (map p (map q xs)) 0 ≡ Some x → true ≡ f x
    → list_any f (map p (map q xs)) ≡ whole → true ≡ whole
decides f p q [] x whole is passes left = absurd (cc)
decides f p q (y ∷ ys) x whole is passes left =
    let same : p (q y) ≡ x = cc in
    let first : true ≡ f (p (q y)) = passes ∙ ap f (sym same) in
    ap (λ (b : Bool). b || list_any f (map p (map q ys))) first ∙ left

-- where none is left, none matches
pub none_left : {A : Type 0} (f : A → Bool) (p q : A → A) (xs : List A) (whole : Bool) → slice_get (map p (map q xs)) 0 ≡ None
    → list_any f (map p (map q xs)) ≡ whole → false ≡ whole
none_left f p q [] whole is left = left
none_left f p q (y ∷ ys) whole is left = absurd (cc)

-- fewer are left behind one
pub fewer : {A : Type 0} (p q : A → A) (xs behind : List A) (x : A) → slice_get (map p (map q xs)) 0 ≡ Some x → behind ≡ drop 1 xs → length behind < length xs
fewer p q [] behind x is next = absurd (cc)
fewer {A} p q (y ∷ ys) behind x is next = let same : length behind ≡ length ys = ap (λ (zs : List A). length zs) next in omega (arith, same)
