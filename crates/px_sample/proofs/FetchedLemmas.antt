-- The last of the samples, one after another.
use Rattle.std.proofs.Common.{◌≡◌, ℕ, zero, suc, ◌-◌, ◌<◌, List, [], ◌∷◌, length, get_or, drop, refl, ap, sym, ◌∙◌, arith, Option, Some, None}
use Rattle.std.specs.Prelude.{slice_get}
use Rattle.px_sample.specs.Sample.{Value, within}
use Rattle.px_sample.specs.Fetched.{all_within, last_of}

-- the last of these, or the value before them where there is none
abbrev pub last_after : Option Value → List (Option Value) → Option Value
last_after before [] = before
last_after before (x ∷ xs) = last_after x xs

last_step : (x y : Option Value) (ys : List (Option Value)) → last_of (x ∷ y ∷ ys) ≡ last_of (y ∷ ys)
last_step x y ys =
    let e : length (x ∷ y ∷ ys) - 1 ≡ suc (length (y ∷ ys) - 1) = omega arith in
    ap (λ (n : ℕ). get_or (x ∷ y ∷ ys) n None) e

last_by : (cap : ℕ) (x : Option Value) (xs : List (Option Value)) → last_after (within cap x) (all_within cap xs) ≡ within cap (last_of (x ∷ xs))
last_by cap x [] = refl
last_by cap x (y ∷ ys) = last_by cap y ys ∙ ap (within cap) (sym (last_step x y ys))

-- all of them
pub last_all : (cap : ℕ) (xs : List (Option Value)) → last_after None (all_within cap xs) ≡ within cap (last_of xs)
last_all cap [] = refl
last_all cap (x ∷ xs) = last_by cap x xs

-- one more
pub last_more : (now cap : ℕ) (xs behind : List (Option Value)) (x before whole : Option Value) → now ≡ cap → Some x ≡ slice_get (all_within now xs) 0 → behind ≡ drop 1 xs
    → last_after before (all_within cap xs) ≡ whole → last_after x (all_within cap behind) ≡ whole
last_more now cap [] behind x before whole size is next left = absurd (cc)
last_more now cap (y ∷ ys) behind x before whole size is next left =
    let here : x ≡ within now y = cc in
    let same : x ≡ within cap y = here ∙ ap (λ (n : ℕ). within n y) size in
    ap (λ (zs : List (Option Value)). last_after x (all_within cap zs)) next ∙ (ap (λ (v : Option Value). last_after v (all_within cap ys)) same ∙ left)

-- none is left
pub last_none : (now cap : ℕ) (xs : List (Option Value)) (before whole : Option Value) → None ≡ slice_get (all_within now xs) 0
    → last_after before (all_within cap xs) ≡ whole → before ≡ whole
last_none now cap [] before whole is left = left
last_none now cap (y ∷ ys) before whole is left = absurd (cc)

-- fewer are left behind one
pub fewer : (now : ℕ) (xs behind : List (Option Value)) (x : Option Value) → Some x ≡ slice_get (all_within now xs) 0 → behind ≡ drop 1 xs → length behind < length xs
fewer now [] behind x is next = absurd (cc)
fewer now (y ∷ ys) behind x is next = let same : length behind ≡ length ys = ap (λ (zs : List (Option Value)). length zs) next in omega (arith, same)
