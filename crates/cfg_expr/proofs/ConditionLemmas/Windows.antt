-- Some words of a line.
use Rattle.std.proofs.Common.{◌≡◌, ℕ, ◌+◌, ◌-◌, ◌<◌, ◌≤◌, ◌∙◌, List, ◌∷◌, length, take, drop, Some, sym, ap, arith}
use Rattle.std.specs.Prelude.{slice_get}
use Rattle.std.proofs.lemmas.List.{drop_more, drop-take, take-take, get_or-take, length-take-le, length-drop}
use Rattle.std.proofs.lemmas.Option.{slice_get_within, get_or_from_slice_get, slice_get-get_or}

-- the element at an index, in front of those behind it
pub drop-slice_get : {X : Type 0} (xs : List X) (i : ℕ) (x : X) → slice_get xs i ≡ Some x → drop i xs ≡ x ∷ drop (i + 1) xs
drop-slice_get xs i x is = drop_more xs i x (slice_get_within xs i x is) ∙ ap (λ y. y ∷ drop (i + 1) xs) (get_or_from_slice_get xs i x x is)

-- an element in front of an end is there up to this end too
pub slice_get-take : {X : Type 0} (xs : List X) (end i : ℕ) (x : X) → i < end → end ≤ length xs → slice_get xs i ≡ Some x → slice_get (take end xs) i ≡ Some x
slice_get-take xs end i x inside within is =
    let len = length-take-le end xs within in
    slice_get-get_or (take end xs) i x (omega arith) ∙ ap Some (get_or-take end xs i x inside ∙ get_or_from_slice_get xs i x x is)

-- the words in front of one
pub window_front : {X : Type 0} (xs : List X) (at k end : ℕ) → at + k ≤ end → drop at (take (at + k) xs) ≡ take k (drop at (take end xs))
window_front xs at k end inside =
    let m = end - at in
    let whole : at + m ≡ end = omega arith in
    drop-take at k xs ∙ sym (take-take k m (drop at xs) (omega arith)) ∙ ap (take k) (sym (drop-take at m xs) ∙ ap (λ n. drop at (take n xs)) whole)

-- how many there are
pub window_len : {X : Type 0} (xs : List X) (at end : ℕ) → end ≤ length xs → length (drop at (take end xs)) ≡ end - at
window_len xs at end within = length-drop at (take end xs) ∙ ap (λ n. n - at) (length-take-le end xs within)
