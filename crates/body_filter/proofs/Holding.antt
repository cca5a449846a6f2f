-- A part of a buffer.
use Rattle.std.proofs.Common.{◌≡◌, ℕ, ◌+◌, ◌-◌, ◌≤◌, List, sym, ap, ◌∙◌, arith, length, take, drop}
use Rattle.std.specs.Prelude.{slice_range}
use Rattle.std.proofs.lemmas.List.{drop-take, drop-drop, length-drop, length-take-le}

pub range_length : (b : List ℕ) (f t : ℕ) → f ≤ t → t ≤ length b → length (slice_range b f t) ≡ t - f
range_length b f t order within = length-take-le (t - f) (drop f b) (omega (arith, length-drop f b))

pub range_drop : (b : List ℕ) (f t n : ℕ) → n ≤ t - f → f ≤ t → slice_range b (f + n) t ≡ drop n (slice_range b f t)
range_drop b f t n fits order =
    let m : ℕ = t - (f + n) in
    let sum : t - f ≡ n + m = omega arith in
    sym (ap (λ k. drop n (take k (drop f b))) sum ∙ drop-take n m (drop f b) ∙ ap (take m) (drop-drop n f b))
