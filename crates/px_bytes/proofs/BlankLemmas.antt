-- What stands between blanks.
use Rattle.std.proofs.Common.{◌≡◌, ℕ, ◌+◌, ◌-◌, ◌<◌, ◌≤◌, true, false, List, ◌++◌, length, take, drop, get_or, sym, ap, ◌∙◌, arith}
use Rattle.std.proofs.lemmas.List.{length-append, get_or-append-add}
use Rattle.std.proofs.lemmas.List.Sums.{prefix_len_is, suffix_len_is}
use Rattle.std.proofs.Math.ListN.{get_or-append}
use Rattle.std.proofs.Math.Seq.{drop-append_seam, take-append_seam, get_or-append_right}
use Rattle.std.specs.List.{AllPass, prefix_len, suffix_len}
use Rattle.px_bytes.specs.Blanks.{is_blank, trimmed, trimmed_behind}

-- bytes that end in no blank stay, and the blanks behind them go
pub trims_behind : (value behind : List ℕ) → AllPass is_blank behind → 0 < length value → is_blank (get_or value (length value - 1) 0) ≡ false → trimmed_behind (value ++ behind) ≡ value
trims_behind value behind blank some last =
    let kept : length (value ++ behind) - suffix_len is_blank (value ++ behind) ≡ length value = omega (arith, size, length-append value behind) in
    ap (λ n. take n (value ++ behind)) kept ∙ take-append_seam value behind
  where
    ends : is_blank (get_or (value ++ behind) (length value - 1) 0) ≡ false
    ends = ap is_blank (get_or-append value behind 0 (length value - 1) (omega arith)) ∙ last

    passes : (k : ℕ) → length value ≤ k → k < length (value ++ behind) → is_blank (get_or (value ++ behind) k 0) ≡ true
    passes k from to = ap is_blank (get_or-append_right value behind k 0 from) ∙ blank (k - length value) 0 (omega (arith, length-append value behind))

    size : suffix_len is_blank (value ++ behind) ≡ length (value ++ behind) - length value
    size = suffix_len_is is_blank (value ++ behind) (length value) 0 (omega (arith, length-append value behind)) passes (λ _. ends)

-- bytes that begin and end with no blank are what is left between blanks
pub trims : (front value behind : List ℕ) → AllPass is_blank front → AllPass is_blank behind → 0 < length value → is_blank (get_or value 0 0) ≡ false → is_blank (get_or value (length value - 1) 0) ≡ false → trimmed (front ++ (value ++ behind)) ≡ value
trims front value behind before after some first last =
    ap (λ n. trimmed_behind (drop n (front ++ (value ++ behind)))) size ∙ ap trimmed_behind (drop-append_seam front (value ++ behind)) ∙ trims_behind value behind after some last
  where
    passes : (k : ℕ) → k < length front → is_blank (get_or (front ++ (value ++ behind)) k 0) ≡ true
    passes k lt = ap is_blank (get_or-append front (value ++ behind) 0 k lt) ∙ before k 0 lt

    at : length front + 0 ≡ length front
    at = omega arith

    stops : is_blank (get_or (front ++ (value ++ behind)) (length front) 0) ≡ false
    stops = ap (λ n. is_blank (get_or (front ++ (value ++ behind)) n 0)) (sym at) ∙ ap is_blank (get_or-append-add front (value ++ behind) 0 0) ∙ ap is_blank (get_or-append value behind 0 0 some) ∙ first

    size : prefix_len is_blank (front ++ (value ++ behind)) ≡ length front
    size = prefix_len_is is_blank (front ++ (value ++ behind)) (length front) 0 (omega (arith, length-append front (value ++ behind))) passes (λ _. stops)
