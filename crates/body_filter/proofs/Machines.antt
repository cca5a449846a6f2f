-- The steps of a search, by its meaning.
use Rattle.std.proofs.Common.{◌≡◌, ℕ, ◌+◌, ◌-◌, ◌<◌, ◌≤◌, Bool, true, false, List, [], ◌∷◌, ◌++◌, refl, sym, ap, ◌∙◌, arith, length, take, drop, append_assoc, length-append}
use Rattle.std.specs.Prelude.{Option, slice_index}
use Rattle.std.proofs.lemmas.List.{get_or-take, append-nil, take-append-drop, length-take-le, take-append-le}
use Rattle.std.proofs.Math.Seq.{take-length, take-append_seam}
use Rattle.body_filter.specs.declared.filter_spec.FedState.TheVariants.{Going, Over}
use Rattle.body_filter.specs.Filter.{searched, behind, ended, matched, Filtered}
use Rattle.body_filter.specs.Kept.{kept, settled}
use Rattle.body_filter.specs.Machines.{while, searching, closed, SearchAt, searcher_meaning}
use Rattle.body_filter.proofs.Keeping.{begins-take, kept-is, settled-kept}
use Rattle.body_filter.proofs.Searching.{found, gives, at_end, kept_back, runs}
use Rattle.body_filter.specs.Feeding.{Meaning, Feeds}
use Rattle.std.proofs.lemmas.Bool.{false≢true, both_ways, eqb-true}
use Rattle.std.proofs.Math.Dec.{eqb}

-- the meaning of a search that goes on and holds nothing
pub going : (s : SearchAt) (whole : Bool) (rest : List ℕ) → s.state ≡ Going → s.held.items ≡ [] → s.whole ≡ false
    → searcher_meaning s whole rest ≡ searched s.needle s.to 0 whole (take s.kept s.needle ++ rest)
going s whole rest on empty more =
    ap (λ xs. behind xs (while s.state (closed s.whole (searching s.needle s.to s.kept)) whole rest)) empty
    ∙ ap (λ st. behind [] (while st (closed s.whole (searching s.needle s.to s.kept)) whole rest)) on
    ∙ ap (λ b. behind [] (closed b (searching s.needle s.to s.kept) whole rest)) more

-- what is behind so many bytes
pub split : (n : ℕ) (xs ys : List ℕ) (f : Filtered) → ys ≡ take n xs → behind xs f ≡ behind ys (behind (drop n xs) f)
split n xs ys f is =
    ap (λ zs. record { output = zs ++ f.output; state = f.state }) (sym (take-append-drop n xs))
    ∙ ap (λ zs. record { output = zs; state = f.state }) (append_assoc (take n xs) (drop n xs) f.output)
    ∙ ap (λ zs. behind zs (behind (drop n xs) f)) (sym is)

-- one byte more, and no needle
pub moves : (n : List ℕ) (to : Option (List ℕ)) (k b j : ℕ) (whole : Bool) (rest : List ℕ) → k < length n → j ≡ length (kept n (take k n ++ b ∷ []))
    → searched n to 0 whole (take k n ++ b ∷ rest) ≡ behind (settled n (take k n ++ b ∷ [])) (searched n to 0 whole (take j n ++ rest))
moves n to k b j whole rest fits is =
    let w : List ℕ = take k n ++ b ∷ [] in
    let size : length w ≤ length n = omega (arith, length-append (take k n) (b ∷ []), length-take-le k n (omega arith)) in
    ap (searched n to 0 whole) (sym (append_assoc (take k n) (b ∷ []) rest))
    ∙ gives n to whole w rest size
    ∙ ap (λ ys. behind (settled n w) (searched n to 0 whole (ys ++ rest))) (kept-is n w ∙ ap (λ i. take i n) (sym is))

none_left : (xs : List ℕ) → length xs ≡ 0 → xs ≡ []
none_left [] e = refl
none_left (x ∷ xs) e = absurd (omega arith)

-- one byte more, and a needle
pub meets : (n : List ℕ) (to : Option (List ℕ)) (k b j : ℕ) (whole : Bool) (rest : List ℕ) → k < length n → j ≡ length (kept n (take k n ++ b ∷ [])) → j ≡ length n
    → searched n to 0 whole (take k n ++ b ∷ rest) ≡ matched to (searched n to 0 whole rest)
meets n to k b j whole rest fits is all =
    let w : List ℕ = take k n ++ b ∷ [] in
    let size : length w ≡ k + 1 = length-append (take k n) (b ∷ []) ∙ ap (λ i. i + 1) (length-take-le k n (omega arith)) in
    let sum : length w ≡ length (settled n w) + length (kept n w) = ap length (sym (settled-kept n w)) ∙ length-append (settled n w) (kept n w) in
    let empty : settled n w ≡ [] = none_left (settled n w) (omega (arith, size, sum)) in
    let whole_needle : kept n w ≡ n = kept-is n w ∙ ap (λ i. take i n) (sym is ∙ all) ∙ take-length n in
    let same : w ≡ n = sym (settled-kept n w) ∙ ap (λ ys. ys ++ kept n w) empty ∙ whole_needle in
    ap (searched n to 0 whole) (sym (append_assoc (take k n) (b ∷ []) rest)) ∙ ap (λ ys. searched n to 0 whole (ys ++ rest)) same
    ∙ found n to whole rest (omega arith)

-- what is given, where so many bytes are kept
pub settled-some : (n : List ℕ) (k b j : ℕ) → k < length n → j ≡ length (kept n (take k n ++ b ∷ [])) → 0 < j → take (k + 1 - j) n ≡ settled n (take k n ++ b ∷ [])
settled-some n k b j fits is some =
    let w : List ℕ = take k n ++ b ∷ [] in
    let size : length w ≡ k + 1 = length-append (take k n) (b ∷ []) ∙ ap (λ i. i + 1) (length-take-le k n (omega arith)) in
    let sum : length w ≡ length (settled n w) + length (kept n w) = ap length (sym (settled-kept n w)) ∙ length-append (settled n w) (kept n w) in
    let m : ℕ = length (settled n w) in
    let few : m ≤ length (take k n) = omega (arith, size, sum, length-take-le k n (omega arith)) in
    let front : take m w ≡ settled n w = ap (take m) (sym (settled-kept n w)) ∙ take-append_seam (settled n w) (kept n w) in
    let low : m ≤ k = omega (arith, few, length-take-le k n (omega arith)) in
    let count : k + 1 - j ≡ m = omega (arith, size, sum) in
    ap (λ i. take i n) count ∙ ap (take m) (sym (take-append-drop k n)) ∙ take-append-le m (take k n) (drop k n) few
    ∙ sym (take-append-le m (take k n) (b ∷ []) few) ∙ front

pub settled-none : (n : List ℕ) (k b j : ℕ) → j ≡ length (kept n (take k n ++ b ∷ [])) → j ≡ 0 → take k n ++ b ∷ [] ≡ settled n (take k n ++ b ∷ [])
settled-none n k b j is none =
    let w : List ℕ = take k n ++ b ∷ [] in
    sym (settled-kept n w) ∙ ap (λ ys. settled n w ++ ys) (none_left (kept n w) (sym is ∙ none)) ∙ append-nil (settled n w)

closed_whole : (whole : Bool) (m : Bool → List ℕ → Filtered) → closed whole m true [] ≡ m true []
closed_whole true m = refl
closed_whole false m = refl

-- the end of the body
pub ends : (s : SearchAt) → s.state ≡ Going → s.held.items ≡ [] → s.kept < length s.needle → searcher_meaning s true [] ≡ behind (take s.kept s.needle) (ended Over)
ends s on empty fits =
    ap (λ xs. behind xs (while s.state (closed s.whole (searching s.needle s.to s.kept)) true [])) empty
    ∙ ap (λ st. behind [] (while st (closed s.whole (searching s.needle s.to s.kept)) true [])) on
    ∙ ap (behind []) (closed_whole s.whole (searching s.needle s.to s.kept))
    ∙ ap (searched s.needle s.to 0 true) (append-nil (take s.kept s.needle))
    ∙ at_end s.needle s.to (take s.kept s.needle) (omega (arith, length-take-le s.kept s.needle (omega arith)))

runs_needle : (n : List ℕ) (to : Option (List ℕ)) (whole : Bool) (run rest : List ℕ) → 0 < length n → ((k : ℕ) → k < length run → slice_index run k ≡ slice_index n 0 → ⊥)
    → searched n to 0 whole (run ++ rest) ≡ behind run (searched n to 0 whole rest)
runs_needle [] to whole run rest some free = absurd (omega arith)
runs_needle (f ∷ n) to whole run rest some free = runs f n to whole run rest free

-- the front of a piece is free of the needle's first byte
pub passes_front : (n : List ℕ) (to : Option (List ℕ)) (whole : Bool) (piece : List ℕ) (room len first : ℕ) (rest : List ℕ) → 0 < length n → len ≤ room → len ≤ length piece → first ≡ slice_index n 0
    → ((k : ℕ) → k < len → slice_index (take room piece) k ≡ first → ⊥)
    → searched n to 0 whole (take len piece ++ rest) ≡ behind (take len piece) (searched n to 0 whole rest)
passes_front n to whole piece room len first rest some in_room in_piece is free =
    let size : length (take len piece) ≡ len = length-take-le len piece in_piece in
    runs_needle n to whole (take len piece) rest some (λ k less same.
    let below : k < len = omega (arith, size, less) in
    let at : slice_index (take room piece) k ≡ slice_index (take len piece) k = get_or-take room piece k 0 (omega arith) ∙ sym (get_or-take len piece k 0 below) in
    free k below (at ∙ same ∙ sym is))

-- a search that waits has given all but what it keeps back
pub waiting : (s : SearchAt) → s.state ≡ Going → s.held.items ≡ [] → s.whole ≡ false → s.kept < length s.needle → searcher_meaning s false [] ≡ ended Going
waiting s on empty more fits =
    going s false [] on empty more ∙ ap (searched s.needle s.to 0 false) (append-nil (take s.kept s.needle))
    ∙ kept_back s.needle s.to (take s.kept s.needle) (omega (arith, length-take-le s.kept s.needle (omega arith))) (begins-take s.kept s.needle)

-- ---- the exits of a call

pub exit_wait : (old : Meaning) (piece : List ℕ) (last : Bool) (out : List ℕ) → piece ≡ [] → last ≡ false → old false [] ≡ ended Going
    → Feeds old piece last (record { used = 0; given = 0; state = Going }) out old
exit_wait old piece last out empty more all = record {
  used = omega arith;
  given = omega arith;
  goes_on = λ _ whole rest. refl;
  ends = λ is _. absurd (both_ways last more is);
  told = λ h. absurd (false≢true h);
  idle = λ _ _ _. (empty, more, all);
}

pub no_bytes : (xs : List ℕ) → eqb (length xs) 0 ≡ true → xs ≡ []
no_bytes xs h = none_left xs (eqb-true (length xs) 0 h)
