-- A payload is written piece by piece.
use Rattle.std.proofs.Common.{◌≡◌, ℕ, ◌+◌, ◌≤◌, List, ◌++◌, length, take, drop, ap, sym, ◌∙◌, arith, length-append, append_assoc}
use Rattle.std.proofs.lemmas.List.{drop-drop, length-take-le}
use Rattle.std.proofs.Math.Seq.{take-append_seam, drop-append-add}
use Rattle.htx_arena.specs.Space.Windows.{overwritten}
use Rattle.htx_arena.proofs.SpaceLemmas.PublicLaws.{length-overwritten}

-- two pieces, one behind the other, are one piece
pub overwritten_twice : (raw : List ℕ) (at : ℕ) (p q : List ℕ) → at + (length p + length q) ≤ length raw → overwritten (overwritten raw at p) (at + length p) q ≡ overwritten raw at (p ++ q)
overwritten_twice raw at p q h =
    let F = take at raw in
    let R = drop (at + length p) raw in
    let G = F ++ p in
    let mid = overwritten raw at p in
    let front_len = length-take-le at raw (omega arith) in
    let long : length G ≡ at + length p = omega (arith, length-append F p) in
    let mid_is : mid ≡ G ++ R = sym (append_assoc F p R) in
    let k = at + length p in
    let front : take k mid ≡ G = ap (take k) mid_is ∙ ap (λ (m : ℕ). take m (G ++ R)) (sym long) ∙ take-append_seam G R in
    let Y = drop (k + length q) raw in
    let back : drop (k + length q) mid ≡ Y = ap (drop (k + length q)) mid_is ∙ ap (λ (m : ℕ). drop (m + length q) (G ++ R)) (sym long) ∙ drop-append-add G R (length q) ∙ drop-drop (length q) k raw in
    let both : k + length q ≡ at + length (p ++ q) = omega (arith, length-append p q) in
    ap (λ (x : List ℕ). x ++ (q ++ drop (k + length q) mid)) front
    ∙ ap (λ (y : List ℕ). G ++ (q ++ y)) back
    ∙ append_assoc F p (q ++ Y)
    ∙ ap (λ (z : List ℕ). F ++ z) (sym (append_assoc p q Y))
    ∙ ap (λ (m : ℕ). F ++ ((p ++ q) ++ drop m raw)) both

-- four pieces are one piece
pub overwritten_four : (raw : List ℕ) (at : ℕ) (h f g t : List ℕ) → at + (length h + (length f + (length g + length t))) ≤ length raw →
    overwritten (overwritten (overwritten (overwritten raw at h) (at + length h) f) (at + length h + length f) g) (at + length h + length f + length g) t ≡ overwritten raw at (h ++ (f ++ (g ++ t)))
overwritten_four raw at h f g t fits =
    let s1 = overwritten raw at h in
    let s2 = overwritten s1 (at + length h) f in
    let l1 = length-overwritten raw at h (omega arith) in
    let l2 = length-overwritten s1 (at + length h) f (omega arith) in
    let gt = length-append g t in
    let fgt = length-append f (g ++ t) in
    overwritten_twice s2 (at + length h + length f) g t (omega arith)
    ∙ overwritten_twice s1 (at + length h) f (g ++ t) (omega arith)
    ∙ overwritten_twice raw at h (f ++ (g ++ t)) (omega arith)

-- the length of four pieces
pub length-four : (h f g t : List ℕ) → length (h ++ (f ++ (g ++ t))) ≡ length h + (length f + (length g + length t))
length-four h f g t = omega (arith, length-append g t, length-append f (g ++ t), length-append h (f ++ (g ++ t)))
