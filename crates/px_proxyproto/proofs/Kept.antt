-- What is kept of bytes, behind one more piece.
use Rattle.std.proofs.Common.{◌≡◌, ℕ, zero, suc, ◌+◌, ◌-◌, ◌≤◌, ◌<◌, min, List, [], ◌∷◌, ◌++◌, length, take, inl, inr, sym, ap, ◌∙◌, arith, length-append}
use Rattle.std.proofs.lemmas.List.{append-nil, take_all, length-take-le}
use Rattle.std.proofs.lemmas.Bool.{cases_lt}

pub take_over : (xs ys : List ℕ) (k n : ℕ) → k ≡ length xs + n → take k (xs ++ ys) ≡ xs ++ take n ys
take_over [] ys k n e = let same : k ≡ n = omega (arith, e) in ap (λ (m : ℕ). take m ys) same
take_over (x ∷ xs) ys zero n e = absurd (omega (arith, e))
take_over (x ∷ xs) ys (suc k) n e = ap (λ (t : List ℕ). x ∷ t) (take_over xs ys k n (omega (arith, e)))

pub kept_past : (kept bytes : List ℕ) (at : ℕ) → length kept ≡ 107 → 107 ≤ at → take (at + length bytes) kept ≡ take 107 (take at kept ++ bytes)
kept_past kept bytes at len past =
    take_all (at + length bytes) kept (omega (arith, len, past))
    ∙ sym (ap (λ (t : List ℕ). take 107 (t ++ bytes)) (take_all at kept (omega (arith, len, past))) ∙ (take_over kept bytes 107 0 (omega (arith, len)) ∙ append-nil kept))

pub kept_piece : (old new bytes piece : List ℕ) (at n : ℕ) → length old ≡ 107 → length new ≡ 107 → at < 107 → n ≡ min (length bytes) (107 - at) → piece ≡ take n bytes → take (at + n) new ≡ take at old ++ piece
    → take (at + length bytes) new ≡ take 107 (take at old ++ bytes)
kept_piece old new bytes piece at n old_len new_len below some is front =
    let len : length (take at old) ≡ at = length-take-le at old (omega (arith, old_len, below)) in
    let whole : take (at + n) new ≡ take at old ++ take n bytes = front ∙ ap (λ (t : List ℕ). take at old ++ t) is in
    elim (cases_lt (107 - at) (length bytes)) [
      | inl more ↦
          let full : at + n ≡ 107 = omega (arith, some, more, below) in
          let all : new ≡ take at old ++ take n bytes = sym (take_all (at + n) new (omega (arith, full, new_len))) ∙ whole in
          take_all (at + length bytes) new (omega (arith, new_len, more)) ∙ (all ∙ sym (take_over (take at old) bytes 107 n (omega (arith, len, full))))
      | inr fits ↦
          let same : length bytes ≡ n = omega (arith, some, fits) in
          ap (λ (k : ℕ). take (at + k) new) same ∙ (whole ∙ (ap (λ (t : List ℕ). take at old ++ t) (take_all n bytes (omega (arith, same)))
          ∙ sym (take_all 107 (take at old ++ bytes) (omega (arith, length-append (take at old) bytes, len, fits, below)))))
    ]
