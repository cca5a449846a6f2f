-- Data that fits an empty array is all taken.
use Rattle.std.proofs.Common.{◌≡◌, ℕ, suc, ◌+◌, ◌≤◌, List, [], ◌∷◌, true, refl, ap, ◌∙◌, length, take, cond, arith}
use Rattle.std.specs.Prelude.{nat_le}
use Rattle.std.proofs.Math.Seq.{take-length}
use Rattle.std.proofs.lemmas.Bool.{le-leb}
use Rattle.htx_model.specs.Blocks.{load, append_data, taken_of, taken}

taken_now : (n : ℕ) (p : List ℕ) (size : ℕ) → nat_le (load (append_data [] (take (suc n) p))) size ≡ true → taken_of (suc n) [] size p ≡ suc n
taken_now n p size h = ap (λ b. cond b (suc n) (taken_of n [] size p)) h

pub takes_all : (p : List ℕ) (size : ℕ) → length p + 8 ≤ size → taken [] size p ≡ length p
takes_all [] size fits = refl
takes_all (x ∷ p) size fits =
    let all : take (suc (length p)) (x ∷ p) ≡ x ∷ p = take-length (x ∷ p) in
    let small : load (append_data [] (x ∷ p)) ≤ size = omega arith in
    taken_now (length p) (x ∷ p) size (ap (λ (q : List ℕ). nat_le (load (append_data [] q)) size) all ∙ le-leb _ _ small)
