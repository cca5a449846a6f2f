-- Bytes that go through a link piece by piece.
use Rattle.std.proofs.Common.{◌≡◌, ◌≤◌, ℕ, List, [], ◌++◌, take, drop, length, Option, Some, IfSome, sym, ap, subst, ◌∙◌, append_assoc}
use Rattle.std.proofs.lemmas.List.{take-append-drop}

-- some of what is left joins what is through
pub cut : (bytes front left : List ℕ) (n : ℕ) → bytes ≡ front ++ left → bytes ≡ (front ++ take n left) ++ drop n left
cut bytes front left n e = e ∙ ap (λ l. front ++ l) (sym (take-append-drop n left)) ∙ sym (append_assoc front (take n left) (drop n left))

-- the same of what came, of which the first are these
pub came : (coming front later left : List ℕ) (n : ℕ) → coming ≡ front ++ later → take n later ≡ take n left → coming ≡ (front ++ take n left) ++ drop n later
came coming front later left n e same =
    cut coming front later n e ∙ ap (λ l. (front ++ l) ++ drop n later) same

pub wrote : (W : List ℕ → Type 0) (before front piece : List ℕ) → W ((before ++ front) ++ piece) → W (before ++ (front ++ piece))
wrote W before front piece w = subst W (append_assoc before front piece) w

-- what a read gave, where what is to come is told
pub given : (old new : Option (List ℕ)) (into bytes coming : List ℕ) (n : ℕ)
    → IfSome old (λ b. (n ≤ length b) × (take n into ≡ take n b) × (new ≡ Some (drop n b))) → old ≡ Some coming → take n into ≡ take n bytes
    → (take n coming ≡ take n bytes) × (new ≡ Some (drop n coming))
given old new into bytes coming n gives told alike =
    let P : Option (List ℕ) → Type 0 = λ o. IfSome o (λ b. (n ≤ length b) × (take n into ≡ take n b) × (new ≡ Some (drop n b))) in
    let of_coming : (n ≤ length coming) × (take n into ≡ take n coming) × (new ≡ Some (drop n coming)) = subst P told gives in
    (sym of_coming.1 ∙ alike, of_coming.2)
