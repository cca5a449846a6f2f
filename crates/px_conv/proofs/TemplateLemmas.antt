-- The front of a template, and the rest of it.
use Rattle.std.proofs.Common.{inl, inr, ◌≡◌, ℕ, zero, suc, ◌+◌, ◌≤◌, Bool, false, not, eqb, List, [], ◌∷◌, ◌++◌, length, take, drop, refl, ap, ◌∙◌, arith, Option}
use Rattle.std.specs.List.{prefix_len}
use Rattle.std.proofs.lemmas.Bool.{cases_Bool, not-true, cond-true, cond-false}
use Rattle.std.proofs.lemmas.List.{length-append}
use Rattle.px_pattern.specs.declared.span.Span.{Span}
use Rattle.px_conv.specs.Template.{expanded}

-- a byte that is no backslash
abbrev pub is_plain : ℕ → Bool
is_plain b = not (eqb b 92)

plain_front : (groups : List (Option Span)) (text : List ℕ) (b : ℕ) (bs : List ℕ) → eqb b 92 ≡ false → expanded groups text (b ∷ bs) ≡ b ∷ expanded groups text bs
plain_front groups text b [] h = refl
plain_front groups text b (c ∷ bs) h = rw h refl

-- those at the front stay
pub expanded_plain : (groups : List (Option Span)) (text : List ℕ) (n : ℕ) (bs : List ℕ) → n ≤ prefix_len (λ b. not (eqb b 92)) bs → expanded groups text bs ≡ take n bs ++ expanded groups text (drop n bs)
expanded_plain groups text zero bs h = refl
expanded_plain groups text (suc n) [] h = absurd (omega arith)
expanded_plain groups text (suc n) (b ∷ bs) h =
    elim (cases_Bool (not (eqb b 92))) [
      | inl plain ↦
          let len = cond-true (not (eqb b 92)) (1 + prefix_len (λ b. not (eqb b 92)) bs) 0 plain in
          let rest = expanded_plain groups text n bs (omega arith) in
          plain_front groups text b bs (not-true (eqb b 92) plain) ∙ ap (λ xs. b ∷ xs) rest
      | inr marked ↦
          let len = cond-false (not (eqb b 92)) (1 + prefix_len (λ b. not (eqb b 92)) bs) 0 marked in
          absurd (omega arith)
    ]

-- where the whole fits, each piece does
pub piece_fits : (done rest piece after held whole : List ℕ) (cap limit : ℕ) → done ++ rest ≡ held ++ whole → rest ≡ piece ++ after → limit ≡ cap → length held + length whole ≤ cap → length done + length piece ≤ limit
piece_fits done rest piece after held whole cap limit joined split same fits =
    omega (arith, ap length joined, ap length split, length-append done rest, length-append piece after, length-append held whole)

-- where all pieces fitted, the whole does
pub whole_fits : (done rest held whole : List ℕ) (cap limit : ℕ) → done ++ rest ≡ held ++ whole → length rest ≡ 0 → limit ≡ cap → length done ≤ limit → length held + length whole ≤ cap
whole_fits done rest held whole cap limit joined none same fits =
    omega (arith, ap length joined, length-append done rest, length-append held whole)

-- nothing is left of no template
pub expanded_nil : (groups : List (Option Span)) (text bs : List ℕ) → length bs ≡ 0 → length (expanded groups text bs) ≡ 0
expanded_nil groups text [] h = refl
expanded_nil groups text (b ∷ bs) h = absurd (omega arith)
