-- Pieces that are written one after another.
use Rattle.std.proofs.Common.{◌≡◌, ℕ, ◌+◌, List, [], ◌∷◌, ◌++◌, length, Option, Some, None, sym, ap, subst, ◌∙◌, append_assoc, arith}
use Rattle.std.proofs.lemmas.List.{append-nil}
use Rattle.px_link.specs.Told.{Gains, GainsFront}
use Rattle.serve_run.specs.declared.outcome.Outcome.{Outcome}
use Rattle.serve_run.specs.Lines.{line_of, lines_from}

pub gains_none : (old : Option (List ℕ)) → Gains old old []
gains_none None = tt
gains_none (Some bytes) = ap (λ b. Some b) (sym (append-nil bytes))

pub gains_then : (old mid new : Option (List ℕ)) (xs ys : List ℕ) → Gains old mid xs → Gains mid new ys → Gains old new (xs ++ ys)
gains_then None mid new xs ys g h = tt
gains_then (Some bytes) mid new xs ys g h =
    let P : Option (List ℕ) → Type 0 = λ o. Gains o new ys in
    let then_new : new ≡ Some ((bytes ++ xs) ++ ys) = subst P g h in then_new ∙ ap (λ b. Some b) (append_assoc bytes xs ys)

pub gains_as : (old new : Option (List ℕ)) (xs ys : List ℕ) → xs ≡ ys → Gains old new xs → Gains old new ys
gains_as old new xs ys e g = let P : List ℕ → Type 0 = λ b. Gains old new b in subst P e g

pub front_whole : (old new : Option (List ℕ)) (xs : List ℕ) → Gains old new xs → GainsFront old new xs
front_whole old new xs g = (xs, [], sym (append-nil xs), g)

pub front_then : (old mid new : Option (List ℕ)) (xs ys : List ℕ) → Gains old mid xs → GainsFront mid new ys → GainsFront old new (xs ++ ys)
front_then old mid new xs ys g h =
    (xs ++ h.0, h.1, ap (λ b. xs ++ b) h.2 ∙ sym (append_assoc xs h.0 h.1), gains_then old mid new xs h.0 g h.3)

pub front_as : (old new : Option (List ℕ)) (xs ys : List ℕ) → xs ≡ ys → GainsFront old new xs → GainsFront old new ys
front_as old new xs ys e g = let P : List ℕ → Type 0 = λ b. GainsFront old new b in subst P e g

-- the lines of one connection more
pub lines_more : (number : ℕ) (outcomes : List Outcome) (outcome : Outcome) (next : ℕ) → next ≡ number + length outcomes → lines_from number (outcomes ++ outcome ∷ []) ≡ lines_from number outcomes ++ line_of next outcome
lines_more number [] outcome next e =
    let same : number ≡ next = omega (e, arith) in append-nil (line_of number outcome) ∙ ap (λ n. line_of n outcome) same
lines_more number (first ∷ outcomes) outcome next e =
    let on : next ≡ (number + 1) + length outcomes = omega (e, arith) in
    ap (λ b. line_of number first ++ b) (lines_more (number + 1) outcomes outcome next on)
    ∙ sym (append_assoc (line_of number first) (lines_from (number + 1) outcomes) (line_of next outcome))
