-- How many connects were refused.
use Rattle.std.proofs.Common.{◌≡◌, ℕ, ◌≤◌, inl, inr, List, [], ◌∷◌, ◌++◌, Bool, true, false, ◌&&◌, sym, subst, ◌∙◌, refl, arith}
use Rattle.std.proofs.lemmas.Bool.{false≢true}
use Rattle.std.proofs.lemmas.List.Folds.{list_all-append}
use Rattle.px_link.specs.Told.{Rose}
use Rattle.session_core.specs.History.{Connect}
use Rattle.htx_drive.specs.Dialled.{CountsRefused, all_there}

pub counts_none : (n : ℕ) → CountsRefused [] n n
counts_none n = record { never_falls = omega arith; found = λ e. refl; refused = λ e. absurd (false≢true (sym e)) }

pub counts_same : (cs : List Connect) (a b d : ℕ) → CountsRefused cs a b → d ≡ b → CountsRefused cs a d
counts_same cs a b d h e = subst (CountsRefused cs a) (sym e) h

both : (p q : Bool) → q ≡ true → (p && (q && true)) ≡ p
both true true e = refl
both true false e = absurd (false≢true e)
both false q e = refl

neither : (p q : Bool) → q ≡ false → (p && (q && true)) ≡ false
neither true true e = absurd (false≢true (sym e))
neither true false e = refl
neither false q e = refl

there_more : (cs : List Connect) (c : Connect) → all_there (cs ++ c ∷ []) ≡ (all_there cs && (c.there && true))
there_more cs c = list_all-append (λ (c : Connect). c.there) cs (c ∷ [])

pub counts_found : (cs : List Connect) (c : Connect) (a b d : ℕ) → CountsRefused cs a b → c.there ≡ true → d ≡ b → CountsRefused (cs ++ c ∷ []) a d
counts_found cs c a b d h e same =
    let all : all_there (cs ++ c ∷ []) ≡ all_there cs = there_more cs c ∙ both (all_there cs) c.there e in
    counts_same (cs ++ c ∷ []) a b d (record { never_falls = h.never_falls; found = λ t. h.found (sym all ∙ t); refused = λ f. h.refused (sym all ∙ f) }) same

rose_on : (a b d : ℕ) → a ≤ b → Rose b d → Rose a d
rose_on a b d low (inl up) = inl (omega arith)
rose_on a b d low (inr full) = inr full

pub counts_refused : (cs : List Connect) (c : Connect) (a b d : ℕ) → CountsRefused cs a b → c.there ≡ false → b ≤ d → Rose b d → CountsRefused (cs ++ c ∷ []) a d
counts_refused cs c a b d h e low rose =
    let not_all : all_there (cs ++ c ∷ []) ≡ false = there_more cs c ∙ neither (all_there cs) c.there e in
    let grows : a ≤ b = h.never_falls in
    record { never_falls = omega arith; found = λ t. absurd (false≢true (sym not_all ∙ t)); refused = λ f. rose_on a b d grows rose }
