-- Texts that were put behind another in turn.
use Rattle.std.proofs.Common.{◌≡◌, ℕ, List, [], ◌∷◌, ◌++◌, ap, ◌∙◌, append_assoc}
use Rattle.std.specs.Prelude.{Result, Ok, Err, OnOk, codes}
use Rattle.std.proofs.lemmas.List.{append-nil}
use Rattle.cfg_print.specs.Words.{spaced, words_text, line_text}

-- two in turn
pub two : {T E : Type 0} (result : Result T E) (text x y a b : List ℕ) → x ≡ text ++ a → OnOk result (y ≡ x ++ b) → OnOk result (y ≡ text ++ (a ++ b))
two (Ok _) text x y a b first second = second ∙ ap (λ (t : List ℕ). t ++ b) first ∙ append_assoc text a b
two (Err _) text x y a b first second = tt

-- three
pub three : {T E : Type 0} (result : Result T E) (text x y z a b c : List ℕ) → x ≡ text ++ a → y ≡ x ++ b → OnOk result (z ≡ y ++ c) → OnOk result (z ≡ text ++ ((a ++ b) ++ c))
three result text x y z a b c first second third =
    two result text y z (a ++ b) c (second ∙ ap (λ (t : List ℕ). t ++ b) first ∙ append_assoc text a b) third

-- five
pub five : {T E : Type 0} (result : Result T E) (text x y z u v a b c d e : List ℕ) → x ≡ text ++ a → y ≡ x ++ b → z ≡ y ++ c → u ≡ z ++ d → OnOk result (v ≡ u ++ e)
    → OnOk result (v ≡ text ++ ((((a ++ b) ++ c) ++ d) ++ e))
five result text x y z u v a b c d e first second third fourth fifth =
    let both : y ≡ text ++ (a ++ b) = second ∙ ap (λ (t : List ℕ). t ++ b) first ∙ append_assoc text a b in
    let all_three : z ≡ text ++ ((a ++ b) ++ c) = third ∙ ap (λ (t : List ℕ). t ++ c) both ∙ append_assoc text (a ++ b) c in
    three result text z u v ((a ++ b) ++ c) d e all_three fourth fifth

-- six
pub six : {T E : Type 0} (result : Result T E) (text x y z u v w a b c d e f : List ℕ) → x ≡ text ++ a → y ≡ x ++ b → z ≡ y ++ c → u ≡ z ++ d → v ≡ u ++ e → OnOk result (w ≡ v ++ f)
    → OnOk result (w ≡ text ++ (((((a ++ b) ++ c) ++ d) ++ e) ++ f))
six result text x y z u v w a b c d e f first second third fourth fifth sixth =
    let both : y ≡ text ++ (a ++ b) = second ∙ ap (λ (t : List ℕ). t ++ b) first ∙ append_assoc text a b in
    five result text y z u v w (a ++ b) c d e f both third fourth fifth sixth

regroup : (t i f n s v w e : List ℕ) → (((t ++ (i ++ (f ++ (n ++ (s ++ []))))) ++ v) ++ w) ++ e ≡ t ++ ((i ++ (f ++ (n ++ (s ++ (v ++ (w ++ [])))))) ++ e)
regroup t i f n s v w e = simp (append_assoc, append-nil)

-- a line of five words, of which three are put as one text
pub five_words : {T E : Type 0} (result : Result T E) (text x y z u f n s v w : List ℕ) → x ≡ text ++ (codes "   " ++ words_text (f ∷ n ∷ s ∷ [])) → y ≡ x ++ spaced v → z ≡ y ++ spaced w
    → OnOk result (u ≡ z ++ 10 ∷ []) → OnOk result (u ≡ text ++ line_text (f ∷ n ∷ s ∷ v ∷ w ∷ []))
five_words (Ok _) text x y z u f n s v w first second third fourth =
    rw (fourth, third, second, first) (regroup text (codes "   ") (spaced f) (spaced n) (spaced s) (spaced v) (spaced w) (10 ∷ []))
five_words (Err _) text x y z u f n s v w first second third fourth = tt
