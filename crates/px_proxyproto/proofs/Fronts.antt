-- Bytes that have one beginning with a word, and bytes that go on.
use Rattle.std.proofs.Common.{◌≡◌, ℕ, zero, suc, ◌≤◌, Bool, true, false, List, [], ◌∷◌, ◌++◌, length, take, drop, inl, inr, refl, sym, ap, subst, ◌∙◌, arith, append_assoc, take-append-drop}
use Rattle.std.specs.Prelude.{Option, Some, None, codes}
use Rattle.std.proofs.lemmas.List.{append-nil, take_all, take-take, length-take-le}
use Rattle.std.proofs.lemmas.Bool.{cases_lt}
use Rattle.std.proofs.lemmas.Slice.Eq.{bytes_eq-Decides}
use Rattle.px_peer.specs.declared.Pair.{Pair}
use Rattle.px_proxyproto.specs.Binary.{IsBinary, signature, is_signed}
use Rattle.px_proxyproto.specs.Lines.{Agrees, IsLineOf, IsText, family_word, line_end}

heads : (x y : ℕ) (xs ys : List ℕ) → x ∷ xs ≡ y ∷ ys → (x ≡ y) × (xs ≡ ys)
heads x y xs ys e = (cc, cc)

take_none : (n : ℕ) → let none : List ℕ = [] in take n none ≡ none
take_none zero = refl
take_none (suc n) = refl

-- what may go on as the word does agrees with it
pub agrees_by : (bytes rest word more : List ℕ) → bytes ++ rest ≡ word ++ more → Agrees bytes word
agrees_by [] rest word more e = take_none (length word)
agrees_by (x ∷ bytes) rest [] more e = refl
agrees_by (x ∷ bytes) rest (y ∷ word) more e =
    let h = heads x y (bytes ++ rest) (word ++ more) e in
    let t = agrees_by bytes rest word more h.1 in
    λ i. h.0 i ∷ t i

pub signed_is : (bytes : List ℕ) → is_signed bytes ≡ true → take 12 bytes ≡ signature
signed_is bytes e = sym ((bytes_eq-Decides signature (take 12 bytes)).0 e)

pub signed_by : (bytes : List ℕ) → take 12 bytes ≡ signature → is_signed bytes ≡ true
signed_by bytes e = (bytes_eq-Decides signature (take 12 bytes)).1 (sym e)

signed_whole : (bytes : List ℕ) → take 12 bytes ≡ signature → bytes ≡ signature ++ drop 12 bytes
signed_whole bytes e = sym (take-append-drop 12 bytes) ∙ ap (λ (t : List ℕ). t ++ drop 12 bytes) e

pub signed_agrees : (bytes : List ℕ) → take 12 bytes ≡ signature → Agrees bytes signature
signed_agrees bytes e = agrees_by bytes [] signature (drop 12 bytes) (append-nil bytes ∙ signed_whole bytes e)

pub agrees_signed : (bytes : List ℕ) → Agrees bytes signature → 12 ≤ length bytes → take 12 bytes ≡ signature
agrees_signed bytes a le = a ∙ take_all (length bytes) signature le

-- no line begins as the signature does
pub eighty_apart : (bytes rest : List ℕ) → bytes ≡ 80 ∷ rest → ¬ (Agrees bytes signature)
eighty_apart bytes rest e a =
    let h : Agrees (80 ∷ rest) signature = subst (λ (t : List ℕ). Agrees t signature) e a in
    let same = heads 80 13 (take 11 rest) (take (length rest) (drop 1 signature)) h in
    absurd (omega (arith, same.0))

line_first : (line : List ℕ) (told : Option Pair) → IsLineOf line told → (rest : List ℕ) × (line ≡ 80 ∷ rest)
line_first line None is = (drop 1 (codes "PROXY UNKNOWN") ++ is.0, is.1)
line_first line (Some pair) (inl h) = (drop 1 (family_word false) ++ h.0, h.1)
line_first line (Some pair) (inr h) = (drop 1 (family_word true) ++ h.0, h.1)

pub text_first : (bytes : List ℕ) (pair : Option Pair) → IsText bytes pair → (rest : List ℕ) × (bytes ≡ 80 ∷ rest)
text_first bytes pair is =
    let f = line_first is.line pair is.tells in
    (f.0 ++ line_end, is.ends ∙ ap (λ (t : List ℕ). t ++ line_end) f.1)

text_apart_by : (bytes rest more : List ℕ) → 1 ≤ length bytes → bytes ++ rest ≡ 80 ∷ more → Agrees bytes signature → ⊥
text_apart_by [] rest more le e a = absurd (omega (arith, le))
text_apart_by (x ∷ bytes) rest more le e a =
    let h = heads x 80 (bytes ++ rest) more e in
    eighty_apart (x ∷ bytes) bytes (ap (λ (t : ℕ). t ∷ bytes) h.0) a

pub text_apart : (bytes rest : List ℕ) (pair : Option Pair) → 1 ≤ length bytes → Agrees bytes signature → IsText (bytes ++ rest) pair → ⊥
text_apart bytes rest pair le a is = let f = text_first (bytes ++ rest) pair is in text_apart_by bytes rest f.0 le f.1 a

pub text_front_apart : (bytes front rest : List ℕ) (pair : Option Pair) → bytes ≡ front ++ rest → Agrees bytes signature → IsText front pair → ⊥
text_front_apart bytes front rest pair e a is =
    let f = text_first front pair is in
    eighty_apart bytes (f.0 ++ rest) (e ∙ ap (λ (t : List ℕ). t ++ rest) f.1) a

pub binary_apart : (bytes rest : List ℕ) (pair : Option Pair) → ¬ (Agrees bytes signature) → IsBinary (bytes ++ rest) pair → ⊥
binary_apart bytes rest pair never is =
    never (agrees_by bytes rest signature (drop 12 (bytes ++ rest)) (signed_whole (bytes ++ rest) is.signed))

pub binary_front_apart : (bytes front rest : List ℕ) (pair : Option Pair) → bytes ≡ front ++ rest → ¬ (Agrees bytes signature) → IsBinary front pair → ⊥
binary_front_apart bytes front rest pair e never is =
    never (agrees_by bytes [] signature (drop 12 front ++ rest)
    (append-nil bytes ∙ (e ∙ (ap (λ (t : List ℕ). t ++ rest) (signed_whole front is.signed) ∙ append_assoc signature (drop 12 front) rest))))

-- ---- what is kept of the bytes begins as they do

kept_12 : (bytes : List ℕ) → take 12 (take 107 bytes) ≡ take 12 bytes
kept_12 bytes = take-take 12 107 bytes (omega arith)

pub agrees_whole : (bytes : List ℕ) → Agrees (take 107 bytes) signature → Agrees bytes signature
agrees_whole bytes a =
    elim (cases_lt 107 (length bytes)) [
      | inl long ↦
          let len : length (take 107 bytes) ≡ 107 = length-take-le 107 bytes (omega (arith, long)) in
          signed_agrees bytes (sym (kept_12 bytes) ∙ agrees_signed (take 107 bytes) a (omega (arith, len)))
      | inr short ↦ subst (λ (t : List ℕ). Agrees t signature) (take_all 107 bytes short) a
    ]

not_true : (b : Bool) → ¬ (b ≡ true) → b ≡ false
not_true true never = absurd (never refl)
not_true false never = refl

pub unsigned_whole : (bytes : List ℕ) → ¬ (Agrees (take 107 bytes) signature) → is_signed bytes ≡ false
unsigned_whole bytes never =
    not_true (is_signed bytes) (λ e. never (signed_agrees (take 107 bytes) (kept_12 bytes ∙ signed_is bytes e)))
