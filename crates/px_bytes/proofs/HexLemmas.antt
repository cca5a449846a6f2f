-- Hexadecimal digits, from the last to the first.
use Rattle.std.proofs.Common.{◌≡◌, ℕ, zero, suc, ◌+◌, ◌-◌, ◌/◌, ◌%◌, ◌^◌, ◌<◌, ◌≤◌, inl, inr, false, cond, List, [], ◌∷◌, ◌++◌, length, take, drop, set, refl, sym, ap, ◌∙◌, append_assoc, arith}
use Rattle.std.proofs.lemmas.Bool.{cases_lt, eq-eqb, ne_eqb}
use Rattle.std.proofs.lemmas.Fmt.{hex_one_digit}
use Rattle.std.proofs.lemmas.List.{length-append, length-drop, length-set}
use Rattle.std.proofs.lemmas.List.{take_all}
use Rattle.std.proofs.Math.Seq.{take-append_seam}
use Rattle.std.proofs.lemmas.Grind.{drop-set_at}
use Rattle.std.specs.Fmt.{digits, digits_onto, digit_glyph}

-- the digits of at most k places in front of others
abbrev spell : ℕ → ℕ → List ℕ → List ℕ
spell k n acc = digits_onto k 16 false n acc

-- the digit of the last place
abbrev last_glyph : ℕ → ℕ
last_glyph n = digit_glyph false (n % 16)

spell_last : (k n : ℕ) (acc : List ℕ) → n < 16 → spell (suc k) n acc ≡ last_glyph n ∷ acc
spell_last k n acc h = ap (λ t. cond t (last_glyph n ∷ acc) (spell k (n / 16) (last_glyph n ∷ acc))) (eq-eqb (n / 16) 0 (omega arith))

spell_next : (k n : ℕ) (acc : List ℕ) → 16 ≤ n → spell (suc k) n acc ≡ spell k (n / 16) (last_glyph n ∷ acc)
spell_next k n acc h = ap (λ t. cond t (last_glyph n ∷ acc) (spell k (n / 16) (last_glyph n ∷ acc))) (ne_eqb (n / 16) 0 (λ e. omega arith))

spell-append : (k n : ℕ) (acc : List ℕ) → spell k n acc ≡ spell k n [] ++ acc
spell-append zero n acc = refl
spell-append (suc k) n acc = elim (cases_lt n 16) [
  | inl l ↦ spell_last k n acc l ∙ ap (λ x. x ++ acc) (sym (spell_last k n [] l))
  | inr l ↦ spell_next k n acc l ∙ spell-append k (n / 16) (last_glyph n ∷ acc) ∙ sym (append_assoc (spell k (n / 16) []) (last_glyph n ∷ []) acc) ∙ ap (λ x. x ++ acc) (sym (spell_next k n [] l ∙ spell-append k (n / 16) (last_glyph n ∷ [])))
]

-- more places than the number needs change nothing
spell_enough : (j k n : ℕ) (acc : List ℕ) → n < 16 ^ suc j → n < 16 ^ suc k → spell (suc j) n acc ≡ spell (suc k) n acc
spell_enough zero k n acc p q = spell_last zero n acc (omega arith) ∙ sym (spell_last k n acc (omega arith))
spell_enough (suc j) zero n acc p q = spell_last (suc j) n acc (omega arith) ∙ sym (spell_last zero n acc (omega arith))
spell_enough (suc j) (suc k) n acc p q = elim (cases_lt n 16) [
  | inl l ↦ spell_last (suc j) n acc l ∙ sym (spell_last (suc k) n acc l)
  | inr l ↦ spell_next (suc j) n acc l ∙ spell_enough j k (n / 16) (last_glyph n ∷ acc) (omega arith) (omega arith) ∙ sym (spell_next (suc k) n acc l)
]

digits_onto-nil : (n : ℕ) → digits_onto 64 16 false n [] ≡ digits 16 false n
unfolding digits
digits_onto-nil n = refl

-- the last digit stands behind the digits of the rest
pub hex_step : (n : ℕ) → 16 ≤ n → n < 16 ^ 64 → digits 16 false n ≡ digits 16 false (n / 16) ++ (digit_glyph false (n % 16) ∷ [])
hex_step n h small =
    sym (digits_onto-nil n) ∙ spell_next 63 n [] h ∙ spell_enough 62 63 (n / 16) (last_glyph n ∷ []) (omega arith) (omega arith) ∙ spell-append 64 (n / 16) (last_glyph n ∷ [])
    ∙ ap (λ ds. ds ++ (last_glyph n ∷ [])) (digits_onto-nil (n / 16))

-- one place fewer for the rest
pub place_fewer : (k n : ℕ) → 16 ≤ n → n < 16 ^ k → (2 ≤ k) × (n / 16 < 16 ^ (k - 1))
place_fewer zero n h small = absurd (omega arith)
place_fewer (suc zero) n h small = absurd (omega arith)
place_fewer (suc (suc j)) n h small =
    let left : suc (suc j) - 1 ≡ suc j = omega arith in
    (omega arith, rw left (omega arith))

-- a number below 16 ^ k has at most k digits
pub length-hex-le : (k n : ℕ) → 0 < k → n < 16 ^ k → n < 16 ^ 64 → length (digits 16 false n) ≤ k
length-hex-le zero n some fits small = absurd (omega arith)
length-hex-le (suc k) n some fits small = elim (cases_lt n 16) [
  | inl l ↦ omega (arith, ap length (hex_one_digit false n l))
  | inr l ↦
      let fewer = place_fewer (suc k) n l fits in
      let less : suc k - 1 ≡ k = omega arith in
      let rest : length (digits 16 false (n / 16)) ≤ k = length-hex-le k (n / 16) (omega arith) (rw less at fewer.1) (omega arith) in
      omega (arith, ap length (hex_step n l small), length-append (digits 16 false (n / 16)) (digit_glyph false (n % 16) ∷ []), rest)
]

-- a byte written in front of the place at shows there
written_at : (text : List ℕ) (at g : ℕ) → 1 ≤ at → at ≤ length text → drop (at - 1) (set text (at - 1) g) ≡ g ∷ drop at text
written_at text at g some within =
    let same : at - 1 + 1 ≡ at = omega arith in
    drop-set_at text (at - 1) (at - 1) g refl (omega arith) ∙ ap (λ k. g ∷ drop k text) same

-- a digit written in front of those that were, where others follow
pub written_more : (text : List ℕ) (at left n g : ℕ) → 1 ≤ at → at ≤ length text → 16 ≤ left → left < 16 ^ 64 → g ≡ digit_glyph false (left % 16) → digits 16 false left ++ drop at text ≡ digits 16 false n
    → digits 16 false (left / 16) ++ drop (at - 1) (set text (at - 1) g) ≡ digits 16 false n
written_more text at left n g some within h small e is =
    ap (λ bytes. digits 16 false (left / 16) ++ bytes) (written_at text at g some within ∙ ap (λ d. d ∷ drop at text) e)
    ∙ sym (append_assoc (digits 16 false (left / 16)) (digit_glyph false (left % 16) ∷ []) (drop at text))
    ∙ ap (λ ds. ds ++ drop at text) (sym (hex_step left h small)) ∙ is

-- the first digit written in front of those that were
pub written_last : (text : List ℕ) (at left n g : ℕ) → 1 ≤ at → at ≤ length text → left < 16 → g ≡ digit_glyph false left → digits 16 false left ++ drop at text ≡ digits 16 false n
    → drop (at - 1) (set text (at - 1) g) ≡ digits 16 false n
written_last text at left n g some within small e is =
    written_at text at g some within ∙ ap (λ d. d ∷ drop at text) e ∙ ap (λ ds. ds ++ drop at text) (sym (hex_one_digit false left small)) ∙ is

-- as many bytes were written as there are digits
pub written_len : (text : List ℕ) (at g : ℕ) (ds : List ℕ) → length text ≡ 8 → drop (at - 1) (set text (at - 1) g) ≡ ds → 8 - (at - 1) ≡ length ds
written_len text at g ds long is = omega (arith, ap length is, length-drop (at - 1) (set text (at - 1) g), length-set text (at - 1) g)

-- the bytes that were copied to the front
pub copied : (k : ℕ) (new post xs ds : List ℕ) → new ≡ take k xs → xs ≡ ds → k ≡ length ds → take k (new ++ post) ≡ ds
copied k new post xs ds is e long =
    let same : new ≡ ds = is ∙ take_all k xs (omega (arith, ap length e)) ∙ e in
    ap (λ l. take k (l ++ post)) same ∙ ap (λ n. take n (ds ++ post)) long ∙ take-append_seam ds post
