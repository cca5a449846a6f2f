-- The end of a line, which is determined by its bytes.
use Rattle.std.proofs.Common.{◌≡◌, ◌≢◌, ℕ, ◌+◌, ◌≤◌, ◌<◌, List, [], ◌∷◌, ◌++◌, length, All, inl, inr, ◌⊎◌, refl, sym, ap, subst, ◌∙◌, arith, append_assoc, length-append}
use Rattle.std.specs.Prelude.{Option, Some, None, codes}
use Rattle.std.proofs.lemmas.List.{append-nil, nil_from_length}
use Rattle.px_peer.specs.declared.Pair.{Pair}
use Rattle.px_proxyproto.specs.Binary.{signature}
use Rattle.px_proxyproto.specs.Lines.{Agrees, IsInLine, IsLineOf, IsText, LeavesLine, line_end}
use Rattle.px_proxyproto.specs.Headers.{IsHeader, MayStill}
use Rattle.px_proxyproto.proofs.Cuts.{cut_at, no_cut}
use Rattle.px_proxyproto.proofs.Fronts.{agrees_by, signed_is, signed_agrees, binary_apart, binary_front_apart}

leaves : (b : ℕ) → (b ≡ 13) ⊎ (b ≡ 10) → ¬ (IsInLine b)
leaves b (inl e) is = is.0 e
leaves b (inr e) is = is.1 e

not_13 : ¬ (IsInLine 13)
not_13 is = is.0 refl

-- where a first CR or LF stands, and a CR behind a text without one, both are one place
ends_so : (line end text more : List ℕ) → line ++ end ≡ text ++ (13 ∷ more) → All IsInLine line → LeavesLine end → All IsInLine text → (line ≡ text) × (end ≡ 13 ∷ more)
ends_so line [] text more e inside leave within = absurd leave
ends_so line (x ∷ end) text more e inside leave within =
    let t = cut_at IsInLine x 13 (leaves x leave) not_13 line text end more inside within e in
    (t.0, λ i. t.1 i ∷ t.2 i)

leaves_more : (end rest : List ℕ) → LeavesLine end → LeavesLine (end ++ rest)
leaves_more [] rest leave = absurd leave
leaves_more (x ∷ end) rest leave = leave

ends_at : (line end rest : List ℕ) (pair : Option Pair) → All IsInLine line → LeavesLine end → (is : IsText ((line ++ end) ++ rest) pair) → (line ≡ is.line) × (end ++ rest ≡ line_end)
ends_at line end rest pair inside leave is =
    ends_so line (end ++ rest) is.line (10 ∷ []) (sym (append_assoc line end rest) ∙ is.ends) inside (leaves_more end rest leave) is.inside

front_ends : (line end front rest : List ℕ) (pair : Option Pair) → line ++ end ≡ front ++ rest → All IsInLine line → LeavesLine end → IsText front pair → end ≡ 13 ∷ (10 ∷ rest)
front_ends line end front rest pair e inside leave is =
    (ends_so line end is.line (10 ∷ rest) (e ∙ (ap (λ (t : List ℕ). t ++ rest) is.ends ∙ append_assoc is.line line_end rest)) inside leave is.inside).1

-- ---- no line begins so

pub no_word_begins : (bytes : List ℕ) → ¬ (Agrees bytes (codes "PROXY TCP4 ")) → ¬ (Agrees bytes (codes "PROXY TCP6 ")) → ¬ (Agrees bytes (codes "PROXY UNKNOWN"))
    → (rest : List ℕ) (pair : Option Pair) → IsText (bytes ++ rest) pair → ⊥
no_word_begins bytes four six unknown rest pair is =
    let at : (w t : List ℕ) → is.line ≡ w ++ t → Agrees bytes w =
    λ w t e. agrees_by bytes rest w (t ++ line_end) (is.ends ∙ (ap (λ (x : List ℕ). x ++ line_end) e ∙ append_assoc w t line_end)) in
    none is.line pair is.tells at
  where
    none : (line : List ℕ) (pair : Option Pair) → IsLineOf line pair → ((w t : List ℕ) → line ≡ w ++ t → Agrees bytes w) → ⊥
    none line None told at = unknown (at (codes "PROXY UNKNOWN") told.0 told.1)
    none line (Some pair) (inl told) at = four (at (codes "PROXY TCP4 ") told.0 told.1)
    none line (Some pair) (inr told) at = six (at (codes "PROXY TCP6 ") told.0 told.1)

pub no_line_told : (line end : List ℕ) → All IsInLine line → LeavesLine end → ((told : Option Pair) → ¬ (IsLineOf line told)) → (rest : List ℕ) (pair : Option Pair) → IsText ((line ++ end) ++ rest) pair → ⊥
no_line_told line end inside leave never rest pair is =
    never pair (subst (λ (t : List ℕ). IsLineOf t pair) (sym (ends_at line end rest pair inside leave is).0) is.tells)

pub too_long : (line end : List ℕ) → All IsInLine line → LeavesLine end → 107 < length line + 2 → (rest : List ℕ) (pair : Option Pair) → IsText ((line ++ end) ++ rest) pair → ⊥
too_long line end inside leave long rest pair is =
    let t = ends_at line end rest pair inside leave is in
    let len = ap length (append_assoc line end rest) in
    let tail : length (end ++ rest) ≡ 2 = ap length t.1 in
    absurd (omega (arith, len, tail, length-append line (end ++ rest), is.len, long))

not_ended_by : (end rest : List ℕ) → LeavesLine end → end ≢ 13 ∷ [] → end ≢ 13 ∷ (10 ∷ []) → end ++ rest ≡ 13 ∷ (10 ∷ []) → ⊥
not_ended_by [] rest leave one two e = leave
not_ended_by (x ∷ []) rest leave one two e = let h : x ≡ 13 = cc in one (ap (λ (t : ℕ). t ∷ []) h)
not_ended_by (x ∷ y ∷ []) rest leave one two e = let h : x ≡ 13 = cc in let k : y ≡ 10 = cc in two (λ i. h i ∷ (k i ∷ []))
not_ended_by (x ∷ y ∷ z ∷ end) rest leave one two e = absurd cc

pub not_ended : (line end : List ℕ) → All IsInLine line → LeavesLine end → end ≢ 13 ∷ [] → end ≢ 13 ∷ (10 ∷ []) → (rest : List ℕ) (pair : Option Pair) → IsText ((line ++ end) ++ rest) pair → ⊥
not_ended line end inside leave one two rest pair is = not_ended_by end rest leave one two (ends_at line end rest pair inside leave is).1

pub never_ends : (bytes : List ℕ) → All IsInLine bytes → 107 ≤ length bytes → (rest : List ℕ) (pair : Option Pair) → IsText (bytes ++ rest) pair → ⊥
never_ends bytes inside long rest pair is =
    let none : length rest ≡ 0 = omega (arith, is.len, length-append bytes rest, long) in
    let whole = append-nil bytes in
    let e : bytes ≡ is.line ++ line_end = sym (append-nil bytes) ∙ (ap (λ (t : List ℕ). bytes ++ t) (sym (nil_from_length rest none)) ∙ is.ends) in
    no_cut IsInLine 13 not_13 is.line (10 ∷ []) (subst (All IsInLine) e inside)

-- ---- what is told

pub no_header : (bytes : List ℕ) → ¬ (Agrees bytes signature) → ((rest : List ℕ) (pair : Option Pair) → IsText (bytes ++ rest) pair → ⊥) → (rest : List ℕ) (pair : Option Pair) → IsHeader (bytes ++ rest) pair → ⊥
no_header bytes never text rest pair (inl is) = text rest pair is
no_header bytes never text rest pair (inr is) = binary_apart bytes rest pair never is

none_in : (bytes : List ℕ) → ¬ (Agrees bytes signature) → ((front rest : List ℕ) (pair : Option Pair) → bytes ≡ front ++ rest → IsText front pair → ⊥)
    → (front rest : List ℕ) (pair : Option Pair) → bytes ≡ front ++ rest → IsHeader front pair → ⊥
none_in bytes never text front rest pair e (inl is) = text front rest pair e is
none_in bytes never text front rest pair e (inr is) = binary_front_apart bytes front rest pair e never is

may_still : (bytes : List ℕ) → ¬ (Agrees bytes signature) → length bytes < 107 → ((front rest : List ℕ) (pair : Option Pair) → bytes ≡ front ++ rest → IsText front pair → ⊥) → MayStill bytes
may_still bytes never short text = record {
  none_yet = none_in bytes never text;
  text = λ _. short;
  binary = λ signed _. absurd (never (signed_agrees bytes (signed_is bytes signed)));
}

pub goes_on : (bytes : List ℕ) → ¬ (Agrees bytes signature) → All IsInLine bytes → length bytes < 107 → MayStill bytes
goes_on bytes never inside short =
    may_still bytes never short (λ front rest pair e is.
    let whole = e ∙ (ap (λ (t : List ℕ). t ++ rest) is.ends ∙ append_assoc is.line line_end rest) in
    no_cut IsInLine 13 not_13 is.line (10 ∷ rest) (subst (All IsInLine) whole inside))

pub waits : (line end : List ℕ) → ¬ (Agrees (line ++ end) signature) → All IsInLine line → LeavesLine end → length line + 2 ≤ 107 → end ≡ 13 ∷ [] → MayStill (line ++ end)
waits line end never inside leave short one =
    may_still (line ++ end) never (omega (arith, length-append line end, ap length one, short)) (λ front rest pair e is.
    let two = front_ends line end front rest pair e inside leave is in
    absurd (omega (arith, ap length one, ap length two)))

pub got : (line end : List ℕ) (told : Option Pair) → All IsInLine line → length line + 2 ≤ 107 → IsLineOf line told → end ≡ 13 ∷ (10 ∷ []) → IsHeader (line ++ end) told
got line end told inside short is two = inl (record {
  line = line;
  ends = ap (λ (t : List ℕ). line ++ t) two;
  inside = inside;
  len = omega (arith, length-append line end, ap length two, short);
  tells = is;
})
