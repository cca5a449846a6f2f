-- What a window shows once bytes were written behind its own, or went from its front.
use Rattle.std.proofs.Common.{◌≡◌, ◌≤◌, ◌+◌, ◌-◌, ◌++◌, List, ℕ, [], ◌∷◌, refl, take, drop, length, sym, ap, ◌∙◌, arith, append_assoc, length-append, length-drop}
use Rattle.std.proofs.lemmas.List.{length-take-le, take_at, drop-drop, drop-take, drop-append-le, take-append-le, take-append-drop}
use Rattle.wire_buf.specs.Stored.{overwritten}

empty : (xs : List ℕ) → length xs ≡ 0 → xs ≡ []
empty [] e = refl
empty (x ∷ xs) e = absurd (omega arith)

pub length-shown : (ring : List ℕ) (begin len : ℕ) → begin + len ≤ length ring → length (take len (drop begin ring)) ≡ len
length-shown ring begin len fits = length-take-le len (drop begin ring) (omega (arith, length-drop begin ring, fits))

-- the bytes stand in a ring that has grown
pub grown : (ring bigger : List ℕ) (begin len : ℕ) → begin + len ≤ length ring → take (length ring) bigger ≡ ring → take len (drop begin bigger) ≡ take len (drop begin ring)
grown ring bigger begin len fits front =
    let rest : List ℕ = drop (length ring) bigger in
    let is : bigger ≡ ring ++ rest = sym (take-append-drop (length ring) bigger) ∙ ap (λ xs. xs ++ rest) front in
    ap (λ xs. take len (drop begin xs)) is
    ∙ ap (take len) (drop-append-le begin ring rest (omega (arith, fits)))
    ∙ take-append-le len (drop begin ring) rest (omega (arith, length-drop begin ring, fits))

-- a piece stands behind the bytes that were there
pub pushed : (ring piece bytes : List ℕ) (begin len n : ℕ) → begin + len + n ≤ length ring → length piece ≡ n → take len (drop begin ring) ≡ bytes
    → take (len + n) (drop begin (overwritten ring (begin + len) piece)) ≡ bytes ++ piece
pushed ring piece bytes begin len n fits size is =
    let rest : List ℕ = piece ++ drop (begin + len + length piece) ring in
    let shown : List ℕ = take len (drop begin ring) in
    let front : length (take (begin + len) ring) ≡ begin + len = length-take-le (begin + len) ring (omega (arith, fits)) in
    let apart : drop begin (overwritten ring (begin + len) piece) ≡ shown ++ rest
    = drop-append-le begin (take (begin + len) ring) rest (omega (arith, front)) ∙ ap (λ ys. ys ++ rest) (drop-take begin len ring) in
    let held : length shown ≡ len = length-shown ring begin len (omega (arith, fits)) in
    let both : length (shown ++ piece) ≡ len + n = length-append shown piece ∙ omega (arith, held, size) in
    ap (take (len + n)) (apart ∙ sym (append_assoc shown piece (drop (begin + len + length piece) ring)))
    ∙ take_at (shown ++ piece) (drop (begin + len + length piece) ring) (len + n) both
    ∙ ap (λ ys. ys ++ piece) is

-- the first bytes went
pub went : (ring : List ℕ) (begin len n : ℕ) → n ≤ len → take (len - n) (drop (begin + n) ring) ≡ drop n (take len (drop begin ring))
went ring begin len n within =
    let all : n + (len - n) ≡ len = omega (arith, within) in
    sym (ap (λ k. drop n (take k (drop begin ring))) (sym all) ∙ drop-take n (len - n) (drop begin ring) ∙ ap (take (len - n)) (drop-drop n begin ring))

-- all went
pub all_went : (bytes ys : List ℕ) (n left : ℕ) → left ≡ 0 → length bytes ≤ n → take left ys ≡ drop n bytes
all_went bytes ys n left none all =
    ap (λ k. take k ys) none ∙ sym (empty (drop n bytes) (omega (arith, length-drop n bytes, all)))
