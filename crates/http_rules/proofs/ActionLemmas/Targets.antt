-- Pieces of a target.
use Rattle.std.proofs.Common.{◌≡◌, ℕ, ◌+◌, ◌-◌, List, [], ◌∷◌, ◌++◌, refl, sym, ap, ◌∙◌, length, take, drop, arith, length-append}
use Rattle.std.specs.Prelude.{Option, Some, None}
use Rattle.std.proofs.Math.Seq.{take-append_seam, drop-append_seam}
use Rattle.uri_parts.specs.Cut.{query_text}
use Rattle.http_rules.specs.Action.Lines.{queried, mark_by}

pub front_piece : (t a q : List ℕ) (n : ℕ) → a ++ q ≡ t → n ≡ length q → take (length t - n) t ≡ a
front_piece t a q n is size =
    let len : length t ≡ length a + length q = sym (ap (λ (x : List ℕ). length x) is) ∙ length-append a q in
    let at : length t - n ≡ length a = omega (arith, len, size) in
    ap (λ (k : ℕ). take k t) at ∙ ap (λ (x : List ℕ). take (length a) x) (sym is) ∙ take-append_seam a q

pub back_piece : (t a q : List ℕ) (n : ℕ) → a ++ q ≡ t → n ≡ length q → drop (length t - n) t ≡ q
back_piece t a q n is size =
    let len : length t ≡ length a + length q = sym (ap (λ (x : List ℕ). length x) is) ∙ length-append a q in
    let at : length t - n ≡ length a = omega (arith, len, size) in
    ap (λ (k : ℕ). drop k t) at ∙ ap (λ (x : List ℕ). drop (length a) x) (sym is) ∙ drop-append_seam a q

-- the same where what is behind the piece has two parts
pub front_of_two : (t a p q : List ℕ) (n m : ℕ) → a ++ (p ++ q) ≡ t → n ≡ length p → m ≡ length q → take (length t - n - m) t ≡ a
front_of_two t a p q n m is first second =
    let size : n + m ≡ length (p ++ q) = omega (arith, first, second, length-append p q) in
    let at : length t - n - m ≡ length t - (n + m) = omega arith in
    ap (λ (k : ℕ). take k t) at ∙ front_piece t a (p ++ q) (n + m) is size

pub back_of_two : (t a p q : List ℕ) (n m : ℕ) → a ++ (p ++ q) ≡ t → n ≡ length p → m ≡ length q → drop (length t - n - m) t ≡ p ++ q
back_of_two t a p q n m is first second =
    let size : n + m ≡ length (p ++ q) = omega (arith, first, second, length-append p q) in
    let at : length t - n - m ≡ length t - (n + m) = omega arith in
    ap (λ (k : ℕ). drop k t) at ∙ back_piece t a (p ++ q) (n + m) is size

-- a text behind its `?`
pub marked : (query : Option (List ℕ)) (text : List ℕ) → mark_by (query_text query) text ++ text ≡ queried query text
marked None [] = refl
marked None (b ∷ text) = refl
marked (Some q) text = refl
