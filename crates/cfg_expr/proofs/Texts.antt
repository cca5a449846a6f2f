-- The text in front of a `%` that is not doubled, byte by byte.
use Rattle.std.proofs.Common.{◌≡◌, ◌≢◌, ℕ, List, [], ◌∷◌, ◌++◌, ◌∙◌, append_assoc, Bool, true, false, cond, drop, take, length, get_or, ap, sym, refl, arith}
use Rattle.std.proofs.lemmas.Bool.{eqb-true}
use Rattle.std.proofs.lemmas.List.{append-nil}
use Rattle.std.specs.Prelude.{◌==◌}
use Rattle.cfg_expr.specs.Formats.{put, literal_behind, literal_in, piece_len}

-- a text, and what is behind it
abbrev cut : List ℕ → List ℕ → List ℕ × List ℕ
cut text rest = (text, rest)

-- one number or another
abbrev pieces : Bool → ℕ → ℕ → ℕ
pieces t x y = cond t x y

-- a byte that is a `%` is one
percent_is : (b : ℕ) → (b == 37) ≡ true → 37 ≡ b
percent_is b is = sym (eqb-true b 37 is)

stop_one : (b : ℕ) (t : Bool) → (b == 37) ≡ t → (pieces t 0 1) ≡ 0 →
    cond t (literal_behind true []) (put b (literal_behind false [])) ≡ cut [] (b ∷ [])
stop_one b true is h = ap (λ n. cut [] (n ∷ [])) (percent_is b is)
stop_one b false is h = let never : ⊥ = omega arith in absurd never

stop_two : (b c : ℕ) (rest : List ℕ) (t u : Bool) → (b == 37) ≡ t → (pieces t (pieces u 2 0) 1) ≡ 0 →
    cond t (cond u (put 37 (literal_behind false rest)) (cut [] (37 ∷ c ∷ rest))) (put b (literal_behind false (c ∷ rest))) ≡ cut [] (b ∷ c ∷ rest)
stop_two b c rest true true is h = let never : ⊥ = omega arith in absurd never
stop_two b c rest true false is h = ap (λ n. cut [] (n ∷ c ∷ rest)) (percent_is b is)
stop_two b c rest false u is h = let never : ⊥ = omega arith in absurd never

-- where no byte is taken, the text ends
pub literal_stop : (text : List ℕ) → piece_len text ≡ 0 → literal_in text ≡ cut [] text
unfolding literal_in
literal_stop [] h = refl
literal_stop (b ∷ []) h = stop_one b (b == 37) refl h
literal_stop (b ∷ c ∷ rest) h = stop_two b c rest (b == 37) (c == 37) refl h

step_one : (b : ℕ) (t : Bool) → (pieces t 0 1) ≢ 0 →
    cond t (literal_behind true []) (put b (literal_behind false [])) ≡ put b (literal_behind false (drop (pieces t 0 1) (b ∷ [])))
step_one b true h = absurd (h refl)
step_one b false h = refl

step_two : (b c : ℕ) (rest : List ℕ) (t u : Bool) → (b == 37) ≡ t → (pieces t (pieces u 2 0) 1) ≢ 0 →
    cond t (cond u (put 37 (literal_behind false rest)) (cut [] (37 ∷ c ∷ rest))) (put b (literal_behind false (c ∷ rest)))
    ≡ put b (literal_behind false (drop (pieces t (pieces u 2 0) 1) (b ∷ c ∷ rest)))
step_two b c rest true true is h = ap (λ n. put n (literal_behind false rest)) (percent_is b is)
step_two b c rest true false is h = absurd (h refl)
step_two b c rest false u is h = refl

-- else its first byte is taken
pub literal_step : (text : List ℕ) → piece_len text ≢ 0 → literal_in text ≡ put (get_or text 0 0) (literal_in (drop (piece_len text) text))
unfolding literal_in
literal_step [] h = absurd (h refl)
literal_step (b ∷ []) h = step_one b (b == 37) h
literal_step (b ∷ c ∷ rest) h = step_two b c rest (b == 37) (c == 37) refl h

-- the text so far, where what is left is no text
pub literal_end : (text literal rest : List ℕ) → literal_in text ≡ cut (literal ++ (literal_in rest).0) (literal_in rest).1 → piece_len rest ≡ 0 →
    literal_in text ≡ cut literal rest
literal_end text literal rest h none =
    let stops = literal_stop rest none in
    h ∙ ap (λ found. cut (literal ++ found.0) found.1) stops ∙ ap (λ bytes. cut bytes rest) (append-nil literal)

-- with one more byte
pub literal_on : (text literal rest : List ℕ) → literal_in text ≡ cut (literal ++ (literal_in rest).0) (literal_in rest).1 → piece_len rest ≢ 0 →
    literal_in text ≡ cut ((literal ++ get_or rest 0 0 ∷ []) ++ (literal_in (drop (piece_len rest) rest)).0) (literal_in (drop (piece_len rest) rest)).1
literal_on text literal rest h some =
    let goes = literal_step rest some in
    let left = literal_in (drop (piece_len rest) rest) in
    h ∙ ap (λ found. cut (literal ++ found.0) found.1) goes ∙ ap (λ bytes. cut bytes left.1) (sym (append_assoc literal (get_or rest 0 0 ∷ []) left.0))

-- a byte that is taken is the first
pub first_byte : (rest : List ℕ) → piece_len rest ≢ 0 → take 1 rest ≡ get_or rest 0 0 ∷ []
first_byte [] h = absurd (h refl)
first_byte (b ∷ rest) h = refl

-- nothing is left of what has no length
pub none_left : (rest : List ℕ) → length rest ≡ 0 → rest ≡ []
none_left [] h = refl
none_left (b ∷ rest) h = let never : ⊥ = omega arith in absurd never
