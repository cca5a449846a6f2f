-- Formats as they are spelled, read part by part.
use Rattle.std.proofs.Common.{◌≡◌, ◌≢◌, ℕ, zero, suc, ◌≤◌, Bool, true, false, cond, List, [], ◌∷◌, ◌++◌, length, refl, sym, ap, ◌∙◌, append_assoc, arith}
use Rattle.std.proofs.lemmas.Bool.{false≢true, leb-true, not-true, eqb-true}
use Rattle.std.proofs.lemmas.List.{append-nil}
use Rattle.std.specs.Prelude.{◌==◌, ◌&&◌, not, nat_le, Ok}
use Rattle.std.specs.List.{list_all, flat_map}
use Rattle.px_expr.specs.declared.expr.Expr.{Expr}
use Rattle.log_format.specs.declared.fmt.Part.{Part}
use Rattle.log_format.specs.declared.fmt.Part.TheVariants.{Literal, Sample}
use Rattle.log_format.specs.declared.fmt.Fmt.{Fmt}
use Rattle.cfg_expr.specs.declared.side.Side.{Side}
use Rattle.cfg_expr.specs.Reading.{plain, ◌>>=◌}
use Rattle.cfg_expr.specs.Faults.{TextReading}
use Rattle.cfg_expr.specs.Formats.{put, literal_behind, literal_in, closed, sample_at, by_literal, part_at, parts_from, format_of, most_parts}
use Rattle.cfg_print.specs.Exprs.{expr_text}
use Rattle.cfg_print.specs.Formats.{doubled, part_text, format_text}
use Rattle.cfg_laws.specs.Spelled.{is_spelled, is_literal, begins_literal, are_apart, is_spelled_part, is_spelled_format}
use Rattle.cfg_laws.specs.Laws.Exprs.{expr_patterns}
use Rattle.cfg_laws.specs.Laws.Formats.{part_patterns, format_patterns}
use Rattle.cfg_laws.proofs.LawLemmas.Words.{both_left, both_right}
use Rattle.cfg_laws.proofs.LawLemmas.Convs.{found}
use Rattle.cfg_laws.proofs.LawLemmas.Exprs.{expr_back}

-- ---- texts

-- a text, and what is behind it
abbrev cut : List ℕ → List ℕ → List ℕ × List ℕ
cut text rest = (text, rest)

-- a part, with what is behind it
abbrev sample_of : Expr → List ℕ → Part × List ℕ
sample_of expr rest = (Sample expr, rest)

abbrev format_with : List Part → Fmt
format_with parts = record { parts = parts }

-- no text stands there
abbrev Stops : List ℕ → Type 0
Stops rest = literal_in rest ≡ cut [] rest

double_percent : (rest : List ℕ) → literal_in (37 ∷ 37 ∷ rest) ≡ put 37 (literal_in rest)
unfolding literal_in
double_percent rest = refl

other_byte : (b : ℕ) (rest : List ℕ) → (b == 37) ≡ false → literal_in (b ∷ rest) ≡ put b (literal_in rest)
unfolding literal_in
other_byte b rest h = ap (λ t. cond t (literal_behind true rest) (put b (literal_behind false rest))) h

-- a byte of a text is read back
byte_read : (b : ℕ) (rest : List ℕ) (t : Bool) → (b == 37) ≡ t → literal_in (cond t (37 ∷ 37 ∷ []) (b ∷ []) ++ rest) ≡ put b (literal_in rest)
byte_read b rest true h = double_percent rest ∙ ap (λ n. put n (literal_in rest)) (sym (eqb-true b 37 h))
byte_read b rest false h = other_byte b rest h

literal_read : (text rest : List ℕ) → Stops rest → literal_in (flat_map doubled text ++ rest) ≡ cut text rest
literal_read [] rest stops = stops
literal_read (b ∷ text) rest stops =
    ap literal_in (append_assoc (doubled b) (flat_map doubled text) rest)
    ∙ byte_read b (flat_map doubled text ++ rest) (b == 37) refl
    ∙ ap (put b) (literal_read text rest stops)

-- ---- a part

bracket_stops : (rest : List ℕ) → Stops (37 ∷ 91 ∷ rest)
unfolding literal_in
bracket_stops rest = refl

sample_read : (side : Side) (expr : Expr) (rest : List ℕ) → is_spelled side expr ≡ true → sample_at side (expr_text expr ++ 93 ∷ rest) ≡ found (expr_patterns expr) (Sample expr, rest)
unfolding sample_at
sample_read side expr rest h =
    let next = λ (e : Expr × List ℕ). plain (closed e.1) >>= λ more. plain (Ok (sample_of e.0 more)) in
    ap (λ (r : TextReading (Expr × List ℕ)). r >>= next) (expr_back side expr (93 ∷ rest) h refl)
    ∙ ap (λ asks. found asks (sample_of expr rest)) (append-nil (expr_patterns expr))

-- an expression in brackets
bracketed : (expr : Expr) (rest : List ℕ) → part_text (Sample expr) ++ rest ≡ 37 ∷ 91 ∷ (expr_text expr ++ 93 ∷ rest)
unfolding part_text
bracketed expr rest = ap (λ text. 37 ∷ 91 ∷ text) (append_assoc (expr_text expr) (93 ∷ []) rest)

part_read : (side : Side) (part : Part) (rest : List ℕ) → is_spelled_part side part ≡ true → (is_literal part ≡ true → Stops rest)
    → part_at side (part_text part ++ rest) ≡ found (part_patterns part) (part, rest)
unfolding part_at part_text
part_read side (Literal []) rest h stops = absurd (false≢true h)
part_read side (Literal (b ∷ text)) rest h stops = ap (by_literal side) (literal_read (b ∷ text) rest (stops refl))
part_read side (Sample expr) rest h stops =
    let text = expr_text expr ++ 93 ∷ rest in
    ap (part_at side) (bracketed expr rest)
    ∙ ap (by_literal side) (bracket_stops text) ∙ sample_read side expr rest h

-- ---- parts

-- no text stands in front of what begins with none
stops_before : (parts : List Part) → begins_literal parts ≡ false → Stops (flat_map part_text parts)
unfolding literal_in part_text
stops_before [] h = refl
stops_before (Literal text ∷ parts) h = absurd (false≢true (sym h))
stops_before (Sample expr ∷ parts) h = refl

-- a byte of a text is spelled
some_byte : (t : Bool) (b : ℕ) (rest : List ℕ) → cond t (37 ∷ 37 ∷ []) (b ∷ []) ++ rest ≢ []
some_byte true b rest = λ e. omega (arith, ap length e)
some_byte false b rest = λ e. omega (arith, ap length e)

some_text : (side : Side) (part : Part) (rest : List ℕ) → is_spelled_part side part ≡ true → part_text part ++ rest ≢ []
unfolding part_text
some_text side (Literal []) rest h = absurd (false≢true h)
some_text side (Literal (b ∷ text)) rest h = λ e. some_byte (b == 37) b (flat_map doubled text ++ rest) (sym (append_assoc (doubled b) (flat_map doubled text) rest) ∙ e)
some_text side (Sample expr) rest h = λ e. omega (arith, ap length e)

one_more : (side : Side) (most : ℕ) (so_far : List Part) (text : List ℕ) → text ≢ []
    → parts_from side (suc most) so_far text ≡ (part_at side text >>= λ next. parts_from side most (so_far ++ next.0 ∷ []) next.1)
unfolding parts_from
one_more side most so_far [] some = absurd (some refl)
one_more side most so_far (b ∷ text) some = refl

no_more : (side : Side) (most : ℕ) (so_far : List Part) → parts_from side most so_far [] ≡ found [] so_far
unfolding parts_from
no_more side zero so_far = refl
no_more side (suc most) so_far = refl

apart_front : (a b : Bool) → not (a && b) ≡ true → a ≡ true → b ≡ false
apart_front true b h is = not-true b h
apart_front false b h is = absurd (false≢true is)

parts_back : (side : Side) (most : ℕ) (so_far parts : List Part) → length parts ≤ most → list_all (is_spelled_part side) parts ≡ true → are_apart parts ≡ true
    → parts_from side most so_far (flat_map part_text parts) ≡ found (flat_map part_patterns parts) (so_far ++ parts)
parts_back side most so_far [] few h apart = no_more side most so_far ∙ ap (λ all. found [] all) (sym (append-nil so_far))
parts_back side zero so_far (part ∷ parts) few h apart = absurd (omega arith)
parts_back side (suc most) so_far (part ∷ parts) few h apart =
    let rest = flat_map part_text parts in
    let is = both_left (is_spelled_part side part) (list_all (is_spelled_part side) parts) h in
    let front = both_left (not (is_literal part && begins_literal parts)) (are_apart parts) apart in
    let next = λ (p : Part × List ℕ). parts_from side most (so_far ++ p.0 ∷ []) p.1 in
    one_more side most so_far (part_text part ++ rest) (some_text side part rest is)
    ∙ ap (λ (r : TextReading (Part × List ℕ)). r >>= next) (part_read side part rest is (λ literal. stops_before parts (apart_front (is_literal part) (begins_literal parts) front literal)))
    ∙ ap (λ (r : TextReading (List Part)). record { asks = part_patterns part ++ r.asks; gives = r.gives })
    (parts_back side most (so_far ++ part ∷ []) parts (omega arith) (both_right (is_spelled_part side part) (list_all (is_spelled_part side) parts) h)
    (both_right (not (is_literal part && begins_literal parts)) (are_apart parts) apart))
    ∙ ap (λ all. found (flat_map part_patterns (part ∷ parts)) all) (append_assoc so_far (part ∷ []) parts)

-- a format is read back
pub format_back : (side : Side) (fmt : Fmt) → is_spelled_format side fmt ≡ true → format_of side (format_text fmt) ≡ found (format_patterns fmt) fmt
unfolding format_of format_text
format_back side fmt h =
    let few = leb-true (length fmt.parts) 64 (both_left (nat_le (length fmt.parts) most_parts) (list_all (is_spelled_part side) fmt.parts && are_apart fmt.parts) h) in
    let others = both_right (nat_le (length fmt.parts) most_parts) (list_all (is_spelled_part side) fmt.parts && are_apart fmt.parts) h in
    let all = both_left (list_all (is_spelled_part side) fmt.parts) (are_apart fmt.parts) others in
    let apart = both_right (list_all (is_spelled_part side) fmt.parts) (are_apart fmt.parts) others in
    ap (λ (r : TextReading (List Part)). r >>= λ parts. plain (Ok (format_with parts))) (parts_back side 64 [] fmt.parts few all apart)
    ∙ ap (λ asks. found asks fmt) (append-nil (format_patterns fmt))
