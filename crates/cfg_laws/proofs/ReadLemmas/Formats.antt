-- A format that is read can be said again: its texts are as long as they can be, so none is empty and none stands behind another.
use Rattle.std.proofs.Common.{◌≡◌, ℕ, zero, suc, ◌+◌, Bool, true, false, cond, List, [], ◌∷◌, ◌++◌, length, Ok, Err, refl, sym, ap, ◌∙◌, length-append, arith}
use Rattle.std.proofs.lemmas.Bool.{false≢true, and_parts, and_from, not-true, lt-ltb, le-leb}
use Rattle.std.proofs.lemmas.List.Folds.{list_all-append}
use Rattle.std.specs.Prelude.{◌==◌, ◌&&◌, not, nat_le}
use Rattle.std.specs.List.{list_all}
use Rattle.px_expr.specs.declared.expr.Expr.{Expr}
use Rattle.log_format.specs.declared.fmt.Part.{Part}
use Rattle.log_format.specs.declared.fmt.Part.TheVariants.{Literal, Sample}
use Rattle.log_format.specs.declared.fmt.Fmt.{Fmt}
use Rattle.cfg_expr.specs.declared.fault.TextKind.TheVariants as kinds
use Rattle.cfg_expr.specs.declared.side.Side.{Side}
use Rattle.cfg_expr.specs.Reading.{plain, ◌>>=◌}
use Rattle.cfg_expr.specs.Faults.{TextReading}
use Rattle.cfg_expr.specs.Exprs.{expr_at}
use Rattle.cfg_expr.specs.Formats.{put, literal_behind, literal_in, closed, sample_at, percent_at, by_literal, part_at, most_parts, parts_from, parts_at, format_of}
use Rattle.cfg_laws.specs.Spelled.{is_spelled, is_literal, are_apart, is_spelled_part, is_spelled_format}
use Rattle.cfg_laws.proofs.ReadLemmas.Steps.{Gives, GivesSo, gives_so, gives_behind, gives_behind_so, so_from, any, gives_any, reads_either}
use Rattle.cfg_laws.proofs.ReadLemmas.Exprs.{expr_said, expr_gives}

-- ---- texts

-- a text, and what is behind it
abbrev cut : List ℕ → List ℕ → List ℕ × List ℕ
cut text rest = (text, rest)

-- no text stands there
abbrev Stops : List ℕ → Type 0
Stops rest = literal_in rest ≡ cut [] rest

one_percent : (b : ℕ) (rest : List ℕ) → (b == 37) ≡ false → Stops (37 ∷ b ∷ rest)
unfolding literal_in
one_percent b rest h = ap (λ t. cond t (put 37 (literal_behind false rest)) (cut [] (37 ∷ b ∷ rest))) h

percent_if : (b : ℕ) (rest : List ℕ) (t : Bool) → (b == 37) ≡ t → Stops (literal_behind false rest).1 → Stops (cond t (put 37 (literal_behind false rest)) (cut [] (37 ∷ b ∷ rest))).1
percent_if b rest true is h = h
percent_if b rest false is h = one_percent b rest is

byte_if : (b : ℕ) (rest : List ℕ) (t : Bool) → Stops (literal_behind true rest).1 → Stops (literal_behind false rest).1 → Stops (cond t (literal_behind true rest) (put b (literal_behind false rest))).1
byte_if b rest true h i = h
byte_if b rest false h i = i

-- no text stands behind the longest one
stops_behind : (percent : Bool) (text : List ℕ) → Stops (literal_behind percent text).1
unfolding literal_in
stops_behind false [] = refl
stops_behind true [] = refl
stops_behind false (b ∷ rest) = byte_if b rest (b == 37) (stops_behind true rest) (stops_behind false rest)
stops_behind true (b ∷ rest) = percent_if b rest (b == 37) refl (stops_behind false rest)

-- ---- a part

-- an expression, whatever is behind it
abbrev sample_said : Side → Part × List ℕ → Bool
sample_said side found = is_spelled_part side found.0 && not (is_literal found.0)

abbrev with_rest : Expr → List ℕ → TextReading (Part × List ℕ)
with_rest expr rest = plain (Ok (Sample expr, rest))

abbrev of_expr : Expr × List ℕ → TextReading (Part × List ℕ)
of_expr found = plain (closed found.1) >>= with_rest found.0

sample_gives : (side : Side) (text : List ℕ) → Gives (sample_said side) (sample_at side text).gives
unfolding sample_at
sample_gives side text = gives_behind (expr_said side) (sample_said side) (expr_at side text).gives of_expr (expr_gives side text)
    (λ found h. gives_behind any (sample_said side) (closed found.1) (with_rest found.0) (gives_any (closed found.1)) (λ rest free. and_from (is_spelled side found.0) true h refl))

percent_gives : (side : Side) (text : List ℕ) → Gives (sample_said side) (percent_at side text).gives
percent_gives side [] = tt
percent_gives side (b ∷ rest) = reads_either (sample_said side) (b == 91) (sample_at side rest) (plain (Err kinds.Expr)) (sample_gives side rest) tt

-- a part that can be said; no text stands behind a text, and none where no text stands
abbrev PartFits : Side → List ℕ → Part × List ℕ → Type 0
PartFits side text found = (is_spelled_part side found.0 ≡ true) × ((is_literal found.0 ≡ true → Stops found.1) × (Stops text → is_literal found.0 ≡ false))

sample_fits : (side : Side) (text : List ℕ) (found : Part × List ℕ) → sample_said side found ≡ true → PartFits side text found
sample_fits side text found h =
    let both = and_parts (is_spelled_part side found.0) (not (is_literal found.0)) h in
    let other = not-true (is_literal found.0) both.1 in
    (both.0, ((λ literal. absurd (false≢true (sym other ∙ literal))), (λ stops. other)))

literal_fits : (side : Side) (text : List ℕ) (found : List ℕ × List ℕ) → literal_in text ≡ found → Stops found.1 → GivesSo (PartFits side text) (by_literal side found).gives
literal_fits side text (b ∷ literal, rest) is stops =
    (lt-ltb 0 (length (b ∷ literal)) (omega arith), ((λ literal. stops), (λ none. absurd (omega (arith, ap (λ (f : List ℕ × List ℕ). length f.0) (sym none ∙ is))))))
literal_fits side text ([], []) is stops = tt
literal_fits side text ([], b ∷ rest) is stops = so_from (sample_said side) (PartFits side text) (percent_at side rest).gives (percent_gives side rest) (sample_fits side text)

part_fits : (side : Side) (text : List ℕ) → GivesSo (PartFits side text) (part_at side text).gives
unfolding part_at literal_in
part_fits side text = literal_fits side text (literal_in text) refl (stops_behind false text)

-- ---- parts

-- a text stands at the end
abbrev ends_literal : List Part → Bool
ends_literal [] = false
ends_literal (part ∷ []) = is_literal part
ends_literal (part ∷ other ∷ parts) = ends_literal (other ∷ parts)

ends_more : (parts : List Part) (part : Part) → ends_literal (parts ++ part ∷ []) ≡ is_literal part
ends_more [] part = refl
ends_more (one ∷ []) part = refl
ends_more (one ∷ two ∷ parts) part = ends_more (two ∷ parts) part

not_both : (a b : Bool) → (a ≡ true → b ≡ false) → not (a && b) ≡ true
not_both true b h = ap not (h refl)
not_both false b h = refl

alone : (part : Part) → are_apart (part ∷ []) ≡ true
alone (Literal text) = refl
alone (Sample expr) = refl

apart_more : (parts : List Part) (part : Part) → are_apart parts ≡ true → (ends_literal parts ≡ true → is_literal part ≡ false) → are_apart (parts ++ part ∷ []) ≡ true
apart_more [] part h front = alone part
apart_more (one ∷ []) part h front = and_from (not (is_literal one && is_literal part)) (are_apart (part ∷ [])) (not_both (is_literal one) (is_literal part) front) (alone part)
apart_more (one ∷ two ∷ parts) part h front =
    let both = and_parts (not (is_literal one && is_literal two)) (are_apart (two ∷ parts)) h in
    and_from (not (is_literal one && is_literal two)) (are_apart ((two ∷ parts) ++ part ∷ [])) both.0 (apart_more (two ∷ parts) part both.1 front)

-- parts that can be said, one behind the other
abbrev parts_said : Side → List Part → Bool
parts_said side parts = nat_le (length parts) most_parts && (list_all (is_spelled_part side) parts && are_apart parts)

-- parts so far, and what is behind them
record PartsFit (side : Side) (most : ℕ) (so_far : List Part) (text : List ℕ) : Type 0 where
  pub all : list_all (is_spelled_part side) so_far ≡ true
  pub apart : are_apart so_far ≡ true
  pub stops : ends_literal so_far ≡ true → Stops text
  pub count : length so_far + most ≡ 64

these : (side : Side) (most : ℕ) (so_far : List Part) (text : List ℕ) → PartsFit side most so_far text → parts_said side so_far ≡ true
these side most so_far text h =
    and_from (nat_le (length so_far) most_parts) (list_all (is_spelled_part side) so_far && are_apart so_far) (le-leb (length so_far) 64 (omega (arith, h.count)))
    (and_from (list_all (is_spelled_part side) so_far) (are_apart so_far) h.all h.apart)

one_more : (side : Side) (most : ℕ) (so_far : List Part) (text : List ℕ) (found : Part × List ℕ) → PartsFit side (suc most) so_far text → PartFits side text found → PartsFit side most (so_far ++ found.0 ∷ []) found.1
one_more side most so_far text found h fits =
    let part = found.0 in
    let count = h.count in record {
      all = list_all-append (is_spelled_part side) so_far (part ∷ []) ∙ and_from (list_all (is_spelled_part side) so_far) (is_spelled_part side part && true) h.all (and_from (is_spelled_part side part) true fits.0 refl);
      apart = apart_more so_far part h.apart (λ ends. fits.1.1 (h.stops ends));
      stops = λ ends. fits.1.0 (sym (ends_more so_far part) ∙ ends);
      count = simp length-append (omega (arith, count));
    }

from_gives : (side : Side) (most : ℕ) (so_far : List Part) (text : List ℕ) → PartsFit side most so_far text → Gives (parts_said side) (parts_from side most so_far text).gives
unfolding parts_from
from_gives side zero so_far [] h = these side zero so_far [] h
from_gives side (suc most) so_far [] h = these side (suc most) so_far [] h
from_gives side zero so_far (b ∷ rest) h = tt
from_gives side (suc most) so_far (b ∷ rest) h =
    let text = b ∷ rest in
    let next = λ (found : Part × List ℕ). parts_from side most (so_far ++ found.0 ∷ []) found.1 in
    gives_behind_so (PartFits side text) (parts_said side) (part_at side text).gives next (part_fits side text)
    (λ found fits. from_gives side most (so_far ++ found.0 ∷ []) found.1 (one_more side most so_far text found h fits))

-- ---- a format

abbrev format_with : List Part → TextReading Fmt
format_with parts = plain (Ok (record { parts = parts }))

none_yet : (side : Side) (text : List ℕ) → PartsFit side 64 [] text
none_yet side text = record { all = refl; apart = refl; stops = λ ends. absurd (false≢true ends); count = refl }

pub format_gives : (side : Side) (text : List ℕ) → Gives (is_spelled_format side) (format_of side text).gives
unfolding format_of
format_gives side text =
    gives_behind (parts_said side) (is_spelled_format side) (parts_at side text).gives format_with (from_gives side 64 [] text (none_yet side text)) (λ parts h. h)

-- as a law
pub formats_spelled : (side : Side) (text : List ℕ) (fmt : Fmt) → (format_of side text).gives ≡ Ok fmt → is_spelled_format side fmt ≡ true
formats_spelled side text fmt is = gives_so (is_spelled_format side) (format_of side text).gives fmt (format_gives side text) is
