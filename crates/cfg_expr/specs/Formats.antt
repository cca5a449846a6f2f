-- Formats: texts, `%%` and `%[expression]` (Configuration Manual, section 8.2.6).
use Rattle.std.specs.Prelude.{ℕ, zero, suc, Bool, true, false, ◌==◌, List, [], ◌∷◌, ◌++◌, Ok, Err, if◌then◌else◌}
use Rattle.log_format.specs.declared.fmt.Part.{Part}
use Rattle.log_format.specs.declared.fmt.Part.TheVariants.{Literal, Sample}
use Rattle.log_format.specs.declared.fmt.Fmt.{Fmt}
use Rattle.cfg_expr.specs.declared.fault.TextKind.TheVariants as kinds
use Rattle.cfg_expr.specs.declared.side.Side.{Side}
use Rattle.cfg_expr.specs.Reading.{plain, ◌>>=◌}
use Rattle.cfg_expr.specs.Faults.{Told, TextReading}
use Rattle.cfg_expr.specs.Exprs.{expr_at}

-- ---- texts

-- a byte in front of a text
abbrev pub put : ℕ → List ℕ × List ℕ → List ℕ × List ℕ
put b found = (b ∷ found.0, found.1)

-- The longest text at the front in which each `%` is doubled, with one for two, and what is behind it. The flag says
-- that a `%` stands in front.
abbrev pub literal_behind : (percent : Bool) → List ℕ → List ℕ × List ℕ
literal_behind false [] = ([], [])
literal_behind true [] = ([], 37 ∷ [])
literal_behind false (b ∷ rest) = if b == 37 then literal_behind true rest else put b (literal_behind false rest)
literal_behind true (b ∷ rest) = if b == 37 then put 37 (literal_behind false rest) else ([], 37 ∷ b ∷ rest)

unfoldable pub literal_in : List ℕ → List ℕ × List ℕ
literal_in text = literal_behind false text

-- how many bytes stand for the first byte of such a text; none where there is no such text
abbrev pub piece_len : List ℕ → ℕ
piece_len [] = 0
piece_len (b ∷ []) = if b == 37 then 0 else 1
piece_len (b ∷ c ∷ rest) = if b == 37 then (if c == 37 then 2 else 0) else 1

-- ---- parts

-- behind an expression stands `]`
abbrev pub closed : List ℕ → Told (List ℕ)
closed [] = Err kinds.Expr
closed (b ∷ rest) = if b == 93 then Ok rest else Err kinds.Expr

-- an expression behind `%[`, and what is behind its `]`
unfoldable pub sample_at : Side → List ℕ → TextReading (Part × List ℕ)
sample_at side text = do
  found ← expr_at side text
  rest ← plain (closed found.1)
  plain (Ok (Sample found.0, rest))

-- behind a `%` that is not doubled stands `[`
abbrev pub percent_at : Side → List ℕ → TextReading (Part × List ℕ)
percent_at side [] = plain (Err kinds.Expr)
percent_at side (b ∷ rest) = if b == 91 then sample_at side rest else plain (Err kinds.Expr)

-- the part where a text stands at the front; where none does, there is a `%`
abbrev pub by_literal : Side → List ℕ × List ℕ → TextReading (Part × List ℕ)
by_literal side (b ∷ literal, rest) = plain (Ok (Literal (b ∷ literal), rest))
by_literal side ([], []) = plain (Err kinds.Expr)
by_literal side ([], b ∷ rest) = percent_at side rest

-- the part at the front, and what is behind it
unfoldable pub part_at : Side → List ℕ → TextReading (Part × List ℕ)
part_at side text = by_literal side (literal_in text)

-- the most parts of a format
abbrev pub most_parts : ℕ
most_parts = 64

-- parts from here on, of which so many more may come
unfoldable pub parts_from : Side → (most : ℕ) → List Part → List ℕ → TextReading (List Part)
parts_from side most so_far [] = plain (Ok so_far)
parts_from side zero so_far (b ∷ rest) = plain (Err kinds.Limit)
parts_from side (suc most) so_far (b ∷ rest) =
    part_at side (b ∷ rest) >>= λ found. parts_from side most (so_far ++ found.0 ∷ []) found.1

-- all parts of a text
abbrev pub parts_at : Side → List ℕ → TextReading (List Part)
parts_at side text = parts_from side most_parts [] text

-- a text as a format of a direction
unfoldable pub format_of : Side → List ℕ → TextReading Fmt
format_of side text = parts_at side text >>= λ parts. plain (Ok (record { parts = parts }))
