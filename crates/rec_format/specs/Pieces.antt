-- Pieces of a line: words, numbers, and bytes whose number is told.
use Rattle.std.specs.Prelude.{ℕ, ◌-◌, ◌^◌, ◌==◌, Bool, true, false, not, ◌&&◌, min, List, [], ◌∷◌, take, drop, Option, Some, None, if◌then◌else◌}
use Rattle.std.specs.List.{list_all}
use Rattle.std.specs.Char.{is_ascii_digit}
use Rattle.std.specs.Str.Parse.{digits_value}

-- the bytes in front of the first of these, or all
abbrev pub before : ℕ → List ℕ → List ℕ
before byte [] = []
before byte (first ∷ bytes) = if first == byte then [] else first ∷ before byte bytes

-- the bytes behind the first of these, if there is one
abbrev pub behind : ℕ → List ℕ → Option (List ℕ)
behind byte [] = None
behind byte (first ∷ bytes) = if first == byte then Some bytes else behind byte bytes

-- there is a byte, and several do not begin with 0
abbrev pub begins_number : List ℕ → Bool
begins_number [] = false
begins_number (digit ∷ []) = true
begins_number (digit ∷ next ∷ digits) = not (digit == 48)

-- the number that digits write, several of which do not begin with 0; from the last value of a u64 on it is that
abbrev pub number_of : List ℕ → Option ℕ
number_of word =
    if begins_number word && list_all is_ascii_digit word then Some (min (digits_value 10 word) (2 ^ 64 - 1)) else None

-- what stands behind an LF in front
abbrev pub behind_lf : List ℕ → Option (List ℕ)
behind_lf [] = None
behind_lf (first ∷ rest) = if first == 10 then Some rest else None

-- so many bytes and an LF in front, and what stands behind them
abbrev pub with_bytes : List ℕ → Option (List ℕ) → Option (List ℕ × List ℕ)
with_bytes bytes None = None
with_bytes bytes (Some rest) = Some (bytes, rest)

-- so many bytes and an LF in front, and what stands behind them
abbrev pub counted : ℕ → List ℕ → Option (List ℕ × List ℕ)
counted n text = with_bytes (take n text) (behind_lf (drop n text))
