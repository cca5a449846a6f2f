-- The values of a field that holds a list (RFC 9110, sections 5.6.1 and 5.6.4).
use Rattle.std.specs.Prelude.{◌≡◌, ℕ, ◌+◌, ◌≤◌, List, [], ◌∷◌, Bool, false, if◌then◌else◌, ◌==◌, length, drop, slice_range, nat_le, map}
use Rattle.std.specs.List.{flat_map, onto_first, prefix_len}
use denote.Ref.{Bor}
use Rattle.px_bytes.specs.declared.pieces.Place.{Place}
use Rattle.px_bytes.specs.declared.pieces.Place.TheVariants.{Outside, Quoted, Escaped}
use Rattle.px_bytes.specs.Blanks.{is_blank, trimmed}

-- where the next byte stands: a double quote opens and closes, and inside a backslash escapes one byte
abbrev pub next_place : Place → ℕ → Place
next_place Outside b = if b == 34 then Quoted else Outside
next_place Quoted b = if b == 34 then Outside else if b == 92 then Escaped else Quoted
next_place Escaped b = Quoted

-- a comma outside of quotes
abbrev pub separates : Place → ℕ → Bool
separates Outside b = b == 44
separates Quoted b = false
separates Escaped b = false

-- the pieces between the separating commas of bytes that begin at this place
abbrev pub pieces_from : Place → List ℕ → List (List ℕ)
pieces_from place [] = [] ∷ []
pieces_from place (b ∷ bytes) =
    if separates place b
    then [] ∷ pieces_from Outside bytes
    else onto_first b (pieces_from (next_place place b) bytes)

-- the pieces of a whole field: always one more than there are separating commas
abbrev pub pieces_of : List ℕ → List (List ℕ)
pieces_of bytes = pieces_from Outside bytes

-- the values of a field: its pieces without the blanks around them
abbrev pub values_of : List ℕ → List (List ℕ)
values_of bytes = map trimmed (pieces_of bytes)

-- the values of several fields, in order
abbrev pub values_in : List (List ℕ) → List (List ℕ)
values_in fields = flat_map values_of fields

-- each value with its offset, where the first piece begins at this one
abbrev pub placed_from : ℕ → List (List ℕ) → List (ℕ × List ℕ)
placed_from at [] = []
placed_from at (piece ∷ pieces) =
    (at + prefix_len is_blank piece, trimmed piece) ∷ placed_from (at + length piece + 1) pieces

-- the values of a field, each with its offset in the field
abbrev pub placed_values : List ℕ → List (ℕ × List ℕ)
placed_values bytes = placed_from 0 (pieces_of bytes)

-- the value stands in the field at its offset
pub record LiesIn (field : List ℕ) (placed : ℕ × List ℕ) : Type 0 where
  pub within : placed.0 + length placed.1 ≤ length field
  pub reads : slice_range field placed.0 (placed.0 + length placed.1) ≡ placed.1

-- the place behind bytes that begin at this one
abbrev pub place_behind : Place → List ℕ → Place
place_behind place [] = place
place_behind place (b ∷ bytes) = place_behind (next_place place b) bytes

-- each quote that opens in the field closes in it
abbrev pub IsClosed : List ℕ → Type 0
IsClosed field = place_behind Outside field ≡ Outside

-- those that begin at this piece or behind it; none where it is behind the field
abbrev pub placed_after : List ℕ → ℕ → List (ℕ × List ℕ)
placed_after bytes next =
    if nat_le next (length bytes) then placed_from next (pieces_of (drop next bytes)) else []

-- the value of a placed value
abbrev pub value_at : ℕ × List ℕ → List ℕ
value_at placed = placed.1

-- what a lent value with its offset shows
abbrev pub seen : ℕ × Bor (List ℕ) → ℕ × List ℕ
seen placed = (placed.0, placed.1.now)
