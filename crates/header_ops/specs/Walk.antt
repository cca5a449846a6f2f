-- The values of the headers of a name that are left on a walk, and those that are counted from the last on.
use Rattle.std.specs.Prelude.{ℕ, ◌-◌, List, [], ◌∷◌, ◌++◌, length, drop, slice_get, Option, None, nat_lt, nat_le, if◌then◌else◌}
use Rattle.http_model.specs.Block.{Block, value_of}
use Rattle.px_bytes.specs.Values.{values_of}
use Rattle.header_ops.specs.Headers.{is_header_named}
use Rattle.header_ops.specs.Lists.{values_named}
use Rattle.header_ops.specs.declared.walk.ValuePlace.{ValuePlace}

-- the values of a field from a byte on; none where the byte is behind its end
abbrev pub values_from : (field : List ℕ) (within : ℕ) → List (List ℕ)
values_from field within = if nat_le within (length field) then values_of (drop within field) else []

-- those of a block, where it is a header of this name
abbrev pub values_at : (name : List ℕ) → Block → (within : ℕ) → List (List ℕ)
values_at name block within = if is_header_named name block then values_from (value_of block) within else []

-- those of the first of these blocks from a byte on, and those of the headers of this name behind it
abbrev pub values_onwards : (name : List ℕ) → (within : ℕ) → List Block → List (List ℕ)
values_onwards name within [] = []
values_onwards name within (block ∷ blocks) = values_at name block within ++ values_named name blocks

-- the values that are left at a place
abbrev pub values_left : (name : List ℕ) → List Block → ValuePlace → List (List ℕ)
values_left name blocks place = values_onwards name place.within (drop place.at blocks)

-- the value at an index from the last on: 0 is the last
abbrev pub from_back : List (List ℕ) → ℕ → Option (List ℕ)
from_back values behind = if nat_lt behind (length values) then slice_get values (length values - 1 - behind) else None
