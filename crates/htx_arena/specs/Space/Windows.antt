use Rattle.std.specs.Prelude.{ℕ, Bool, ◌+◌, ◌-◌, ◌*◌, List, ◌++◌, length, take, drop, if◌then◌else◌}
use Rattle.std.specs.Int.{from_le_bytes, to_le_bytes, w32}
use Rattle.htx_arena.specs.declared.space.space.Desc.{Desc}

-- the len bytes from `at` on
abbrev pub window : List ℕ → ℕ → ℕ → List ℕ
window bytes at len = take len (drop at bytes)

-- the bytes after a piece was written over them
abbrev pub overwritten : List ℕ → ℕ → List ℕ → List ℕ
overwritten bytes at piece = take at bytes ++ (piece ++ drop (at + length piece) bytes)

-- the bytes from `mid` to `to` in front of those from `from` to `mid`
abbrev pub rotated : List ℕ → ℕ → ℕ → ℕ → List ℕ
rotated bytes from mid to = overwritten bytes from (window bytes mid (to - mid) ++ window bytes from (mid - from))

-- the little-endian word at a place
unfoldable pub word_at : List ℕ → ℕ → ℕ
word_at bytes at = from_le_bytes w32 (window bytes at 4)

-- where the descriptor of a number stands, counted from the end
abbrev pub desc_place : List ℕ → ℕ → ℕ
desc_place bytes index = length bytes - 8 * (index + 1)

-- the eight bytes of a descriptor
unfoldable pub desc_bytes : Desc → List ℕ
desc_bytes d = to_le_bytes w32 d.addr ++ to_le_bytes w32 d.info

-- the descriptor of a number
unfoldable pub desc_at : List ℕ → ℕ → Desc
desc_at bytes index = record { addr = word_at bytes (desc_place bytes index); info = word_at bytes (desc_place bytes index + 4) }

-- the bytes after `count` descriptors, from a number on, were moved by one place: to the next higher numbers or
-- to the next lower ones
abbrev pub shifted : List ℕ → ℕ → ℕ → Bool → List ℕ
shifted bytes from count up =
    let end = length bytes - 8 * (from + count) in
    overwritten bytes (if up then end - 8 else end + 8) (window bytes end (8 * count))
