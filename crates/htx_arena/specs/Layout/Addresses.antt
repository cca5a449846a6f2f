-- Where payloads stand after a call (HTX API, "defragmentation").
use Rattle.std.specs.Prelude.{ℕ, ◌+◌, ◌-◌, List, length, take, drop, insert, remove, Option, Some, None, nat_eq, nat_lt, nat_le, if◌then◌else◌, slice_index, slice_set}
use Rattle.htx_model.specs.Block.{Block, Data, payload_len}
use Rattle.htx_model.specs.Blocks.{block_at}
use Rattle.htx_arena.specs.Layout.Place.{Layout, layout, packed, settled, stays}
use Rattle.htx_arena.specs.Layout.Contents.{Contents}

-- addresses and `front`
pub record Places : Type 0 where
  pub addrs : List ℕ
  pub front : ℕ

-- a new payload at an index, among the others
abbrev pub placed_at : ℕ → Layout → Places
placed_at at l = record { addrs = insert l.addrs at l.addr; front = l.front }

-- a payload of this length is placed by the four cases
abbrev pub inserted : Contents → ℕ → ℕ → Places
inserted s at len = placed_at at (layout s.size s.blocks s.addrs s.front len)

-- the same for a payload whose block is replaced: the old one counts as gone
abbrev pub placed_anew : Contents → ℕ → ℕ → Places
placed_anew s at len = placed_at at (layout s.size (remove s.blocks at) (remove s.addrs at) s.front len)

-- a replacement that isn't longer stays at its address
abbrev pub replaced : Contents → ℕ → ℕ → Places
replaced s at len = if nat_le len (payload_len (block_at s.blocks at)) then record { addrs = s.addrs; front = s.front } else placed_anew s at len

-- these payloads stay, and `front` is 0 where none of them stands at or above it
abbrev pub left : ℕ → List ℕ → Places
left front addrs = record { addrs = addrs; front = settled front addrs }

-- without one payload
abbrev pub removed : Contents → ℕ → Places
removed s at = left s.front (remove s.addrs at)

-- the first payloads alone
abbrev pub truncated : Contents → ℕ → Places
truncated s at = left s.front (take at s.addrs)

-- without the first n payloads
abbrev pub dropped : Contents → ℕ → Places
dropped s n = left s.front (drop n s.addrs)

-- data whose first n bytes go begins n bytes further on
abbrev pub cut_to : Contents → ℕ → ℕ → Places
cut_to s at n = if nat_lt n (payload_len (block_at s.blocks at)) then record { addrs = slice_set s.addrs at (slice_index s.addrs at + n); front = s.front } else removed s at

-- one payload behind the other from 0 on, in the order of their addresses
abbrev pub defragmented : Contents → Places
defragmented s = record { addrs = packed s.blocks s.addrs; front = 0 }

-- a payload with more bytes behind it: where it stands, or placed anew
abbrev pub extended_by : Contents → ℕ → ℕ → Option ℕ → Places
extended_by s at len (Some front) = record { addrs = s.addrs; front = front }
extended_by s at len None = placed_anew s at len

-- the last payload, which ends here, with more bytes behind it
abbrev pub extended : Contents → ℕ → ℕ → ℕ → Places
extended s at end len = extended_by s at (payload_len (block_at s.blocks at) + len) (stays s.size s.blocks s.addrs s.front end len)

-- data goes to the end: behind a last block of data, or into a block of its own
abbrev pub appended_to : Contents → ℕ → Block → ℕ → Places
appended_to s at (Data p) len = extended s at (slice_index s.addrs at + length p) len
appended_to s at b len = inserted s (at + 1) len

-- so many bytes of data were appended
abbrev pub appended : Contents → ℕ → Places
appended s len =
    if nat_eq len 0 then record { addrs = s.addrs; front = s.front } else
    (if nat_eq (length s.blocks) 0 then inserted s 0 len else appended_to s (length s.blocks - 1) (block_at s.blocks (length s.blocks - 1)) len)
