-- Where the bytes of a window stand.
use Rattle.std.specs.Prelude.{ℕ, List, ◌≡◌, ◌≤◌, ◌^◌, ◌<◌, ◌+◌, ◌++◌, take, drop, length}
use Rattle.circular_buffer.specs.Buffer.{Buffer, buffer}
use Rattle.wire_buf.specs.declared.Window.TheInside.{Inside}

-- the items after a piece was written over those from `at` on
abbrev pub overwritten : List ℕ → ℕ → List ℕ → List ℕ
overwritten xs at piece = take at xs ++ (piece ++ drop (at + length piece) xs)

-- the bytes of a window: `len` of the ring's items, from `begin` on
abbrev pub shown : Inside → Buffer ℕ
shown w = buffer (take w.len (drop w.begin w.ring.items)) w.ring.capacity

-- the bytes lie among the ring's items and within its size, which is a number of 32 bits
pub record IsStored (w : Inside) : Type 0 where
  pub stand : w.begin + w.len ≤ length w.ring.items
  pub within : w.begin + w.len ≤ w.ring.capacity
  pub small : w.ring.capacity < 2 ^ 32
