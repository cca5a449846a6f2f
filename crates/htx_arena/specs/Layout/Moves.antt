-- What the steps of an edit need, and what they leave as it was.
use Rattle.std.specs.Prelude.{ℕ, ◌+◌, ◌-◌, ◌*◌, ◌^◌, ◌≡◌, ◌≢◌, ◌<◌, ◌≤◌, ◌⊎◌, List, length, nat_le, nat_eq, if◌then◌else◌}
use Rattle.htx_arena.specs.declared.space.space.Desc.{Desc}
use Rattle.htx_arena.specs.Space.Windows.{desc_at}
use Rattle.htx_arena.specs.Layout.Raw.{addr_in, len_in, info_len, payload_in}
use Rattle.htx_arena.specs.Layout.Sound.{IsSound, IsFilled, IsParted, end_of}
use Rattle.htx_arena.specs.declared.layout.scan.Spot.{Spot}

-- ---- placing

-- no live payload has a byte of these
abbrev pub IsFree : List ℕ → ℕ → ℕ → ℕ → Type 0
IsFree raw n addr len = (i : ℕ) → i < n → (addr + len ≤ (desc_at raw i).addr) ⊎ (end_of (desc_at raw i) ≤ addr)

-- what holds where a block may be placed
pub record CanPlace (raw : List ℕ) (n i : ℕ) (d : Desc) (piece : List ℕ) : Type 0 where
  pub sound : IsSound raw n
  pub within : i ≤ n
  pub room : d.addr + length piece + 8 * (n + 1) ≤ length raw
  pub below : (j : ℕ) → j < n → end_of (desc_at raw j) + 8 * (n + 1) ≤ length raw
  pub len : info_len d.info ≡ length piece
  pub addr_fits : d.addr < 2 ^ 32
  pub info_fits : d.info < 2 ^ 32
  pub free : IsFree raw n d.addr (length piece)

-- free bytes, with room for one more descriptor
pub record IsOpen (raw : List ℕ) (n addr len : ℕ) : Type 0 where
  pub room : addr + len + 8 * (n + 1) ≤ length raw
  pub below : (j : ℕ) → j < n → end_of (desc_at raw j) + 8 * (n + 1) ≤ length raw
  pub free : IsFree raw n addr len

-- where a payload may be put so that `front` still parts the payloads
pub record IsSite (raw : List ℕ) (n len : ℕ) (s : Spot) : Type 0 where
  pub opens : IsOpen raw n s.addr len
  pub parted : IsParted raw n s.front
  pub beside : (s.addr + len ≤ s.front) ⊎ (s.front ≤ s.addr)
  pub small : s.front ≤ length raw

-- descriptors and payloads are as they were
pub record IsKept (raw new : List ℕ) (n : ℕ) : Type 0 where
  pub size : length new ≡ length raw
  pub desc : (j : ℕ) → j < n → desc_at new j ≡ desc_at raw j
  pub payload : (j : ℕ) → j < n → payload_in new j ≡ payload_in raw j

-- ---- defragmentation

-- each block has its info word and its payload's bytes, wherever these stand
pub record IsShifted (raw new : List ℕ) (n : ℕ) : Type 0 where
  pub size : length new ≡ length raw
  pub info : (j : ℕ) → j < n → (desc_at new j).info ≡ (desc_at raw j).info
  pub payload : (j : ℕ) → j < n → payload_in new j ≡ payload_in raw j

-- the payload with the least address at or above a place
pub record IsNext (raw : List ℕ) (n place i : ℕ) : Type 0 where
  pub within : i < n
  pub above : place ≤ addr_in raw i
  pub least : (j : ℕ) → j < n → place ≤ addr_in raw j → addr_in raw i ≤ addr_in raw j

-- all payloads begin below a place
pub record IsPast (raw : List ℕ) (n place : ℕ) : Type 0 where
  pub past : (j : ℕ) → j < n → addr_in raw j < place

-- when a payload may move down
pub record CanMove (raw : List ℕ) (n i to : ℕ) : Type 0 where
  pub sound : IsSound raw n
  pub within : i < n
  pub down : to ≤ addr_in raw i
  pub gap : (j : ℕ) → j < n → j ≢ i → (end_of (desc_at raw j) ≤ to) ⊎ (end_of (desc_at raw i) ≤ (desc_at raw j).addr)

-- the payload of one block has another place, and all else is as it was
pub record IsMoved (raw new : List ℕ) (n i to : ℕ) : Type 0 where
  pub size : length new ≡ length raw
  pub here : desc_at new i ≡ record { addr = to; info = (desc_at raw i).info }
  pub other : (j : ℕ) → j < n → j ≢ i → desc_at new j ≡ desc_at raw j
  pub payload : (j : ℕ) → j < n → payload_in new j ≡ payload_in raw j

-- each payload ends at or below a place
pub record IsUpTo (raw : List ℕ) (n place : ℕ) : Type 0 where
  pub up_to : (j : ℕ) → j < n → end_of (desc_at raw j) ≤ place

-- ---- one payload behind all others

-- what becomes of a descriptor where the payload of number i is brought behind all others, to end at a place
abbrev pub sunk : List ℕ → ℕ → ℕ → ℕ → Desc
sunk raw i end j = record {
  addr = if nat_eq j i then end - len_in raw i else (if nat_le (addr_in raw i) (addr_in raw j) then addr_in raw j - len_in raw i else addr_in raw j);
  info = (desc_at raw j).info;
}

-- the payload of number i stands behind all others, which closed up
pub record IsSunk (raw new : List ℕ) (n i end : ℕ) : Type 0 where
  pub size : length new ≡ length raw
  pub desc : (j : ℕ) → j < n → desc_at new j ≡ sunk raw i end j
  pub payload : (j : ℕ) → j < n → payload_in new j ≡ payload_in raw j

-- when a payload may be brought behind the others
pub record CanSink (raw : List ℕ) (n i end : ℕ) : Type 0 where
  pub sound : IsSound raw n
  pub filled : IsFilled raw n
  pub within : i < n
  pub up_to : IsUpTo raw n end
  pub room : end + 8 * n ≤ length raw

-- all others end at or below the payload of one number
pub record IsLast (raw : List ℕ) (n i : ℕ) : Type 0 where
  pub last : (j : ℕ) → j < n → j ≢ i → end_of (desc_at raw j) ≤ addr_in raw i

-- ---- one payload changes where it stands

-- bytes of one payload, and free bytes, were written; all descriptors and the other payloads are as they were
pub record IsOverwritten (raw mid : List ℕ) (n i : ℕ) : Type 0 where
  pub size : length mid ≡ length raw
  pub desc : (j : ℕ) → j < n → desc_at mid j ≡ desc_at raw j
  pub payload : (j : ℕ) → j < n → j ≢ i → payload_in mid j ≡ payload_in raw j

-- when one block may have the payload that ends here from this address on
pub record CanRenew (raw : List ℕ) (n i : ℕ) (d : Desc) : Type 0 where
  pub sound : IsSound raw n
  pub within : i < n
  pub room : end_of d + 8 * n ≤ length raw
  pub most : length raw ≤ 262144
  pub free : (j : ℕ) → j < n → j ≢ i → (end_of d ≤ addr_in raw j) ⊎ (end_of (desc_at raw j) ≤ d.addr)

-- one block has this descriptor and payload, and all else is as it was
pub record IsRenewed (raw new : List ℕ) (n i : ℕ) (d : Desc) (payload : List ℕ) : Type 0 where
  pub size : length new ≡ length raw
  pub here : desc_at new i ≡ d
  pub own : payload_in new i ≡ payload
  pub other : (j : ℕ) → j < n → j ≢ i → desc_at new j ≡ desc_at raw j
  pub rest : (j : ℕ) → j < n → j ≢ i → payload_in new j ≡ payload_in raw j
