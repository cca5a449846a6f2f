-- What holds of an array between two calls.
use Rattle.std.specs.Prelude.{ℕ, Option, Some, ◌≡◌, ◌+◌, ◌*◌, ◌<◌, ◌≤◌, ◌⊎◌, List, length}
use Rattle.htx_arena.specs.declared.space.space.Desc.{Desc}
use Rattle.htx_arena.specs.Space.Windows.{desc_at}
use Rattle.htx_arena.specs.Layout.Raw.{info_len, addr_in, len_in, payload_in, blocks_of, addrs_of, Tells}
use Rattle.htx_arena.specs.Layout.Place.{top, low}
use Rattle.htx_arena.specs.declared.layout.scan.Ends.{Ends}
use Rattle.htx_arena.specs.declared.layout.scan.Spot.{Spot}

-- where the payload ends
abbrev pub end_of : Desc → ℕ
end_of d = d.addr + info_len d.info

-- no byte is in both payloads
abbrev pub AreApart : Desc → Desc → Type 0
AreApart d e = (end_of d ≤ e.addr) ⊎ (end_of e ≤ d.addr)

-- each payload ends below the descriptors, and no two share a byte
pub record IsSound (raw : List ℕ) (n : ℕ) : Type 0 where
  pub room : 8 * n ≤ length raw
  pub within : (i : ℕ) → i < n → end_of (desc_at raw i) + 8 * n ≤ length raw
  pub apart : (i j : ℕ) → i < j → j < n → AreApart (desc_at raw i) (desc_at raw j)

-- each descriptor and payload are those of their block
pub record IsTold (raw : List ℕ) (n : ℕ) : Type 0 where
  pub told : (i : ℕ) → i < n → Tells (desc_at raw i).info (payload_in raw i)

-- each payload has a byte
pub record IsFilled (raw : List ℕ) (n : ℕ) : Type 0 where
  pub filled : (i : ℕ) → i < n → 0 < len_in raw i

-- no payload lies across `front`
pub record IsParted (raw : List ℕ) (n front : ℕ) : Type 0 where
  pub parted : (j : ℕ) → j < n → (end_of (desc_at raw j) ≤ front) ⊎ (front ≤ addr_in raw j)

-- the greatest end of a payload, or 0
pub record IsTop (raw : List ℕ) (n t : ℕ) : Type 0 where
  pub is : t ≡ top (blocks_of raw n) (addrs_of raw n)
  pub under : t ≤ length raw

-- the least address at or above `front` is this one, where it is known
pub record IsKnown (raw : List ℕ) (n front : ℕ) (o : Option ℕ) : Type 0 where
  pub known : (l : ℕ) → o ≡ Some l → low front (addrs_of raw n) ≡ Some l

-- the least address stays where a payload is put in front of it
pub record StaysLow (e : Ends) (s : Spot) (l : ℕ) : Type 0 where
  pub is : e.low ≡ Some l
  pub beside : s.addr < s.front
  pub up : e.front ≤ s.front
  pub under : s.front ≤ l

-- what holds of an array of n blocks between two calls
pub record IsLaid (raw : List ℕ) (n front : ℕ) : Type 0 where
  pub sound : IsSound raw n
  pub told : IsTold raw n
  pub filled : IsFilled raw n
  pub parted : IsParted raw n front
  pub small : front ≤ length raw
  pub most : length raw ≤ 262144
