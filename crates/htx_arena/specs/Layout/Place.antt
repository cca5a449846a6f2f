-- Where payloads go: the four cases, and defragmentation (HTX API, "defragmentation"), over the live blocks
-- and their addresses alone.
use Rattle.std.specs.Prelude.{ℕ, Bool, ◌+◌, ◌*◌, List, [], ◌∷◌, length, map, Option, Some, None, max, min, nat_eq, nat_lt, nat_le, if◌then◌else◌, sum_by}
use Rattle.htx_model.specs.Block.{Block, payload_len}
use Rattle.htx_arena.specs.declared.layout.scan.Spot.{Spot}

-- the greatest end of a payload, or 0
abbrev pub top : List Block → List ℕ → ℕ
top (b ∷ blocks) (a ∷ addrs) = max (a + payload_len b) (top blocks addrs)
top _ _ = 0

-- the lesser of an address and one that may not be there
abbrev pub least : ℕ → Option ℕ → Option ℕ
least a None = Some a
least a (Some b) = Some (min a b)

-- the least address at or above a place
abbrev pub low : ℕ → List ℕ → Option ℕ
low from [] = None
low from (a ∷ addrs) = if nat_le from a then least a (low from addrs) else low from addrs

-- in front of the least address at or above `front`, which may be 0
abbrev pub before : Option ℕ → ℕ → ℕ → Bool → Option Spot
before None front len room = None
before (Some low) front len room = if nat_le (front + len) low then (if room then Some (record { addr = front; front = front + len }) else None) else None

-- Where a payload of this length goes as one of `count` blocks, if the array isn't defragmented before: at
-- the top, or behind `front`.
abbrev pub spot : ℕ → List Block → List ℕ → ℕ → ℕ → ℕ → Option Spot
spot size blocks addrs front len count =
    if nat_eq front 0 then
    (if nat_le (top blocks addrs + len + 8 * count) size then Some (record { addr = top blocks addrs; front = 0 })
    else before (low front addrs) front len (nat_le (top blocks addrs + 8 * count) size))
    else before (low front addrs) front len (nat_le (top blocks addrs + 8 * count) size)

-- how many bytes the payloads take that stand below an address
abbrev pub below : ℕ → List Block → List ℕ → ℕ
below a (b ∷ blocks) (x ∷ addrs) = (if nat_lt x a then payload_len b else 0) + below a blocks addrs
below a _ _ = 0

-- The addresses after defragmentation: the payloads lie one after another from 0, in the order of their
-- addresses before.
abbrev pub packed : List Block → List ℕ → List ℕ
packed blocks addrs = map (λ a. below a blocks addrs) addrs

-- the addresses of the others, where a new payload stands, and `front`
pub record Layout : Type 0 where
  pub addrs : List ℕ
  pub addr : ℕ
  pub front : ℕ

-- a spot leaves the others where they are; without one the array is defragmented
abbrev pub layout_by : Option Spot → List Block → List ℕ → Layout
layout_by (Some s) blocks addrs = record { addrs = addrs; addr = s.addr; front = s.front }
layout_by None blocks addrs = record { addrs = packed blocks addrs; addr = sum_by payload_len blocks; front = 0 }

-- where one more payload of this length goes, by the four cases
abbrev pub layout : ℕ → List Block → List ℕ → ℕ → ℕ → Layout
layout size blocks addrs front len = layout_by (spot size blocks addrs front len (length blocks + 1)) blocks addrs

-- `front` where the least address at or above it is this one
abbrev pub settled_by : Option ℕ → ℕ → ℕ
settled_by None front = 0
settled_by (Some l) front = front

-- `front` is 0 where no payload stands at or above it
abbrev pub settled : ℕ → List ℕ → ℕ
settled front addrs = settled_by (low front addrs) front

-- a payload that ends at the top may have `len` more bytes, as one of `count` blocks
abbrev pub grown_at_top : ℕ → ℕ → ℕ → ℕ → ℕ → Option ℕ
grown_at_top size end len top count =
    if nat_eq end top then (if nat_le (end + len + 8 * count) size then Some 0 else None) else None

-- one that ends at `front` may have them in front of the least address there
abbrev pub grown_at_front : Option ℕ → ℕ → ℕ → ℕ → Bool → Option ℕ
grown_at_front None front end len room = None
grown_at_front (Some low) front end len room =
    if nat_eq end front then (if nat_le (end + len) low then (if room then Some (front + len) else None) else None) else None

-- `front` once a payload that ends here has `len` more bytes where it stands, if it may have them
abbrev pub stays : ℕ → List Block → List ℕ → ℕ → ℕ → ℕ → Option ℕ
stays size blocks addrs front end len =
    if nat_eq front 0 then grown_at_top size end len (top blocks addrs) (length blocks)
    else grown_at_front (low front addrs) front end len (nat_le (top blocks addrs + 8 * length blocks) size)
