-- Version 2: a signature, four bytes, and as many bytes as they tell.
use Rattle.std.specs.Prelude.{◌≡◌, ℕ, ◌+◌, ◌/◌, ◌%◌, Bool, true, false, ◌&&◌, ◌==◌, nat_le, if◌then◌else◌, List, [], ◌∷◌, length, get_or, take, drop, Option, Some, None}
use Rattle.std.specs.Str.{bytes_eq}
use Rattle.std.specs.Int.{w16, w32, w128, from_be_bytes}
use Rattle.px_peer.specs.declared.Peer.{Peer}
use Rattle.px_peer.specs.declared.Pair.{Pair}

-- CR LF CR LF NUL CR LF QUIT LF
abbrev pub signature : List ℕ
signature = 13 ∷ 10 ∷ 13 ∷ 10 ∷ 0 ∷ 13 ∷ 10 ∷ 81 ∷ 85 ∷ 73 ∷ 84 ∷ 10 ∷ []

-- the bytes begin with it
abbrev pub is_signed : List ℕ → Bool
is_signed bytes = bytes_eq signature (take 12 bytes)

-- the number of the first sixteen bytes, the high one first
unfoldable pub number_128 : List ℕ → ℕ
number_128 bytes = from_be_bytes w128 (take 16 bytes)

-- an end whose address and port begin here, high bytes first
abbrev pub peer_4 : (addr port : List ℕ) → Peer
peer_4 addr port = record { v6 = false; addr = from_be_bytes w32 (take 4 addr); port = from_be_bytes w16 (take 2 port) }

abbrev pub peer_6 : (addr port : List ℕ) → Peer
peer_6 addr port = record { v6 = true; addr = number_128 addr; port = from_be_bytes w16 (take 2 port) }

-- source, destination and their ports of IPv4, in 12 bytes
abbrev pub pair_4 : (block : List ℕ) → Pair
pair_4 block = record { src = peer_4 block (drop 8 block); dst = peer_4 (drop 4 block) (drop 10 block) }

-- and of IPv6, in 36 bytes
abbrev pub pair_6 : (block : List ℕ) → Pair
pair_6 block = record { src = peer_6 block (drop 32 block); dst = peer_6 (drop 16 block) (drop 34 block) }

-- a family of which no pair is read: its high half is at most 3, its low half at most 2
abbrev pub is_other_family : ℕ → Bool
is_other_family family = nat_le (family / 16) 3 && nat_le (family % 16) 2

-- whether a block of this length may be of this family
abbrev pub is_block : (family len : ℕ) → Bool
is_block family len =
    if family == 0x11 then nat_le 12 len
    else if family == 0x21 then nat_le 36 len
    else is_other_family family

-- whether the command, the family and the length may stand in a header
abbrev pub may_stand : (command family len : ℕ) → Bool
may_stand command family len = if command == 0x20 then true else if command == 0x21 then is_block family len else false

-- the pair of a block
abbrev pub pair_in : (command family : ℕ) → (block : List ℕ) → Option Pair
pair_in command family block =
    if command == 0x20 then None
    else if family == 0x11 then Some (pair_4 block)
    else if family == 0x21 then Some (pair_6 block)
    else None

-- how many bytes the last two of the first sixteen tell
abbrev pub block_len : List ℕ → ℕ
block_len bytes = from_be_bytes w16 (take 2 (drop 14 bytes))

-- the bytes are a header of version 2 with this pair
pub record IsBinary (bytes : List ℕ) (pair : Option Pair) : Type 0 where
  pub signed : take 12 bytes ≡ signature
  pub len : length bytes ≡ 16 + block_len bytes
  pub stands : may_stand (get_or bytes 12 0) (get_or bytes 13 0) (block_len bytes) ≡ true
  pub tells : pair ≡ pair_in (get_or bytes 12 0) (get_or bytes 13 0) (drop 16 bytes)
