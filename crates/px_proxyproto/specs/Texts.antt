-- What is written of a pair.
use Rattle.std.specs.Prelude.{ℕ, ◌^◌, ◌%◌, Bool, true, false, List, [], ◌∷◌, ◌++◌, flat_map, slice_index, codes, decimal, ◌==◌, if◌then◌else◌, Option, Some, None}
use Rattle.std.specs.Int.{w16, w32, w128, to_be_bytes}
use Rattle.std.specs.Fmt.{digits}
use Rattle.std.specs.Net.Addr.{segments_of}
use Rattle.px_peer.specs.declared.Pair.{Pair}
use Rattle.px_proxyproto.specs.Binary.{signature}
use Rattle.px_proxyproto.specs.Lines.{family_word, line_end}

-- a group of an address of IPv6 in lower case, without leading zeros
abbrev pub group_text : ℕ → List ℕ
group_text n = digits 16 false n

-- a group behind a colon, or the first
abbrev pub next_group : (first : Bool) → ℕ → List ℕ
next_group true n = group_text n
next_group false n = 58 ∷ group_text n

-- groups with a colon between them
abbrev pub groups_text : List ℕ → List ℕ
groups_text [] = []
groups_text (n ∷ rest) = next_group true n ++ flat_map (next_group false) rest

-- four numbers with a dot between them
abbrev pub dotted_text : List ℕ → List ℕ
dotted_text octets = decimal (slice_index octets 0) ++ (46 ∷ (decimal (slice_index octets 1) ++ (46 ∷ (decimal (slice_index octets 2) ++ (46 ∷ decimal (slice_index octets 3))))))

-- the bytes of an address of IPv4: the low 32 bits
unfoldable pub octets_4 : ℕ → List ℕ
octets_4 addr = to_be_bytes w32 (addr % 2 ^ 32)

-- and of IPv6
unfoldable pub octets_6 : ℕ → List ℕ
octets_6 addr = to_be_bytes w128 addr

-- an address: four numbers with a dot between them, or all eight groups
abbrev pub address_text : (v6 : Bool) → (addr : ℕ) → List ℕ
address_text true addr = groups_text (segments_of (octets_6 addr))
address_text false addr = dotted_text (octets_4 addr)

-- both addresses, a space behind each; the family is the source's
abbrev pub addresses_text : Pair → List ℕ
addresses_text pair = address_text pair.src.v6 pair.src.addr ++ (32 ∷ (address_text pair.src.v6 pair.dst.addr ++ (32 ∷ [])))

-- both ports, a space between them
abbrev pub ports_text : Pair → List ℕ
ports_text pair = decimal pair.src.port ++ (32 ∷ decimal pair.dst.port)

-- the line of a pair, without CR LF
abbrev pub line_text : Pair → List ℕ
line_text pair = family_word pair.src.v6 ++ (addresses_text pair ++ ports_text pair)

abbrev pub ports_block : Pair → List ℕ
ports_block pair = to_be_bytes w16 pair.src.port ++ to_be_bytes w16 pair.dst.port

-- command, family and length, then addresses and ports
abbrev pub block_4 : Pair → List ℕ
block_4 pair = (0x21 ∷ 0x11 ∷ 0 ∷ 12 ∷ []) ++ (octets_4 pair.src.addr ++ (octets_4 pair.dst.addr ++ ports_block pair))

abbrev pub block_6 : Pair → List ℕ
block_6 pair = (0x21 ∷ 0x21 ∷ 0 ∷ 36 ∷ []) ++ (octets_6 pair.src.addr ++ (octets_6 pair.dst.addr ++ ports_block pair))

abbrev pub pair_block : (v6 : Bool) → Pair → List ℕ
pair_block true pair = block_6 pair
pair_block false pair = block_4 pair

abbrev pub text_of : Option Pair → List ℕ
text_of None = codes "PROXY UNKNOWN" ++ line_end
text_of (Some pair) = line_text pair ++ line_end

abbrev pub binary_of : Option Pair → List ℕ
binary_of None = signature ++ (0x20 ∷ 0 ∷ 0 ∷ 0 ∷ [])
binary_of (Some pair) = signature ++ pair_block pair.src.v6 pair

-- a header of version 1 or 2
abbrev pub header_of : (version : ℕ) → Option Pair → List ℕ
header_of version pair = if version == 2 then binary_of pair else text_of pair
