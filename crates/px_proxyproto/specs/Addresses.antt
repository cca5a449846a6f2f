-- Addresses and ports as texts.
use Rattle.std.specs.Prelude.{◌≡◌, ℕ, ◌<◌, ◌^◌, Bool, true, false, List, decimal}
use Rattle.px_peer.specs.declared.Peer.{Peer}
use Rattle.px_peer.specs.declared.Pair.{Pair}
use Rattle.std.specs.Net.Addr.{ipv4_bits, ipv6_bits}
use Rattle.std.specs.Net.Grammar.{IsIpv4Text, IsIpv6Text}
use Rattle.std.specs.declared.net.ipv4_addr.Ipv4Addr.{Ipv4Addr}
use Rattle.std.specs.declared.net.ipv6_addr.Ipv6Addr.{Ipv6Addr}

-- The text writes this address of IPv6, or of IPv4. IPv4: four numbers 0 to 255 without leading zeros. IPv6: groups of 1 to 4 hexadecimal
-- digits, eight, or fewer with one `::` for at least one group, of which the last two may be an IPv4 text (RFC 4291, section 2.2).
abbrev pub IsAddress : (v6 : Bool) → (text : List ℕ) → (addr : ℕ) → Type 0
IsAddress true text addr = (a : Ipv6Addr) × IsIpv6Text text a × (ipv6_bits a ≡ addr)
IsAddress false text addr = (a : Ipv4Addr) × IsIpv4Text text a × (ipv4_bits a ≡ addr)

-- the text writes this port: 0 to 65535 without leading zeros
abbrev pub IsPort : (text : List ℕ) → (port : ℕ) → Type 0
IsPort text port = (port < 2 ^ 16) × (text ≡ decimal port)

-- an end of a connection: its numbers have their sizes, and an address of IPv4 the low 32 bits
abbrev pub IsPeer : Peer → Type 0
IsPeer peer = (peer.addr < 2 ^ 128) × (peer.port < 2 ^ 16) × (peer.v6 ≡ false → peer.addr < 2 ^ 32)

-- both ends, of one family
pub record IsPair (pair : Pair) : Type 0 where
  pub family : pair.dst.v6 ≡ pair.src.v6
  pub src : IsPeer pair.src
  pub dst : IsPeer pair.dst
