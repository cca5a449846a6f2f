-- Addresses as words spell them: HOST:PORT, where an IPv6 address stands in brackets (RFC 3986 section 3.2.2).
use Rattle.std.specs.Prelude.{ℕ, ◌+◌, List, [], ◌∷◌, length, take, drop, Bool, ◌||◌, ◌&&◌, ◌==◌, nat_le, if◌then◌else◌, Option, Some, None, Result, Ok, Err, position, codes}
use Rattle.std.specs.Str.{bytes_eq}
use Rattle.px_bytes.specs.Numbers.{decimal_of}
use Rattle.px_link.specs.declared.address.Address.{Address}
use Rattle.uri_parts.specs.Authority.{is_ipv6}
use Rattle.cfg_parse.specs.declared.fault.CfgKind.{CfgKind}
use Rattle.cfg_parse.specs.declared.fault.CfgKind.TheVariants.{Argument}
use Rattle.cfg_parse.specs.Limits.{most_digits}
use Rattle.cfg_parse.specs.Reading.{◌>>=◌}

abbrev pub is_colon : ℕ → Bool
is_colon b = b == 58

abbrev pub is_opening_bracket : ℕ → Bool
is_opening_bracket b = b == 91

abbrev pub is_closing_bracket : ℕ → Bool
is_closing_bracket b = b == 93

-- a number, if it is a port
abbrev pub as_port : Option ℕ → Result ℕ CfgKind
as_port (Some port) = if nat_le 1 port && nat_le port 65535 then Ok port else Err Argument
as_port None = Err Argument

-- a port, 1 to 65535
unfoldable pub port_of : List ℕ → Result ℕ CfgKind
port_of digits = as_port (decimal_of most_digits digits)

-- this host with the port in these digits
unfoldable pub with_port : (host digits : List ℕ) → Result Address CfgKind
with_port host digits = port_of digits >>= λ port. Ok (record { host = host; port = port })

-- host and port, where the first colon stands at an index; digits have no further colon
abbrev pub named_at : List ℕ → Option ℕ → Result Address CfgKind
named_at word (Some at) = with_port (take at word) (drop (at + 1) word)
named_at word None = Err Argument

-- HOST:PORT, where the host has no colon and may be empty
unfoldable pub named : List ℕ → Result Address CfgKind
named word = named_at word (position is_colon word)

-- this host with the port behind a colon
unfoldable pub with_port_behind : (host behind : List ℕ) → Result Address CfgKind
with_port_behind host [] = Err Argument
with_port_behind host (b ∷ digits) = if is_colon b then with_port host digits else Err Argument

-- an IPv6 address and a port, where the closing bracket stands at an index; a zone is no part of an address
abbrev pub bracketed_at : List ℕ → Option ℕ → Result Address CfgKind
bracketed_at text (Some at) = if is_ipv6 (take at text) then with_port_behind (take at text) (drop (at + 1) text) else Err Argument
bracketed_at text None = Err Argument

-- ADDRESS]:PORT, what stands behind an opening bracket
unfoldable pub bracketed : List ℕ → Result Address CfgKind
bracketed text = bracketed_at text (position is_closing_bracket text)

-- HOST:PORT or [ADDRESS]:PORT; the host of an address in brackets is what stands between them
unfoldable pub address_of : List ℕ → Result Address CfgKind
address_of [] = Err Argument
address_of (b ∷ bs) = if is_opening_bracket b then bracketed bs else named (b ∷ bs)

-- the same of a server: the host is neither empty nor `*`
unfoldable pub server_address_of : List ℕ → Result Address CfgKind
server_address_of word =
    address_of word >>= λ address. if length address.host == 0 || bytes_eq address.host (codes "*") then Err Argument else Ok address
