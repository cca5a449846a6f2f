-- The authority of a target and the value of Host: a host, and a port behind it or none (RFC 3986 section 3.2, RFC 9110 section
-- 7.2). User information is no part of either.
use Rattle.std.specs.Prelude.{ℕ, Bool, true, false, not, ◌&&◌, ◌||◌, ◌==◌, nat_lt, List, [], ◌∷◌, length, take, drop, Option, Some, None, if◌then◌else◌}
use Rattle.std.specs.List.{prefix_len, list_all}
use Rattle.std.specs.Char.{is_ascii_alphanumeric, is_ascii_digit, is_ascii_hexdigit}
use Rattle.std.specs.Net.Reader.{read_ipv6, whole_value}
use Rattle.uri_parts.specs.declared.authority.NameState.{NameState}
use Rattle.uri_parts.specs.declared.authority.NameState.TheVariants.{Plain, First, Second, Broken}

-- ---- names

-- `-`, `.`, `_`, `~`, `!`, `$`, `&` or `'`
abbrev pub is_low_mark : ℕ → Bool
is_low_mark b = b == 45 || (b == 46 || (b == 95 || (b == 126 || (b == 33 || (b == 36 || (b == 38 || b == 39))))))

-- `(`, `)`, `*`, `+`, `,`, `;` or `=`
abbrev pub is_high_mark : ℕ → Bool
is_high_mark b = b == 40 || (b == 41 || (b == 42 || (b == 43 || (b == 44 || (b == 59 || b == 61)))))

-- an unreserved byte or a sub-delimiter
abbrev pub is_name_byte : ℕ → Bool
is_name_byte b = is_ascii_alphanumeric b || (is_low_mark b || is_high_mark b)

-- what is owed behind one more byte of a name: two hexadecimal digits behind `%`
abbrev pub next_state : NameState → ℕ → NameState
next_state Plain b = if b == 37 then First else if is_name_byte b then Plain else Broken
next_state First b = if is_ascii_hexdigit b then Second else Broken
next_state Second b = if is_ascii_hexdigit b then Plain else Broken
next_state Broken b = Broken

abbrev pub state_after : NameState → List ℕ → NameState
state_after state [] = state
state_after state (b ∷ bs) = state_after (next_state state b) bs

-- no hexadecimal digit is owed, and each byte was good
abbrev pub is_plain : NameState → Bool
is_plain Plain = true
is_plain First = false
is_plain Second = false
is_plain Broken = false

-- a registered name, which may be empty: name bytes, and `%` with two hexadecimal digits; IPv4 addresses are names
abbrev pub is_name : List ℕ → Bool
is_name text = is_plain (state_after Plain text)

-- ---- addresses in brackets

-- there is a value
abbrev pub is_there : {A : Type 0} → Option A → Bool
is_there None = false
is_there (Some value) = true

-- an IPv6 address (RFC 4291 section 2.2), as std reads one
unfoldable pub is_ipv6 : List ℕ → Bool
is_ipv6 text = is_there (whole_value (read_ipv6 text))

-- a byte behind the version of an address to come
abbrev pub is_future_byte : ℕ → Bool
is_future_byte b = is_name_byte b || b == 58

abbrev pub are_future_bytes : List ℕ → Bool
are_future_bytes text = list_all is_future_byte text

-- `.` and one of these bytes at least
abbrev pub ends_future : List ℕ → Bool
ends_future [] = false
ends_future (b ∷ bs) = b == 46 && (nat_lt 0 (length bs) && are_future_bytes bs)

-- a version of one hexadecimal digit at least, and what ends such an address
abbrev pub has_version : List ℕ → Bool
has_version text =
    let len = prefix_len is_ascii_hexdigit text in
    nat_lt 0 len && ends_future (drop len text)

-- `v`, a version, `.` and an address
abbrev pub is_future : List ℕ → Bool
is_future [] = false
is_future (b ∷ bs) = (b == 118 || b == 86) && has_version bs

-- ---- authorities

-- a byte in front of the port of a name
abbrev pub is_in_name : ℕ → Bool
is_in_name b = not (b == 58)

-- a byte in front of the closing bracket
abbrev pub is_in_brackets : ℕ → Bool
is_in_brackets b = not (b == 93)

-- what stands behind the closing bracket; none where there is no bracket
abbrev pub behind_bracket : List ℕ → Option (List ℕ)
behind_bracket [] = None
behind_bracket (b ∷ bs) = Some bs

-- what stands behind an address, whose opening bracket is left out; none where it is no address in brackets
abbrev pub behind_address : List ℕ → Option (List ℕ)
behind_address text =
    let len = prefix_len is_in_brackets text in
    if is_ipv6 (take len text) || is_future (take len text) then behind_bracket (drop len text) else None

-- what stands behind a name; none where it is no name
abbrev pub behind_name : List ℕ → Option (List ℕ)
behind_name text =
    let len = prefix_len is_in_name text in
    if is_name (take len text) then Some (drop len text) else None

-- what stands behind the host; none where the text begins with no host
abbrev pub behind_host : List ℕ → Option (List ℕ)
behind_host [] = Some []
behind_host (b ∷ bs) = if b == 91 then behind_address bs else behind_name (b ∷ bs)

abbrev pub are_digits : List ℕ → Bool
are_digits text = list_all is_ascii_digit text

-- nothing, or a colon and digits, which may be none
abbrev pub is_port : List ℕ → Bool
is_port [] = true
is_port (b ∷ digits) = b == 58 && are_digits digits

-- a colon and a digit at least
abbrev pub is_full_port : List ℕ → Bool
is_full_port [] = false
is_full_port (b ∷ digits) = b == 58 && (nat_lt 0 (length digits) && are_digits digits)

-- the test holds of a text that is there
abbrev pub on_rest : (List ℕ → Bool) → Option (List ℕ) → Bool
on_rest p None = false
on_rest p (Some rest) = p rest

-- a host, which may be empty, and a port or none
unfoldable pub is_authority : List ℕ → Bool
is_authority text = on_rest is_port (behind_host text)

-- the text does not begin with its port
abbrev pub has_host : List ℕ → Bool
has_host [] = false
has_host (b ∷ bs) = not (b == 58)
