-- The four forms of a target (RFC 9112 section 3.2).
use Rattle.std.specs.Prelude.{ℕ, Bool, false, not, ◌&&◌, ◌||◌, ◌==◌, List, [], ◌∷◌, Option, Some, None, if◌then◌else◌, codes}
use Rattle.std.specs.List.{list_all}
use Rattle.std.specs.Str.{bytes_eq, str_eq_ignore_ascii_case}
use Rattle.uri_parts.specs.Target.{target_parts}
use Rattle.uri_parts.specs.Authority.{is_authority, is_full_port, behind_host, on_rest, has_host}

-- the scheme is one whose host may not be empty (RFC 9110 sections 4.2.1 and 4.2.2)
abbrev pub asks_host : (scheme : List ℕ) → Bool
asks_host scheme = str_eq_ignore_ascii_case scheme (codes "http") || str_eq_ignore_ascii_case scheme (codes "https")

-- an absolute path, and a query or none
abbrev pub is_origin_form : (target : List ℕ) → Bool
is_origin_form [] = false
is_origin_form (b ∷ bs) = b == 47

-- a scheme, `://` and an authority
abbrev pub is_absolute : (scheme authority : Option (List ℕ)) → Bool
is_absolute None authority = false
is_absolute (Some scheme) None = false
is_absolute (Some scheme) (Some authority) = is_authority authority && (has_host authority || not (asks_host scheme))

abbrev pub is_absolute_form : (target : List ℕ) → Bool
is_absolute_form target = is_absolute (target_parts target).scheme (target_parts target).authority

-- a host and a port, neither of them empty
abbrev pub is_authority_form : (target : List ℕ) → Bool
is_authority_form target = has_host target && on_rest is_full_port (behind_host target)

-- the whole server
abbrev pub is_asterisk_form : (target : List ℕ) → Bool
is_asterisk_form target = bytes_eq target (codes "*")

-- a byte that may stand in a target: a fragment is no part of one
abbrev pub is_no_fragment : ℕ → Bool
is_no_fragment b = not (b == 35)

abbrev pub has_no_fragment : (target : List ℕ) → Bool
has_no_fragment target = list_all is_no_fragment target

-- one of the forms other than that of CONNECT; the asterisk is for OPTIONS alone
abbrev pub is_common_form : (method target : List ℕ) → Bool
is_common_form method target =
    is_origin_form target || (is_absolute_form target || bytes_eq method (codes "OPTIONS") && is_asterisk_form target)

-- the target has a form that its method may have
unfoldable pub target_fits : (method target : List ℕ) → Bool
target_fits method target =
    has_no_fragment target
    && (if bytes_eq method (codes "CONNECT") then is_authority_form target else is_common_form method target)
