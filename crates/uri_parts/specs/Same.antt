-- When two authorities are the same (RFC 3986 section 6.2.2.1, RFC 9110 section 4.2.3).
use Rattle.std.specs.Prelude.{◌-◌, ℕ, Bool, true, ◌&&◌, nat_eq, List, length, take, Option, Some, None, if◌then◌else◌, codes}
use Rattle.std.specs.List.{ends_with}
use Rattle.std.specs.Str.{str_eq_ignore_ascii_case}
use Rattle.uri_parts.specs.Target.{target_parts}
use Rattle.uri_parts.specs.Authority.{is_authority}

-- the port that a scheme has where none is named, with its colon; other schemes have none
abbrev pub default_port : (scheme : List ℕ) → List ℕ
default_port scheme =
    if str_eq_ignore_ascii_case scheme (codes "http") then codes ":80"
    else if str_eq_ignore_ascii_case scheme (codes "https") then codes ":443"
    else codes ":"

-- the text without what it ends with, where it ends so
abbrev pub without_end : (end : List ℕ) → List ℕ → List ℕ
without_end end text = if ends_with nat_eq text end then take (length text - length end) text else text

-- an authority without an empty port and without the port of its scheme
abbrev pub plain_authority : (scheme : List ℕ) → List ℕ → List ℕ
plain_authority scheme text = without_end (codes ":") (without_end (default_port scheme) text)

-- the same but for the case of letters, and for the port of the scheme, which may be left out
abbrev pub same_authority : (scheme : List ℕ) → (a b : List ℕ) → Bool
same_authority scheme a b = str_eq_ignore_ascii_case (plain_authority scheme a) (plain_authority scheme b)

-- an authority without user information, which Host repeats; nothing is asked where there is none
abbrev pub repeats : (scheme authority : Option (List ℕ)) → (host : List ℕ) → Bool
repeats None authority host = true
repeats (Some scheme) None host = true
repeats (Some scheme) (Some authority) host =
    is_authority authority && (is_authority host && same_authority scheme authority host)

-- Host names the authority of the target, where the target has one (RFC 9112 section 3.2.2)
unfoldable pub host_agrees : (target host : List ℕ) → Bool
host_agrees target host = repeats (target_parts target).scheme (target_parts target).authority host
