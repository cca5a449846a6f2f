-- The parts of a target (RFC 3986 section 3, RFC 9112 section 3.2).
use Rattle.std.specs.Prelude.{ℕ, ◌+◌, Bool, false, not, ◌&&◌, ◌||◌, ◌==◌, nat_eq, List, [], ◌∷◌, take, drop, Option, Some, None, if◌then◌else◌, codes}
use Rattle.std.specs.List.{prefix_len, starts_with}
use Rattle.std.specs.Char.{is_ascii_alphabetic, is_ascii_alphanumeric}

-- what a target is cut into
pub record TargetParts : Type 0 where
  pub scheme : Option (List ℕ)
  pub authority : Option (List ℕ)
  pub path : List ℕ
  pub query : Option (List ℕ)

-- a letter, a digit, `+`, `-` or `.`
abbrev pub is_scheme_byte : ℕ → Bool
is_scheme_byte b = is_ascii_alphanumeric b || (b == 43 || (b == 45 || b == 46))

-- neither `/` nor `?`
abbrev pub is_authority_byte : ℕ → Bool
is_authority_byte b = not (b == 47 || b == 63)

-- no `?`
abbrev pub is_path_byte : ℕ → Bool
is_path_byte b = not (b == 63)

-- what stands between a scheme and its authority
abbrev pub mark : List ℕ
mark = codes "://"

-- the first byte is a letter
abbrev pub begins_with_letter : List ℕ → Bool
begins_with_letter [] = false
begins_with_letter (b ∷ bs) = is_ascii_alphabetic b

-- so many bytes in front may be a scheme
abbrev pub scheme_len : List ℕ → ℕ
scheme_len target = prefix_len is_scheme_byte target

-- the target begins with a letter, letters, digits, `+`, `-` or `.` behind it, and then `://`
abbrev pub has_scheme : List ℕ → Bool
has_scheme target = begins_with_letter target && starts_with nat_eq (drop (scheme_len target) target) mark

-- what follows the `?` that the text begins with; there is no query where the text is empty
abbrev pub query_in : List ℕ → Option (List ℕ)
query_in [] = None
query_in (b ∷ bs) = Some bs

-- path and query, behind this scheme and this authority: the query follows the first `?`
abbrev pub cut_path : Option (List ℕ) → Option (List ℕ) → List ℕ → TargetParts
cut_path scheme authority text =
    let len = prefix_len is_path_byte text in
    record { scheme = scheme; authority = authority; path = take len text; query = query_in (drop len text) }

-- what stands behind a scheme and `://`: the authority ends before `/`, `?` or the end
abbrev pub cut_authority : List ℕ → List ℕ → TargetParts
cut_authority scheme text =
    let len = prefix_len is_authority_byte text in
    cut_path (Some scheme) (Some (take len text)) (drop len text)

-- The parts of a target. One without a scheme is a path and a query, `*` too.
abbrev pub target_parts : List ℕ → TargetParts
target_parts target =
    if has_scheme target then cut_authority (take (scheme_len target) target) (drop (scheme_len target + 3) target)
    else cut_path None None target
