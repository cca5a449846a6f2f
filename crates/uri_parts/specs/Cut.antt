-- Which parts a target may be cut into.
use Rattle.std.specs.Prelude.{◌≡◌, ℕ, Bool, true, false, not, List, [], ◌∷◌, ◌++◌, Option, Some, None}
use Rattle.std.specs.List.{list_all}
use Rattle.uri_parts.specs.Target.{TargetParts, is_scheme_byte, is_authority_byte, is_path_byte, mark, begins_with_letter, has_scheme}

-- a query behind its `?`
abbrev pub query_text : Option (List ℕ) → List ℕ
query_text None = []
query_text (Some query) = 63 ∷ query

-- a scheme, `://` and an authority
abbrev pub origin_text : Option (List ℕ) → Option (List ℕ) → List ℕ
origin_text None authority = []
origin_text (Some scheme) None = []
origin_text (Some scheme) (Some authority) = scheme ++ (mark ++ authority)

-- the target that the parts spell
abbrev pub spelling : TargetParts → List ℕ
spelling parts = origin_text parts.scheme parts.authority ++ (parts.path ++ query_text parts.query)

-- the text is empty, or its first byte fails the test
abbrev pub ends_at : (ℕ → Bool) → List ℕ → Bool
ends_at p [] = true
ends_at p (b ∷ bs) = not (p b)

-- A scheme and an authority in front of this text, or neither. A scheme is a letter and scheme bytes; an authority has no
-- `/` or `?`, and one of them follows it, or nothing does. Where there is neither, the text begins with no scheme and `://`.
abbrev pub IsOrigin : Option (List ℕ) → Option (List ℕ) → List ℕ → Type 0
IsOrigin None None text = has_scheme text ≡ false
IsOrigin None (Some authority) text = ⊥
IsOrigin (Some scheme) None text = ⊥
IsOrigin (Some scheme) (Some authority) text =
    (begins_with_letter scheme ≡ true) × (list_all is_scheme_byte scheme ≡ true) × (list_all is_authority_byte authority ≡ true)
    × (ends_at is_authority_byte text ≡ true)

-- the parts meet the rule: no `?` stands in the path, and scheme and authority are those of what they spell
pub record IsCut (parts : TargetParts) : Type 0 where
  pub path : list_all is_path_byte parts.path ≡ true
  pub origin : IsOrigin parts.scheme parts.authority (parts.path ++ query_text parts.query)
