-- Fields by name, and edits of a head's fields. Names are compared without regard to case (RFC 9110 section 5.1).
use Rattle.std.specs.Prelude.{ℕ, List, [], ◌∷◌, ◌++◌, Bool, not, filter}
use Rattle.std.specs.List.{list_any}
use Rattle.std.specs.Str.{str_to_ascii_lowercase, bytes_eq}
use Rattle.http_model.specs.Head.{Field, Head}

-- two names are one but for case
abbrev pub same_name : List ℕ → List ℕ → Bool
same_name a b = bytes_eq (str_to_ascii_lowercase a) (str_to_ascii_lowercase b)

-- the field has this name
abbrev pub is_named : List ℕ → Field → Bool
is_named name field = same_name field.0 name

-- the field has one of these names
abbrev pub is_named_among : List (List ℕ) → Field → Bool
is_named_among names field = list_any (λ name. is_named name field) names

-- some field has this name
abbrev pub has_field : List ℕ → List Field → Bool
has_field name fields = list_any (is_named name) fields

-- the fields of this name
abbrev pub fields_named : List ℕ → List Field → List Field
fields_named name fields = filter (is_named name) fields

-- the fields of any other name
abbrev pub without : List ℕ → List Field → List Field
without name fields = filter (λ field. not (is_named name field)) fields

-- the fields of none of these names
abbrev pub without_each : List (List ℕ) → List Field → List Field
without_each names fields = filter (λ field. not (is_named_among names field)) fields

-- one more field behind the others
abbrev pub add_field : List ℕ → List ℕ → Head → Head
add_field name value head = record { line = head.line; fields = head.fields ++ (name, value) ∷ [] }

-- each field of the name goes, and one of this value stands behind the others
abbrev pub set_field : List ℕ → List ℕ → Head → Head
set_field name value head = record { line = head.line; fields = without name head.fields ++ (name, value) ∷ [] }
