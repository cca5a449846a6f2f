-- The trailer section behind the last chunk (RFC 9112, section 7.1.2), and what is kept of its fields.
use Rattle.std.specs.Prelude.{◌≡◌, ℕ, ◌+◌, ◌/◌, ◌<◌, ◌≤◌, ◌⊎◌, List, [], ◌++◌, Bool, not, length, count_by, map, filter, All}
use Rattle.std.specs.Str.{str_to_ascii_lowercase}
use Rattle.httparse.specs.Grammar as grammar
use Rattle.httparse.specs.Grammar.{LineEnd, ReadsSection, HasNoSection, MayBecomeSection}
use Rattle.httparse.specs.Spans.{name_and_value}
use Rattle.http_model.specs.declared.Limits.{Limits}
use Rattle.http_model.specs.Head.{Field}
use Rattle.http_model.specs.Fields.{is_named_among}
use Rattle.http_model.specs.Finish.{own_names}
use Rattle.http_model.specs.Sizes.{most_name}
use Rattle.h1_head.specs.Decides.{is_line_feed}
use Rattle.h1_body.specs.Numbers.{most_trailers, most_lines}

-- the most bytes of a section, with its empty line
abbrev pub section_limit : Limits → ℕ
section_limit limits = limits.bufsize / 2

-- a name of at most 255 bytes
abbrev pub HasShortName : grammar.Field → Type 0
HasShortName field = length field.name ≤ most_name

-- the bytes are a section with these fields, at most 64 of them, and then rest
pub record BeginsFields (bytes : List ℕ) (fields : List grammar.Field) (rest : List ℕ) : Type 0 where
  pub last : LineEnd
  pub reads : ReadsSection bytes fields last rest
  pub few : length fields ≤ most_trailers
  pub named : All HasShortName fields

-- the same within so many bytes
pub record BeginsSection (most : ℕ) (bytes : List ℕ) (fields : List grammar.Field) (rest : List ℕ) : Type 0 where
  pub begins : BeginsFields bytes fields rest
  pub short : length bytes ≤ most + length rest

-- no front of the bytes is a section within the limits
abbrev pub HasNoSectionWithin : ℕ → List ℕ → Type 0
HasNoSectionWithin most bytes = (fields : List grammar.Field) (rest : List ℕ) → ¬ (BeginsSection most bytes fields rest)

-- whatever bytes follow, no front is a section within the limits
abbrev pub IsHopelessSection : ℕ → List ℕ → Type 0
IsHopelessSection most bytes = (more : List ℕ) → HasNoSectionWithin most (bytes ++ more)

-- Where more of a section may be asked for: none stands in the bytes, they may still become one, and neither the bytes
-- nor the lines of a section are used up.
pub record MayComeSection (most : ℕ) (bytes : List ℕ) : Type 0 where
  pub none : HasNoSection bytes
  pub begun : MayBecomeSection bytes
  pub short : length bytes < most
  pub few : count_by is_line_feed bytes < most_lines

-- a field stays unless it frames a body or speaks of a connection
abbrev pub is_kept : Field → Bool
is_kept field = not (is_named_among own_names field)

-- the name in lower case
abbrev pub folded : Field → Field
folded field = (str_to_ascii_lowercase field.0, field.1)

-- the fields that stay
abbrev pub kept : List Field → List Field
kept fields = map folded (filter is_kept fields)

-- the trailers of a section with these fields; values have no blanks around them
abbrev pub trailers_of : List grammar.Field → List Field
trailers_of fields = kept (map name_and_value fields)

-- the trailers of a section that was read; without a section there are none
abbrev pub HasTrailers : List ℕ → List Field → Type 0
HasTrailers section trailers =
    ((section ≡ []) × (trailers ≡ []))
    ⊎ ((fields : List grammar.Field) × BeginsFields section fields [] × (trailers ≡ trailers_of fields))
