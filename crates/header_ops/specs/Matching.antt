-- Headers by a part of their name, without regard to case (RFC 9110 section 5.1).
use Rattle.std.specs.Prelude.{ℕ, ◌-◌, List, [], ◌∷◌, Bool, false, ◌&&◌, ◌||◌, not, nat_le, length, take, drop, filter}
use Rattle.http_model.specs.Head.{Field}
use Rattle.http_model.specs.Fields.{same_name, is_named_among}
use Rattle.http_model.specs.Finish.{framing_names}
use Rattle.http_model.specs.Block.{Block, Header}
use Rattle.header_ops.specs.declared.matching.NameMatch.{NameMatch}
use Rattle.header_ops.specs.declared.matching.NameMatch.TheVariants.{Str, Beg, End, Sub}

-- as many bytes from the name's beginning are the part
abbrev pub begins_with : List ℕ → List ℕ → Bool
begins_with name part = nat_le (length part) (length name) && same_name (take (length part) name) part

-- as many bytes at the name's end are the part
abbrev pub ends_with : List ℕ → List ℕ → Bool
ends_with name part = nat_le (length part) (length name) && same_name (drop (length name - length part) name) part

-- the part stands somewhere in the name
abbrev pub has_part : List ℕ → List ℕ → Bool
has_part [] part = begins_with [] part
has_part (b ∷ name) part = begins_with (b ∷ name) part || has_part name part

-- the name is one of those that are meant
abbrev pub is_match : NameMatch → List ℕ → Bool
is_match (Str text) name = same_name name text.now
is_match (Beg part) name = begins_with name part.now
is_match (End part) name = ends_with name part.now
is_match (Sub part) name = has_part name part.now

-- the field's name is one of those, and none that frames the message or speaks of its connection
abbrev pub is_field_matching : NameMatch → Field → Bool
is_field_matching which field = is_match which field.0 && not (is_named_among framing_names field)

-- the block is a header of such a field
abbrev pub is_header_matching : NameMatch → Block → Bool
is_header_matching which (Header n v) = is_field_matching which (n, v)
is_header_matching which block = false

-- each such header goes
abbrev pub without_matching : NameMatch → List Block → List Block
without_matching which blocks = filter (λ block. not (is_header_matching which block)) blocks
