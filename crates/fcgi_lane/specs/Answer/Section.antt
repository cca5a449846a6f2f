-- The fields in front of an application's output (RFC 3875 section 6.2), read byte by byte. `laws::section_is_the_grammar` says that these are the sections of
-- `httparse`'s grammar.
use Rattle.std.specs.Prelude.{ℕ, zero, suc, if◌then◌else◌, ◌==◌, List, [], ◌∷◌, length, take, drop, Option, Some, None}
use Rattle.std.specs.List.{prefix_len}
use Rattle.httparse.specs.Grammar.{is_token_byte, is_value_byte, trim_ows}
use Rattle.http_model.specs.Head.{Field}

abbrev pub behind_feed : List ℕ → Option (List ℕ)
behind_feed [] = None
behind_feed (b ∷ bytes) = if b == 10 then Some bytes else None

-- what follows the line end that bytes begin with: CR LF, or LF alone
abbrev pub behind_end : List ℕ → Option (List ℕ)
behind_end [] = None
behind_end (b ∷ bytes) = if b == 10 then Some bytes else if b == 13 then behind_feed bytes else None

abbrev pub with_rest : Field → Option (List ℕ) → Option (Field × List ℕ)
with_rest field None = None
with_rest field (Some rest) = Some (field, rest)

-- a value, with the blanks around it, and the end of its line
abbrev pub value_at : (name : List ℕ) → List ℕ → Option (Field × List ℕ)
value_at name bytes =
    let len = prefix_len is_value_byte bytes in
    with_rest (name, trim_ows (take len bytes)) (behind_end (drop len bytes))

-- a colon, and then a value
abbrev pub colon_at : (name : List ℕ) → List ℕ → Option (Field × List ℕ)
colon_at name [] = None
colon_at name (b ∷ bytes) = if b == 58 then value_at name bytes else None

abbrev pub named_at : (name bytes : List ℕ) → Option (Field × List ℕ)
named_at [] bytes = None
named_at (b ∷ name) bytes = colon_at (b ∷ name) bytes

-- the field line that bytes begin with, and what follows it: a name of one byte or more, a colon, a value
abbrev pub field_at : List ℕ → Option (Field × List ℕ)
field_at bytes =
    let len = prefix_len is_token_byte bytes in
    named_at (take len bytes) (drop len bytes)

abbrev pub in_front : Field → Option (List Field × List ℕ) → Option (List Field × List ℕ)
in_front field None = None
in_front field (Some (fields, rest)) = Some (field ∷ fields, rest)

-- a field, and the section that is read behind it
abbrev pub more_fields : (List ℕ → Option (List Field × List ℕ)) → Option (Field × List ℕ) → Option (List Field × List ℕ)
more_fields read None = None
more_fields read (Some (field, rest)) = in_front field (read rest)

-- the empty line ends a section, and else a field begins it
abbrev pub section_from : (List ℕ → Option (List Field × List ℕ)) → List ℕ → Option (List ℕ) → Option (List Field × List ℕ)
section_from read bytes (Some rest) = Some ([], rest)
section_from read bytes None = more_fields read (field_at bytes)

-- a section of less than so many fields
abbrev pub section_within : (lines : ℕ) → List ℕ → Option (List Field × List ℕ)
section_within zero bytes = None
section_within (suc lines) bytes = section_from (section_within lines) bytes (behind_end bytes)

-- the fields that bytes begin with, up to an empty line, and what follows that; none where there is no such line, or what stands in front of it is no field
abbrev pub section_at : List ℕ → Option (List Field × List ℕ)
section_at bytes = section_within (length bytes) bytes
