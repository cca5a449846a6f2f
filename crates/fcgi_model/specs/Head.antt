-- The head of a request as the proxy spells it (RFC 9112 sections 2.1, 3 and 5), read. It knows nothing of what becomes of it.
use Rattle.std.specs.Prelude.{◌≡◌, ℕ, zero, suc, ◌<◌, Bool, false, not, ◌&&◌, ◌==◌, if◌then◌else◌, List, [], ◌∷◌, length, take, drop, nat_eq, Option, Some, None, codes}
use Rattle.std.specs.List.{prefix_len, ends_with}
use Rattle.std.specs.Str.{bytes_eq, str_eq_ignore_ascii_case}
use Rattle.http_model.specs.Head.{Field}
use Rattle.http_model.specs.declared.Framing.{Framing}
use Rattle.http_model.specs.declared.Framing.TheVariants.{Absent, Length, Chunked}
use Rattle.px_bytes.specs.Numbers.{decimal_of}
use Rattle.http_model.specs.Fields.{is_named}

-- method, target and fields, in order
pub record RequestHead : Type 0 where
  pub method : List ℕ
  pub target : List ℕ
  pub fields : List Field

-- the value of the first field of this name
abbrev pub first_value : List ℕ → List Field → Option (List ℕ)
first_value name [] = None
first_value name (field ∷ fields) = if is_named name field then Some field.1 else first_value name fields

-- ---- lines

abbrev pub is_line_byte : ℕ → Bool
is_line_byte b = not (b == 13)

-- the line in front of a CR LF, and what follows that
abbrev pub ended_line : (line : List ℕ) → List ℕ → Option (List ℕ × List ℕ)
ended_line line [] = None
ended_line line (b ∷ []) = None
ended_line line (b ∷ c ∷ rest) = if b == 13 && c == 10 then Some (line, rest) else None

-- the line that a text begins with, without its CR LF, and what follows that
abbrev pub line_at : List ℕ → Option (List ℕ × List ℕ)
line_at text =
    let len = prefix_len is_line_byte text in
    ended_line (take len text) (drop len text)

-- ---- the request line

abbrev pub is_word_byte : ℕ → Bool
is_word_byte b = not (b == 32)

-- a space, the target, and the version behind a space
abbrev pub target_at : (method : List ℕ) → List ℕ → Option (List ℕ × List ℕ)
target_at method [] = None
target_at method (b ∷ bytes) =
    let len = prefix_len is_word_byte bytes in
    if bytes_eq (drop len bytes) (codes " HTTP/1.1") then Some (method, take len bytes) else None

-- the method and the target of a request line
abbrev pub request_line : List ℕ → Option (List ℕ × List ℕ)
request_line line =
    let len = prefix_len is_word_byte line in
    target_at (take len line) (drop len line)

-- ---- fields

abbrev pub is_name_byte : ℕ → Bool
is_name_byte b = not (b == 58)

-- a colon and a space, and the value
abbrev pub value_behind : (name : List ℕ) → List ℕ → Option Field
value_behind name [] = None
value_behind name (b ∷ []) = None
value_behind name (b ∷ c ∷ value) = if b == 58 && c == 32 then Some (name, value) else None

-- the field that a line is
abbrev pub field_of : List ℕ → Option Field
field_of line =
    let len = prefix_len is_name_byte line in
    value_behind (take len line) (drop len line)

abbrev pub in_front : Field → Option (List Field) → Option (List Field)
in_front field None = None
in_front field (Some fields) = Some (field ∷ fields)

-- a field and those of the lines behind it
abbrev pub more_fields : (read : Option (List Field)) → Option Field → Option (List Field)
more_fields read None = None
more_fields read (Some field) = in_front field read

-- the empty line ends the fields
abbrev pub fields_from : (read : List ℕ → Option (List Field)) → Option (List ℕ × List ℕ) → Option (List Field)
fields_from read None = None
fields_from read (Some ([], rest)) = Some []
fields_from read (Some (b ∷ line, rest)) = more_fields (read rest) (field_of (b ∷ line))

-- the fields of a text of at most so many lines, up to an empty line
abbrev pub fields_within : (lines : ℕ) → List ℕ → Option (List Field)
fields_within zero text = None
fields_within (suc lines) text = fields_from (fields_within lines) (line_at text)

-- ---- the head

abbrev pub with_fields : (line : List ℕ × List ℕ) → Option (List Field) → Option RequestHead
with_fields line None = None
with_fields line (Some fields) = Some (record { method = line.0; target = line.1; fields = fields })

-- the request line, in front of this rest
abbrev pub with_line : (rest : List ℕ) → Option (List ℕ × List ℕ) → Option RequestHead
with_line rest None = None
with_line rest (Some line) = with_fields line (fields_within (length rest) rest)

abbrev pub head_from : Option (List ℕ × List ℕ) → Option RequestHead
head_from None = None
head_from (Some (line, rest)) = with_line rest (request_line line)

-- the head that a text is; none where it is none of the proxy's spelling
abbrev pub head_of : List ℕ → Option RequestHead
head_of text = head_from (line_at text)

-- the text ends with an empty line
abbrev pub ends_head : List ℕ → Bool
ends_head text = ends_with nat_eq text (codes "\r\n\r\n")

-- none ends behind more than so many bytes, and less than so many
abbrev pub NoEnd : (seen to : ℕ) → List ℕ → Type 0
NoEnd seen to text = (k : ℕ) → seen < k → k < to → ends_head (take k text) ≡ false

-- ---- the framing of the body

abbrev pub with_length : Option ℕ → Option Framing
with_length None = None
with_length (Some n) = Some (Length n)

-- by the first `transfer-encoding` and the first `content-length`: both together, another coding or another text than a number is none
abbrev pub framing_by : (coding size : Option (List ℕ)) → Option Framing
framing_by None None = Some Absent
framing_by None (Some size) = with_length (decimal_of 18 size)
framing_by (Some coding) None = if str_eq_ignore_ascii_case coding (codes "chunked") then Some Chunked else None
framing_by (Some coding) (Some size) = None

abbrev pub framing_of : List Field → Option Framing
framing_of fields = framing_by (first_value (codes "transfer-encoding") fields) (first_value (codes "content-length") fields)
