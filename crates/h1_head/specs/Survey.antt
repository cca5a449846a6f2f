-- What one pass over the fields of a head gathers for the rows.
use Rattle.std.specs.Prelude.{ℕ, ◌+◌, List, [], ◌∷◌, Bool, true, false, ◌&&◌, ◌||◌, if◌then◌else◌, ◌==◌, nat_lt, not, length, Option, Some, None, codes}
use Rattle.std.specs.List.{list_any}
use Rattle.std.specs.Str.{bytes_eq}
use Rattle.http_model.specs.Head.{Field}
use Rattle.http_model.specs.Fields.{same_name, is_named}
use Rattle.px_bytes.specs.Numbers.{decimal_of}
use Rattle.px_bytes.specs.Values.{values_of}
use Rattle.http_model.specs.Sizes.{most_name}
use Rattle.h1_head.specs.Numbers.{most_digits}
use Rattle.h1_head.specs.declared.answer.HeadWhy.{HeadWhy}
use Rattle.h1_head.specs.declared.answer.HeadWhy.TheVariants as why
use Rattle.h1_head.specs.declared.survey.Lengths.{Lengths}
use Rattle.h1_head.specs.declared.survey.Lengths.TheVariants.{Unread, One, Differing}
use Rattle.h1_head.specs.declared.survey.Codings.{Codings}
use Rattle.h1_head.specs.declared.survey.Codings.TheVariants.{Unnamed, Chunked, Unknown}
use Rattle.h1_head.specs.declared.survey.Survey.{Survey}
use Rattle.h1_head.specs.Names.{class_of, is_lasting_class}
use Rattle.h1_head.specs.Rows.{is_nonempty}

-- ---- elements of Content-Length

-- what is known behind one more element that is this number, or no length
abbrev pub by_number : Lengths → Option ℕ → Lengths
by_number lengths None = Differing
by_number Unread (Some n) = One n
by_number (One m) (Some n) = if m == n then One m else Differing
by_number Differing (Some n) = Differing

-- what is known behind one more element
abbrev pub next_length : Lengths → List ℕ → Lengths
next_length lengths element = by_number lengths (decimal_of most_digits element)

-- what is known behind these elements
abbrev pub lengths_after : Lengths → List (List ℕ) → Lengths
lengths_after lengths [] = lengths
lengths_after lengths (element ∷ elements) = lengths_after (next_length lengths element) elements

-- ---- elements of Transfer-Encoding

-- what is known behind one more element that is `chunked` or not
abbrev pub by_coding : Codings → Bool → Codings
by_coding Unnamed true = Chunked
by_coding Unnamed false = Unknown
by_coding Chunked chunked = Unknown
by_coding Unknown chunked = Unknown

-- what is known behind one more element; an empty one changes nothing
abbrev pub next_coding : Codings → List ℕ → Codings
next_coding codings element =
    if is_nonempty element then by_coding codings (same_name element (codes "chunked")) else codings

-- what is known behind these elements of Transfer-Encoding
abbrev pub codings_after : Codings → List (List ℕ) → Codings
codings_after codings [] = codings
codings_after codings (element ∷ elements) = codings_after (next_coding codings element) elements

-- ---- elements of Connection

-- some value of the list is this word
abbrev pub has_value : List ℕ → List ℕ → Bool
has_value word list = list_any (λ element. same_name element word) (values_of list)

-- the element takes a field away, if one has its name
abbrev pub is_taking : List ℕ → Bool
is_taking element = not (is_lasting_class (class_of element))

-- some value of the list takes fields away
abbrev pub has_taking : List ℕ → Bool
has_taking list = list_any is_taking (values_of list)

-- some field of Connection has this word as an element
abbrev pub has_option_in : List ℕ → List Field → Bool
has_option_in word fields = list_any (λ field. is_named (codes "connection") field && has_value word field.1) fields

-- some element of Connection takes fields away
abbrev pub removes_some : List Field → Bool
removes_some fields = list_any (λ field. is_named (codes "connection") field && has_taking field.1) fields

-- ---- fields

-- what is known behind one more field, by whether it has each of the four names
abbrev pub add_field_as : (host sized coded linked : Bool) → Survey → Field → Survey
add_field_as host sized coded linked s field =
    record {
      long_name = s.long_name || nat_lt most_name (length field.0);
      hosts = if host then s.hosts + 1 else s.hosts;
      has_length = if sized then true else s.has_length;
      lengths = if sized then lengths_after s.lengths (values_of field.1) else s.lengths;
      has_coding = if coded then true else s.has_coding;
      codings = if coded then codings_after s.codings (values_of field.1) else s.codings;
      removes = if linked then s.removes || has_taking field.1 else s.removes;
      close = if linked then s.close || has_value (codes "close") field.1 else s.close;
    }

-- what is known behind one more field
abbrev pub add_field : Survey → Field → Survey
add_field s field =
    add_field_as (is_named (codes "host") field) (is_named (codes "content-length") field)
    (is_named (codes "transfer-encoding") field) (is_named (codes "connection") field) s field

-- what is known behind these fields
abbrev pub survey_after : Survey → List Field → Survey
survey_after s [] = s
survey_after s (field ∷ fields) = survey_after (add_field s field) fields

-- what is known of no fields
abbrev pub no_survey : Survey
no_survey =
    record {
      long_name = false;
      hosts = 0;
      has_length = false;
      lengths = Unread;
      has_coding = false;
      codings = Unnamed;
      removes = false;
      close = false;
    }

-- what is known of the fields
abbrev pub survey_of : List Field → Survey
survey_of fields = survey_after no_survey fields

-- ---- the rows, asked of a survey

-- there is one length
abbrev pub are_one : Lengths → Bool
are_one Unread = false
are_one (One n) = true
are_one Differing = false

-- there is one coding, `chunked`
abbrev pub are_chunked : Codings → Bool
are_chunked Unnamed = false
are_chunked Chunked = true
are_chunked Unknown = false

-- the length that is declared
abbrev pub declared_by : Lengths → Option ℕ
declared_by Unread = None
declared_by (One n) = Some n
declared_by Differing = None

-- as many Host fields as the version asks for
abbrev pub hosts_are_good : ℕ → Survey → Bool
hosts_are_good minor s = if minor == 1 then s.hosts == 1 else nat_lt s.hosts 2

-- the fields that frame the body contradict each other or the version
abbrev pub framing_fails : ℕ → Survey → Bool
framing_fails minor s =
    s.has_coding && (minor == 0 || s.has_length) || s.has_length && not (are_one s.lengths)

-- the rows on framing
abbrev pub framing_row : (minor : ℕ) → Survey → Option HeadWhy
framing_row minor s =
    if framing_fails minor s then Some why.Framing
    else if s.has_coding && not (are_chunked s.codings) then Some why.Coding
    else None

-- the first row in front of the weight that applies
abbrev pub row_of : (method : List ℕ) → (minor : ℕ) → (fits : Bool) → Survey → Option HeadWhy
row_of method minor fits s =
    if s.long_name then Some why.Name
    else if not (hosts_are_good minor s && fits) then Some why.Host
    else if bytes_eq method (codes "CONNECT") then Some why.Method
    else framing_row minor s

-- the same for a response
abbrev pub response_row_of : (status : ℕ) → (minor : ℕ) → Survey → Option HeadWhy
response_row_of status minor s =
    if s.long_name then Some why.Name
    else if status == 101 then Some why.Method
    else framing_row minor s
