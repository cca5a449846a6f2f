-- The HTTP head that the fields of an application are (RFC 3875 section 6.3).
use Rattle.std.specs.Prelude.{ℕ, ◌-◌, Bool, not, ◌&&◌, if◌then◌else◌, ◌==◌, nat_le, nat_lt, List, [], ◌∷◌, length, take, drop, map, filter, Option, Some, None, codes}
use Rattle.std.specs.Str.{str_to_ascii_lowercase}
use Rattle.http_model.specs.Head.{Field, StatusLine}
use Rattle.http_model.specs.Fields.{is_named_among}
use Rattle.http_model.specs.Refusal.{reason_of}
use Rattle.http_model.specs.Spelling.{head_text}
use Rattle.px_bytes.specs.Numbers.{decimal_of}
use Rattle.fcgi_model.specs.Head.{first_value}
use Rattle.fcgi_lane.specs.Answer.Section.{section_at}

-- ---- the status

-- three digits and a reason
abbrev pub Status : Type 0
Status = List ℕ × List ℕ

-- the table's reason in place of an empty one
abbrev pub reason_or : (code : ℕ) → List ℕ → List ℕ
reason_or code [] = reason_of code
reason_or code (b ∷ reason) = b ∷ reason

-- what stands behind the code: nothing, or a space and the reason
abbrev pub reason_in : (code : ℕ) → List ℕ → Option (List ℕ)
reason_in code [] = Some (reason_of code)
reason_in code (b ∷ reason) = if b == 32 then Some (reason_or code reason) else None

abbrev pub with_digits : List ℕ → Option (List ℕ) → Option Status
with_digits digits None = None
with_digits digits (Some reason) = Some (digits, reason)

-- a code is 200 to 999
abbrev pub with_code : (digits behind : List ℕ) → Option ℕ → Option Status
with_code digits behind None = None
with_code digits behind (Some code) = if nat_lt code 200 then None else with_digits digits (reason_in code behind)

-- the status that a value is: three digits, and what stands behind them
abbrev pub status_in : List ℕ → Option Status
status_in value = if nat_lt (length value) 3 then None else with_code (take 3 value) (drop 3 value) (decimal_of 3 (take 3 value))

-- without a status it is 302 where there is a location, and else 200
abbrev pub status_unless : (location : Option (List ℕ)) → Option Status
status_unless None = Some (codes "200", reason_of 200)
status_unless (Some location) = Some (codes "302", reason_of 302)

abbrev pub status_or : List Field → Option (List ℕ) → Option Status
status_or fields None = status_unless (first_value (codes "location") fields)
status_or fields (Some value) = status_in value

-- the status of an answer with these fields; none where the first `status` is no status
abbrev pub status_of : List Field → Option Status
status_of fields = status_or fields (first_value (codes "status") fields)

-- ---- the head

-- the fields that are no matter of the application: its status, and what is said of one connection
abbrev pub kept_back : List (List ℕ)
kept_back = codes "status" ∷ codes "transfer-encoding" ∷ codes "connection" ∷ []

abbrev pub is_passed : Field → Bool
is_passed field = not (is_named_among kept_back field)

abbrev pub in_lower_case : Field → Field
in_lower_case field = (str_to_ascii_lowercase field.0, field.1)

-- the fields that pass on, in order, with their names in lower case
abbrev pub passed : List Field → List Field
passed fields = map in_lower_case (filter is_passed fields)

-- status line, fields and the empty line
unfoldable pub http_head : (digits reason : List ℕ) → List Field → List ℕ
http_head digits reason fields = head_text (record { line = StatusLine (codes "HTTP/1.1") digits reason; fields = passed fields })

-- fields that a head may have
abbrev pub most_fields : ℕ
most_fields = 256

-- a head, and what follows it
abbrev pub Headed : Type 0
Headed = List ℕ × List ℕ

abbrev pub with_status : List Field → (rest : List ℕ) → Option Status → Option Headed
with_status fields rest None = None
with_status fields rest (Some status) = Some (http_head status.0 status.1 fields, rest)

-- a section of at most so many bytes and 256 fields, in front of these bytes
abbrev pub headed_by : (limit all : ℕ) → Option (List Field × List ℕ) → Option Headed
headed_by limit all None = None
headed_by limit all (Some (fields, rest)) =
    if nat_le (all - length rest) limit && nat_le (length fields) most_fields then with_status fields rest (status_of fields) else None

-- the HTTP head that a text begins with, and what follows; none where it has none within the limits
abbrev pub head_at : (limit : ℕ) → List ℕ → Option Headed
head_at limit text = headed_by limit (length text) (section_at text)
