-- What is made of a head: the rows that may refuse it, in their order, and what is kept of it. Most rows ask the minor
-- version and the fields alone, and are those of requests and of responses
-- (RFC 9110 sections 7.2 and 7.6.1, RFC 9112 sections 3.2, 6.1 and 6.3).
use Rattle.std.specs.Prelude.{ℕ, ◌-◌, List, [], ◌∷◌, Bool, true, false, ◌&&◌, ◌||◌, not, if◌then◌else◌, ◌==◌, nat_lt, map, filter, length, Option, Some, None, Result, Ok, Err, codes, decimal}
use Rattle.std.specs.List.{list_any, list_all}
use Rattle.std.specs.Str.{str_to_ascii_lowercase, bytes_eq}
use Rattle.httparse.specs.Grammar.{print_version}
use Rattle.htx_model.specs.Blocks.{load}
use Rattle.http_model.specs.declared.Framing.{Framing}
use Rattle.http_model.specs.declared.Framing.TheVariants as framing
use Rattle.http_model.specs.declared.Limits.{Limits}
use Rattle.http_model.specs.Head.{Field, StartLine, RequestLine, StatusLine, Head, head_blocks}
use Rattle.http_model.specs.Fields.{same_name, is_named, is_named_among, has_field, fields_named}
use Rattle.http_model.specs.Reading.{Received}
use Rattle.uri_parts.specs.Authority.{is_authority}
use Rattle.uri_parts.specs.Same.{host_agrees}
use Rattle.uri_parts.specs.Forms.{target_fits}
use Rattle.px_bytes.specs.Numbers.{decimal_of}
use Rattle.px_bytes.specs.Values.{values_in}
use Rattle.http_model.specs.Sizes.{most_name}
use Rattle.h1_head.specs.Numbers.{most_digits}
use Rattle.h1_head.specs.declared.answer.HeadWhy.{HeadWhy}
use Rattle.h1_head.specs.declared.answer.HeadWhy.TheVariants as why
use Rattle.h1_head.specs.Names.{lasting_names}

-- the parts of a request head as they were sent; the version is HTTP/1 and this minor number
pub record Parts : Type 0 where
  pub method : List ℕ
  pub target : List ℕ
  pub minor : ℕ
  pub fields : List Field

-- the parts of a response head: the number that its three digits give, and the phrase, which may be empty
pub record ResponseParts : Type 0 where
  pub minor : ℕ
  pub status : ℕ
  pub reason : List ℕ
  pub fields : List Field

-- the elements of all fields of this name, in order
abbrev pub elements_named : List ℕ → List Field → List (List ℕ)
elements_named name fields = values_in (map (λ field. field.1) (fields_named name fields))

-- some element of Connection is this word, without regard to case
abbrev pub has_option : List ℕ → List Field → Bool
has_option word fields = list_any (λ element. same_name element word) (elements_named (codes "connection") fields)

-- ---- the rows

-- a name has more than 255 bytes
abbrev pub has_long_name : List Field → Bool
has_long_name fields = list_any (λ field. nat_lt most_name (length field.0)) fields

-- HTTP/1.1 asks for one Host field, and HTTP/1.0 allows one
abbrev pub host_is_good : (minor : ℕ) → List Field → Bool
host_is_good minor fields =
    let hosts = length (fields_named (codes "host") fields) in
    if minor == 1 then hosts == 1 else nat_lt hosts 2

-- there is a number, and it is this one
abbrev pub is_number : ℕ → Option ℕ → Bool
is_number n None = false
is_number n (Some m) = n == m

-- the element is this number, in 1 to 18 digits
abbrev pub is_length : ℕ → List ℕ → Bool
is_length n element = is_number n (decimal_of most_digits element)

-- the number of a first element, where each other element is that number
abbrev pub if_all_are : Option ℕ → List (List ℕ) → Option ℕ
if_all_are None elements = None
if_all_are (Some n) elements = if list_all (is_length n) elements then Some n else None

-- the number that each element is; none where one is no number of 1 to 18 digits, or two differ
abbrev pub one_length : List (List ℕ) → Option ℕ
one_length [] = None
one_length (element ∷ elements) = if_all_are (decimal_of most_digits element) elements

-- the length that the Content-Length fields declare
abbrev pub declared_length : List Field → Option ℕ
declared_length fields = one_length (elements_named (codes "content-length") fields)

-- there is no number
abbrev pub is_none : Option ℕ → Bool
is_none None = true
is_none (Some n) = false

-- Transfer-Encoding in HTTP/1.0 or beside Content-Length, or a Content-Length that is not one number
abbrev pub framing_is_bad : (minor : ℕ) → List Field → Bool
framing_is_bad minor fields =
    has_field (codes "transfer-encoding") fields && (minor == 0 || has_field (codes "content-length") fields)
    || has_field (codes "content-length") fields && is_none (declared_length fields)

-- the one coding is `chunked`
abbrev pub is_chunked_alone : List (List ℕ) → Bool
is_chunked_alone [] = false
is_chunked_alone (coding ∷ []) = same_name coding (codes "chunked")
is_chunked_alone (coding ∷ other ∷ codings) = false

-- the element has a byte
abbrev pub is_nonempty : List ℕ → Bool
is_nonempty element = nat_lt 0 (length element)

-- a Transfer-Encoding whose nonempty elements are anything but one `chunked`
abbrev pub coding_is_unknown : List Field → Bool
coding_is_unknown fields =
    has_field (codes "transfer-encoding") fields
    && not (is_chunked_alone (filter is_nonempty (elements_named (codes "transfer-encoding") fields)))

-- ---- what is kept

-- the field stays: its name is a lasting one, or no element of Connection
abbrev pub is_kept : List Field → Field → Bool
is_kept fields field = is_named_among lasting_names field || not (has_option field.0 fields)

-- the name in lower case
abbrev pub folded : Field → Field
folded field = (str_to_ascii_lowercase field.0, field.1)

-- a head without the fields that Connection names, with names in lower case
abbrev pub kept_head : StartLine → List Field → Head
kept_head line fields = record { line = line; fields = map folded (filter (is_kept fields) fields) }

-- chunks where a coding is named, else as many bytes as are declared, else what a message has that tells neither
abbrev pub framing_told : (untold : Framing) → (coded : Bool) → (declared : Option ℕ) → Framing
framing_told untold true declared = framing.Chunked
framing_told untold false (Some n) = framing.Length n
framing_told untold false None = untold

-- how the fields frame a body
abbrev pub framing_of : (untold : Framing) → List Field → Framing
framing_of untold fields = framing_told untold (has_field (codes "transfer-encoding") fields) (declared_length fields)

-- what is kept of a head that no row refuses
abbrev pub kept_reading : StartLine → Framing → List Field → Received
kept_reading line framed fields =
    record {
      head = kept_head line fields;
      framing = framed;
      declared = declared_length fields;
      close = has_option (codes "close") fields;
    }

-- ---- the decision

-- the rows on framing, in their order
abbrev pub framing_refusal : (minor : ℕ) → List Field → Option HeadWhy
framing_refusal minor fields =
    if framing_is_bad minor fields then Some why.Framing
    else if coding_is_unknown fields then Some why.Coding
    else None

-- what is kept of the head weighs more than it may
abbrev pub is_over : Limits → StartLine → List Field → Bool
is_over limits line fields = nat_lt (limits.bufsize - limits.maxrewrite) (load (head_blocks (kept_head line fields)))

-- the refusal where there is one, else what follows
abbrev pub unless_refused : Option HeadWhy → Result Received HeadWhy → Result Received HeadWhy
unless_refused None otherwise = otherwise
unless_refused (Some why) otherwise = Err why

-- behind the rows comes the weight, and where nothing refuses the head is kept
unfoldable pub decided : Option HeadWhy → Framing → Limits → StartLine → List Field → Result Received HeadWhy
decided refusal framed limits line fields =
    unless_refused refusal (if is_over limits line fields then Err why.Receive else Ok (kept_reading line framed fields))

-- ---- a request

abbrev pub request_line : Parts → StartLine
request_line p = RequestLine p.method p.target (print_version p.minor)

-- the field is not named Host, or its value is empty or an authority, and that of the target where the target has one
abbrev pub is_host_for : (target : List ℕ) → Field → Bool
is_host_for target field =
    not (is_named (codes "host") field) || (is_authority field.1 && host_agrees target field.1)

-- each Host field may stand beside this target
abbrev pub hosts_fit : (target : List ℕ) → List Field → Bool
hosts_fit target fields = list_all (is_host_for target) fields

-- the target has a form that its method may have, and each Host field may stand beside it
unfoldable pub fits_target : Parts → Bool
fits_target p = target_fits p.method p.target && hosts_fit p.target p.fields

-- there are as many Host fields as the version asks for, and target and Host name one authority
abbrev pub host_is_one : Parts → Bool
host_is_one p = host_is_good p.minor p.fields && fits_target p

-- the first row in front of the weight that applies
abbrev pub refusal_of : Parts → Option HeadWhy
refusal_of p =
    if has_long_name p.fields then Some why.Name
    else if not (host_is_one p) then Some why.Host
    else if bytes_eq p.method (codes "CONNECT") then Some why.Method
    else framing_refusal p.minor p.fields

-- the rows in their order: the first that applies decides. A request that tells no length has no body.
abbrev pub decision : Limits → Parts → Result Received HeadWhy
decision limits p = decided (refusal_of p) (framing_of framing.Absent p.fields) limits (request_line p) p.fields

-- the status code with which a request is refused
abbrev pub request_code : HeadWhy → ℕ
request_code why.Method = 501
request_code why.Coding = 501
request_code _ = 400

-- ---- a response

abbrev pub status_line : ResponseParts → StartLine
status_line p = StatusLine (print_version p.minor) (decimal p.status) p.reason

-- the first row in front of the weight that applies: no Host is asked for, and 101 would switch protocols
abbrev pub response_refusal_of : ResponseParts → Option HeadWhy
response_refusal_of p =
    if has_long_name p.fields then Some why.Name
    else if p.status == 101 then Some why.Method
    else framing_refusal p.minor p.fields

-- no body follows a head with this status, whatever its fields say (RFC 9112 section 6.3)
abbrev pub has_no_content : (status : ℕ) → Bool
has_no_content status = nat_lt status 200 || status == 204 || status == 304

-- none where none follows, or HEAD was asked; else as the fields say, and up to the close where they say nothing
abbrev pub response_framing_of : (head_asked : Bool) → ResponseParts → Framing
response_framing_of head_asked p =
    if head_asked || has_no_content p.status then framing.Absent else framing_of framing.ToClose p.fields

abbrev pub response_decision : (head_asked : Bool) → Limits → ResponseParts → Result Received HeadWhy
response_decision head_asked limits p =
    decided (response_refusal_of p) (response_framing_of head_asked p) limits (status_line p) p.fields

-- the status code with which a response is refused
abbrev pub response_code : HeadWhy → ℕ
response_code why = 502
