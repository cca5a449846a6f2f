-- What a recipient reads in the text of a message, whatever follows it (RFC 9112 sections 2 to 7). It has no limits of size.
use Rattle.std.specs.Prelude.{◌≡◌, ℕ, ◌+◌, ◌<◌, ◌≤◌, ◌^◌, List, [], ◌++◌, true, false, length, All, ⊤, Option, IsUtf8}
use Rattle.std.specs.List.{flat_map}
use Rattle.std.specs.Char.{is_ascii_digit}
use Rattle.std.specs.Str.{str_to_ascii_lowercase}
use Rattle.std.specs.Str.Parse.{AllDigits, digits_value}
use Rattle.httparse.specs.Grammar as grammar
use Rattle.httparse.specs.Grammar.{IsToken, AllPass, is_uri_byte, is_value_byte, is_ows, print_extension, LineEnd, ReadsSection}
use Rattle.http_model.specs.declared.Framing.{Framing}
use Rattle.http_model.specs.declared.Framing.TheVariants.{Absent, Length, Chunked, ToClose}
use Rattle.http_model.specs.Head.{Field, StartLine, RequestLine, StatusLine, Head, Message}
use Rattle.http_model.specs.declared.Ending.TheVariants.{Closed}
use Rattle.http_model.specs.declared.Limits.{Limits}
use Rattle.http_model.specs.Reading.{Whole}
use Rattle.http_model.specs.Sizes.{most_name}
use Rattle.http_model.specs.Spelling.{fields_text}
use Rattle.px_bytes.specs.Blanks.{trimmed}
use Rattle.h1_head.specs.Kind.{request_heads, response_heads, parts_of, response_parts_of}
use Rattle.h1_body.specs.Chunked.{Each, IsExtension, Chunk, print_chunk, line_end}
use Rattle.h1_body.specs.Section.{is_kept, trailers_of, section_limit}
use Rattle.h1_body.specs.Numbers.{most_trailers}
use Rattle.h1_body.specs.BodyOf.{BodyOf}

-- ---- a finished message

-- a name that is a token in lower case, and a value without blanks around it and without control bytes but tabs
pub record IsFinishedField (field : Field) : Type 0 where
  pub name : IsToken field.0
  pub lower : str_to_ascii_lowercase field.0 ≡ field.0
  pub trim : trimmed field.1 ≡ field.1
  pub clean : AllPass is_value_byte field.1

-- a trailer that no reader drops
pub record IsFinishedTrailer (field : Field) : Type 0 where
  pub finished : IsFinishedField field
  pub kept : is_kept field ≡ true

-- a method that is a token, and a target of visible bytes
pub record IsFinishedRequest (method target : List ℕ) : Type 0 where
  pub token : IsToken method
  pub some : 0 < length target
  pub visible : AllPass is_uri_byte target
  pub text : IsUtf8 target

-- a status of three digits from 100 on, and a reason without control bytes but tabs
pub record IsFinishedStatus (status reason : List ℕ) : Type 0 where
  pub three : length status ≡ 3
  pub digits : AllPass is_ascii_digit status
  pub least : 100 ≤ digits_value 10 status
  pub clean : AllPass is_value_byte reason

abbrev pub IsFinishedLine : StartLine → Type 0
IsFinishedLine (RequestLine method target version) = IsFinishedRequest method target
IsFinishedLine (StatusLine version status reason) = IsFinishedStatus status reason

pub record IsFinishedHead (head : Head) : Type 0 where
  pub line : IsFinishedLine head.line
  pub fields : All IsFinishedField head.fields

-- as many bytes as the framing says, and trailers behind chunks alone
abbrev pub IsFramed : Framing → (body : List ℕ) → (trailers : List Field) → Type 0
IsFramed Absent body trailers = (body ≡ []) × (trailers ≡ [])
IsFramed (Length n) body trailers = (length body ≡ n) × (trailers ≡ [])
IsFramed Chunked body trailers = (length body < 2 ^ 64) × All IsFinishedTrailer trailers
IsFramed ToClose body trailers = trailers ≡ []

pub record IsFinished (m : Message) : Type 0 where
  pub head : IsFinishedHead m.head
  pub framed : IsFramed m.framing m.body m.trailers

-- ---- what is read

-- The bytes are a head with this line and these fields, and then rest. Each message is written in HTTP/1.1.
abbrev pub ReadsHead : StartLine → List Field → (bytes rest : List ℕ) → Type 0
ReadsHead (RequestLine method target version) fields bytes rest =
    (h : grammar.RequestHead) × request_heads.Reads bytes h rest
    × (parts_of h ≡ record { method = method; target = target; minor = 1; fields = fields })
ReadsHead (StatusLine version status reason) fields bytes rest =
    (h : grammar.ResponseHead) × (response_heads false).Reads bytes h rest
    × (response_parts_of h ≡ record { minor = 1; status = digits_value 10 status; reason = reason; fields = fields })

-- 1*HEXDIG *( SP / HTAB ) [ ";" extension ] CR LF, of this size (RFC 9112 section 7.1)
pub record IsSizeLine (line : List ℕ) (n : ℕ) : Type 0 where
  pub digits : List ℕ
  pub pad : List ℕ
  pub extension : Option (List ℕ)
  pub spelled : line ≡ digits ++ (pad ++ (print_extension extension ++ line_end))
  pub some : 0 < length digits
  pub hex : AllDigits 16 digits
  pub size : n ≡ digits_value 16 digits
  pub blanks : Each is_ows pad
  pub text : IsExtension extension

pub record IsSizedChunk (chunk : Chunk) : Type 0 where
  pub some : 0 < length chunk.bytes
  pub line : IsSizeLine chunk.line (length chunk.bytes)

-- chunks, the last chunk and a trailer section, and then rest (RFC 9112 sections 7.1 and 7.1.2)
pub record ReadsChunked (body : List ℕ) (trailers : List Field) (bytes rest : List ℕ) : Type 0 where
  pub chunks : List Chunk
  pub last : List ℕ
  pub section : List ℕ
  pub fields : List grammar.Field
  pub end : LineEnd
  pub each : All IsSizedChunk chunks
  pub zero : IsSizeLine last 0
  pub spelled : bytes ≡ flat_map print_chunk chunks ++ (last ++ section)
  pub joined : body ≡ flat_map (λ chunk. chunk.bytes) chunks
  pub reads : ReadsSection section fields end rest
  pub kept : trailers ≡ trailers_of fields

-- the bytes are a body of this framing with these trailers, and then rest (RFC 9112 section 6.3)
abbrev pub ReadsBody : Framing → (body : List ℕ) → (trailers : List Field) → (bytes rest : List ℕ) → Type 0
ReadsBody Absent body trailers bytes rest = (body ≡ []) × (trailers ≡ []) × (bytes ≡ rest)
ReadsBody (Length n) body trailers bytes rest = (length body ≡ n) × (trailers ≡ []) × (bytes ≡ body ++ rest)
ReadsBody Chunked body trailers bytes rest = ReadsChunked body trailers bytes rest
ReadsBody ToClose body trailers bytes rest = (trailers ≡ []) × (bytes ≡ body) × (rest ≡ [])

-- the bytes are the message, and then rest
pub record ReadsMessage (m : Message) (bytes rest : List ℕ) : Type 0 where
  pub behind : List ℕ
  pub head : ReadsHead m.head.line m.head.fields bytes behind
  pub body : ReadsBody m.framing m.body m.trailers behind rest

-- ---- within the limits of the readers here

-- chunks of fewer than 2 ^ 32 bytes, and a trailer section within the limits
pub record IsChunkedWithin (limits : Limits) (body : List ℕ) (trailers : List Field) : Type 0 where
  pub small : length body < 2 ^ 32
  pub few : length trailers ≤ most_trailers
  pub named : All (λ trailer. length trailer.0 ≤ most_name) trailers
  pub short : length (fields_text trailers) + 2 ≤ section_limit limits

abbrev pub IsWithin : Limits → Framing → (body : List ℕ) → (trailers : List Field) → Type 0
IsWithin limits Absent body trailers = ⊤
IsWithin limits (Length n) body trailers = ⊤
IsWithin limits Chunked body trailers = IsChunkedWithin limits body trailers
IsWithin limits ToClose body trailers = ⊤

-- the bytes are the message, and then rest, as a reader with these limits reads a closed stream
pub record IsRead (limits : Limits) (m : Message) (bytes rest : List ℕ) : Type 0 where
  pub behind : List ℕ
  pub head : ReadsHead m.head.line m.head.fields bytes behind
  pub body : BodyOf limits m.framing behind Closed (Whole m.body m.trailers rest)
