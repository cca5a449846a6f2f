-- How a message is spelled on a connection (RFC 9112 sections 3 to 7).
use Rattle.std.specs.Prelude.{◌≡◌, ◌≢◌, ℕ, List, [], ◌∷◌, ◌++◌, Bool, true, false, All, codes, length}
use Rattle.std.specs.List.{flat_map}
use Rattle.std.specs.Fmt.{digits}
use Rattle.http_model.specs.declared.Framing.{Framing}
use Rattle.http_model.specs.declared.Framing.TheVariants.{Absent, Length, Chunked, ToClose}
use Rattle.http_model.specs.Head.{Field, StartLine, RequestLine, StatusLine, Head, Message}

abbrev pub line_end : List ℕ
line_end = codes "\r\n"

abbrev pub line_text : StartLine → List ℕ
line_text (RequestLine method target version) = method ++ 32 ∷ target ++ codes " HTTP/1.1\r\n"
line_text (StatusLine version status reason) = codes "HTTP/1.1 " ++ status ++ 32 ∷ reason ++ codes "\r\n"

abbrev pub field_text : Field → List ℕ
field_text field = field.0 ++ codes ": " ++ field.1 ++ codes "\r\n"

abbrev pub fields_text : List Field → List ℕ
fields_text fields = flat_map field_text fields

-- the one text of a head: its line, its fields, the empty line
abbrev pub head_text : Head → List ℕ
head_text head = line_text head.line ++ fields_text head.fields ++ codes "\r\n"

-- the line in front of a chunk, or of the end of the chunks: its size in lower-case hexadecimal (RFC 9112 section 7.1)
abbrev pub chunk_line : ℕ → List ℕ
chunk_line size = digits 16 false size ++ codes "\r\n"

abbrev pub chunk_text : List ℕ → List ℕ
chunk_text chunk = chunk_line (length chunk) ++ chunk ++ codes "\r\n"

-- the last chunk, the trailer section and the empty line
abbrev pub chunks_end : List Field → List ℕ
chunks_end trailers = chunk_line 0 ++ fields_text trailers ++ codes "\r\n"

-- nonempty chunks that join to the body; the cuts between them are free
pub record SpellsChunks (body text : List ℕ) : Type 0 where
  pub chunks : List (List ℕ)
  pub nonempty : All (λ chunk. chunk ≢ []) chunks
  pub joined : flat_map (λ chunk. chunk) chunks ≡ body
  pub spelled : text ≡ flat_map chunk_text chunks

-- The text of a body. One that is cut lacks what follows the bytes that came.
abbrev pub SpellsBody : (whole : Bool) → Framing → (body : List ℕ) → (trailers : List Field) → (text : List ℕ) → Type 0
SpellsBody whole Absent body trailers text = text ≡ []
SpellsBody whole (Length n) body trailers text = text ≡ body
SpellsBody whole ToClose body trailers text = text ≡ body
SpellsBody true Chunked body trailers text =
    (front : List ℕ) × SpellsChunks body front × (text ≡ front ++ chunks_end trailers)
SpellsBody false Chunked body trailers text = SpellsChunks body text

-- nothing stands behind the head where no body is to be written
abbrev pub SpellsBodyUnless : (no_body whole : Bool) → Message → (text : List ℕ) → Type 0
SpellsBodyUnless true whole m text = text ≡ []
SpellsBodyUnless false whole m text = SpellsBody whole m.framing m.body m.trailers text

-- the text spells the message: whole, or cut behind the body bytes that came
pub record Spells (whole no_body : Bool) (m : Message) (text : List ℕ) : Type 0 where
  pub body : List ℕ
  pub spelled : text ≡ head_text m.head ++ body
  pub spells_body : SpellsBodyUnless no_body whole m body
