-- The head of a message and the message itself (RFC 9112 section 2.1), and both as blocks of an array.
use Rattle.std.specs.Prelude.{ℕ, List, [], ◌∷◌, ◌++◌, map}
use Rattle.http_model.specs.declared.Framing.{Framing}
use Rattle.htx_model.specs.Block.{Block, Header, EndHeaders, Trailer, EndTrailers}
use Rattle.htx_model.specs.Block as block
use Rattle.htx_model.specs.Blocks.{append_data}

-- a field: its name and its value (RFC 9112 section 5)
abbrev pub Field : Type 0
Field = List ℕ × List ℕ

-- the start line of a head (RFC 9112 sections 3 and 4)
pub data StartLine : Type 0 where
  RequestLine : (method target version : List ℕ) → StartLine
  StatusLine : (version status reason : List ℕ) → StartLine

-- a start line and its fields, in order
pub record Head : Type 0 where
  pub line : StartLine
  pub fields : List Field

-- a head, how its body is framed, the bytes of the body, and the fields of its trailer section
pub record Message : Type 0 where
  pub head : Head
  pub framing : Framing
  pub body : List ℕ
  pub trailers : List Field

-- the message with another head
abbrev pub with_head : Message → Head → Message
with_head m head = record { head = head; framing = m.framing; body = m.body; trailers = m.trailers }

-- ---- as blocks of an array

abbrev pub line_block : StartLine → Block
line_block (RequestLine method target version) = block.RequestLine method target version
line_block (StatusLine version status reason) = block.ResponseLine version status reason

abbrev pub header_block : Field → Block
header_block field = Header field.0 field.1

-- the blocks of a head: its line, its fields, the end of the headers
abbrev pub head_blocks : Head → List Block
head_blocks head = line_block head.line ∷ (map header_block head.fields ++ EndHeaders ∷ [])

abbrev pub trailer_block : Field → Block
trailer_block field = Trailer field.0 field.1

-- the blocks of a head, and the data of a body behind it, where there is some
abbrev pub front_blocks : Head → (body : List ℕ) → List Block
front_blocks head body = head_blocks head ++ append_data [] body

-- trailers with their end behind them; nothing where there is none
abbrev pub ended_trailers : List Block → List Block
ended_trailers [] = []
ended_trailers (trailer ∷ trailers) = (trailer ∷ trailers) ++ EndTrailers ∷ []

-- the blocks of a message: line, fields, end of headers, its data in one block, trailers, end of trailers
abbrev pub message_blocks : Message → List Block
message_blocks m = front_blocks m.head m.body ++ ended_trailers (map trailer_block m.trailers)
