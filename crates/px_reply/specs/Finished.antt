-- A finished head as an edit of a list of blocks: what frames a message goes, and other fields stand behind the rest.
use Rattle.std.specs.Prelude.{ℕ, List, [], ◌∷◌, ◌++◌, Bool, if◌then◌else◌, codes, sum_by}
use Rattle.http_model.specs.Block.{Block, Header, weight}
use Rattle.http_model.specs.Head.{Field}
use Rattle.http_model.specs.Finish.{chunked_field, close_fields}
use Rattle.header_ops.specs.Headers.{is_framing_header, with_header, without_framing}
use Rattle.px_reply.specs.declared.framing.Told.{Told}
use Rattle.px_reply.specs.declared.framing.Told.TheVariants.{Nothing, Length, Chunked}

-- what the block weighs where it frames the message or speaks of its connection, else 0
abbrev pub weight_if_framing : Block → ℕ
weight_if_framing block = if is_framing_header block then weight block else 0

-- the fields that tell a framing
abbrev pub told_fields : Told → List Field
told_fields Nothing = []
told_fields (Length digits) = (codes "content-length", digits.now) ∷ []
told_fields Chunked = chunked_field ∷ []

-- fields behind the others, each in front of the end of the headers
abbrev pub with_headers : List Field → List Block → List Block
with_headers [] blocks = blocks
with_headers (field ∷ fields) blocks = with_headers fields (with_header (Header field.0 field.1) blocks)

-- the list as it is sent: these fields and `connection: close` stand where what framed it stood no longer
abbrev pub finished : List Field → (close : Bool) → List Block → List Block
finished fields close blocks = with_headers (fields ++ close_fields close) (without_framing blocks)

-- what fields weigh
abbrev pub fields_load : List Field → ℕ
fields_load fields = sum_by (λ field. weight (Header field.0 field.1)) fields
