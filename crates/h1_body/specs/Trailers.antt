-- Trailers as blocks of an array.
use Rattle.std.specs.Prelude.{ℕ, ◌≤◌, List, length, map}
use Rattle.httparse.specs.declared.spans.HeaderSpan.{HeaderSpan}
use Rattle.httparse.specs.Spans.{span_bytes}
use Rattle.htx_model.specs.Block.{Block}
use Rattle.http_model.specs.Head.{Field, trailer_block, ended_trailers}
use Rattle.http_model.specs.Sizes.{most_name}
use Rattle.h1_body.specs.Section.{kept}

-- the blocks of these trailers
abbrev pub trailer_blocks : List Field → List Block
trailer_blocks trailers = ended_trailers (map trailer_block trailers)

-- the blocks of the fields that stay
abbrev pub kept_blocks : List Field → List Block
kept_blocks fields = map trailer_block (kept fields)

-- the span of a name covers 1 to 255 bytes
pub record HasGoodName (text : List ℕ) (field : HeaderSpan) : Type 0 where
  pub named : 1 ≤ length (span_bytes text field.name)
  pub short : length (span_bytes text field.name) ≤ most_name
