-- What is kept of a request's head as it was received.
use Rattle.std.specs.Prelude.{◌≡◌, ℕ, List, Bool, false, ◌&&◌, Option, Some, None, codes}
use Rattle.std.specs.Str.{bytes_eq}
use Rattle.htx_model.specs.Block.{Block, Header}
use Rattle.http_model.specs.declared.Framing.{Framing}
use Rattle.http_model.specs.Fields.{same_name}
use Rattle.http_model.specs.Head.{head_blocks}
use Rattle.http_model.specs.Reading.{Received}
use Rattle.h1_head.specs.Lines.{IsRequestLine}
use Rattle.session_model.specs.Meaning.{is_head_request, is_http_11, keeps, is_bodiless}
use Rattle.session_core.specs.Awaits.{awaits_continue}
use Rattle.forward_core.specs.declared.request.kept.Kept.{Kept}

-- a line of the method HEAD
abbrev pub is_head_line : Option (List ℕ × List ℕ × List ℕ) → Bool
is_head_line None = false
is_head_line (Some line) = bytes_eq line.0 (codes "HEAD")

-- a line of HTTP/1.1
abbrev pub is_11_line : Option (List ℕ × List ℕ × List ℕ) → Bool
is_11_line None = false
is_11_line (Some line) = bytes_eq line.2 (codes "HTTP/1.1")

-- the block is an `expect` field of `100-continue`, both without regard to case
unfoldable pub is_expectation : Block → Bool
is_expectation (Header name value) = same_name name (codes "expect") && same_name value (codes "100-continue")
is_expectation block = false

-- the head that was received stands in these blocks; its body is framed so, and of its Connection elements one is `close` or none
pub record StandsIn (received : Received) (list : List Block) (framed : Framing) (closes : Bool) : Type 0 where
  pub line : IsRequestLine received.head.line
  pub blocks : list ≡ head_blocks received.head
  pub framing : framed ≡ received.framing
  pub close : closes ≡ received.close

-- what is kept is of this head
pub record IsKept (received : Received) (kept : Kept) : Type 0 where
  pub head_asked : kept.head_asked ≡ is_head_request received.head
  pub is_http_11 : kept.is_http_11 ≡ is_http_11 received.head
  pub keep : kept.keep ≡ keeps received
  pub awaits : kept.awaits ≡ awaits_continue received
  pub is_bodiless : kept.is_bodiless ≡ is_bodiless received.framing
