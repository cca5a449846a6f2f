-- Replies, field by field.
use Rattle.std.proofs.Common.{◌≡◌, ℕ, List, refl, arith}
use Rattle.std.specs.Prelude.{Option, Some, None}
use Rattle.http_model.specs.Block.{Block}
use Rattle.http_model.specs.Blocks.{Fits}
use Rattle.http_model.specs.Head.{Field, head_blocks}
use Rattle.http_model.specs.Reply.{told_length, told_type, reply_head}
use Rattle.header_ops.specs.Headers.{HasEnd}
use Rattle.px_reply.specs.Finished.{with_headers}
use Rattle.px_reply.proofs.Weights.{load-with_headers}

-- the length and the type behind a status line
pub headed : (code : ℕ) (t : Option (List ℕ)) (n : Option ℕ)
    → with_headers (told_type t) (with_headers (told_length n) (head_blocks (reply_head code None None))) ≡ head_blocks (reply_head code t n)
headed code None None = refl
headed code None (Some n) = refl
headed code (Some t) None = refl
headed code (Some t) (Some n) = refl

-- a list that fits with more fields fits without them
pub less_fits : (fs : List Field) (bs : List Block) (size : ℕ) → HasEnd bs → Fits (with_headers fs bs) size → Fits bs size
less_fits fs bs size h fits = omega (arith, fits, load-with_headers fs bs h)

pub ruleset heads = (headed, less_fits)

pub ruleset redirects = (less_fits)
