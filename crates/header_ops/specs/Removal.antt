-- The headers that one of the removals takes out.
use Rattle.std.specs.Prelude.{List, Bool, not, filter}
use Rattle.http_model.specs.Block.{Block}
use Rattle.header_ops.specs.Headers.{is_header_named, is_framing_header}
use Rattle.header_ops.specs.Matching.{is_header_matching}
use Rattle.header_ops.specs.declared.remove.Taken.{Taken}
use Rattle.header_ops.specs.declared.remove.Taken.TheVariants.{Named, Framing, Matching}

-- the block is one of them
abbrev pub is_taken : Taken → Block → Bool
is_taken (Named name) block = is_header_named name.now block
is_taken Framing block = is_framing_header block
is_taken (Matching which) block = is_header_matching which.now block

-- each of them goes
abbrev pub without_taken : Taken → List Block → List Block
without_taken taken blocks = filter (λ block. not (is_taken taken block)) blocks
