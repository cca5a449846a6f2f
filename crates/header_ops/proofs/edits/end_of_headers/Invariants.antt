use Rattle.std.proofs.Common.{◌≡◌, ◌++◌, take, drop}
use Rattle.http_model.specs.Block.{Block}
use Rattle.header_ops.specs.Headers.{with_header, HasEnd}
use Rattle.header_ops.proofs.edits.end_of_headers.Given as goal

-- the end is not among the blocks so far
abbrev pub invariant-loop-at : goal.invariant-loop-at
invariant-loop-at l = record {
  end : HasEnd (drop l.at l.msg.blocks);
  place : (field : Block) → with_header field l.msg.blocks ≡ take l.at l.msg.blocks ++ with_header field (drop l.at l.msg.blocks);
}
