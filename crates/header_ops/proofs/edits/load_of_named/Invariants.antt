use Rattle.std.proofs.Common.{◌≡◌, ◌≤◌, ◌+◌, take, length}
use Rattle.http_model.specs.Blocks.{load}
use Rattle.header_ops.specs.Headers.{without_headers}
use Rattle.header_ops.proofs.edits.load_of_named.Given as goal

-- of the blocks so far, those of the name and the others weigh as much as all
abbrev pub invariant-loop-at : goal.invariant-loop-at
invariant-loop-at l = record {
  within : l.at ≤ length l.msg.blocks;
  parted : l.sum + load (without_headers l.name (take l.at l.msg.blocks)) ≡ load (take l.at l.msg.blocks);
}
