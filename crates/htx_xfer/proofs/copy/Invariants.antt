use Rattle.std.proofs.Common.{◌≡◌, ◌≤◌, length, take}
use Rattle.htx_model.specs.Flow.{added, AreFilled}
use Rattle.htx_xfer.specs.Moved.{payload}
use Rattle.htx_xfer.proofs.copy.Given as goal

abbrev pub invariant-loop-at : goal.invariant-loop-at
invariant-loop-at l = record {
  to_is : l.to.blocks ≡ added l.fn.to.blocks (take l.at l.from.blocks);
  bytes : l.bytes ≡ payload (take l.at l.from.blocks);
  filled : AreFilled (take l.at l.from.blocks);
  within : l.bytes ≤ l.limit;
  size : l.to.size ≡ l.fn.to.size;
  some : l.at ≤ length l.from.blocks;
}
