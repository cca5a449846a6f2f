use Rattle.std.proofs.Common.{◌≡◌, ◌≤◌, [], false, length, take}
use Rattle.htx_model.specs.Blocks.{data_overhead}
use Rattle.htx_model.specs.Flow.{added}
use Rattle.htx_xfer.proofs.stands_apart.Given as goal

abbrev pub invariant-loop-at : goal.invariant-loop-at
invariant-loop-at l = record {
  some : l.at ≤ length l.from.blocks;
  apart : added [] (take l.at l.from.blocks) ≡ take l.at l.from.blocks;
  last : l.was_data ≡ false → data_overhead (take l.at l.from.blocks) ≡ 8;
}
