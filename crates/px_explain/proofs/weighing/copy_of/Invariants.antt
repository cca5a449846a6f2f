use Rattle.std.proofs.Common.{◌≡◌, ◌≤◌, length, take}
use Rattle.http_model.specs.Sizes.{most_size}
use Rattle.px_explain.proofs.weighing.copy_of.Given as goal

-- the copy has the blocks in front of this one
abbrev pub invariant-loop-at : goal.invariant-loop-at
invariant-loop-at l = record {
  blocks : l.copy.blocks ≡ take l.at l.msg.blocks;
  size : l.copy.size ≡ most_size;
  some : l.at ≤ length l.msg.blocks;
}
