use Rattle.std.proofs.Common.{◌≡◌, ◌≤◌, ◌-◌, ◌++◌, take, drop, length}
use Rattle.header_ops.specs.Removal.{without_taken}
use Rattle.header_ops.proofs.remove.remove_taken.Given as goal

-- the blocks so far are those that stay, and those that are left are as they were
abbrev pub invariant-loop-at : goal.invariant-loop-at
invariant-loop-at l = record {
  within : l.at ≤ length l.msg.blocks;
  rest : take l.at l.msg.blocks ++ without_taken l.taken (drop l.at l.msg.blocks) ≡ without_taken l.taken l.initial.msg.blocks;
  size : l.msg.size ≡ l.initial.msg.size;
}

abbrev pub decreases-loop-at : goal.decreases-loop-at
decreases-loop-at l = length l.msg.blocks - l.at
