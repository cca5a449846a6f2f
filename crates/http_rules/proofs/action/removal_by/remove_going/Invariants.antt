use Rattle.std.proofs.Common.{◌≡◌, ◌≤◌, ◌-◌, ◌++◌, take, drop, length}
use Rattle.http_rules.specs.Action.Steps.{by_pattern}
use Rattle.http_rules.specs.Action.Going.{without_going}
use Rattle.http_rules.proofs.action.removal_by.remove_going.Given as goal

-- the blocks so far are those that stay, and those that are left are as they were
abbrev pub invariant-loop-at : goal.invariant-loop-at
invariant-loop-at l = record {
  within : l.at ≤ length l.msg.blocks;
  rest : take l.at l.msg.blocks ++ without_going (by_pattern l.pat) (drop l.at l.msg.blocks) ≡ without_going (by_pattern l.pat) l.initial.msg.blocks;
  size : l.msg.size ≡ l.initial.msg.size;
  cap : l.lower.cap ≡ l.initial.lower.cap;
}

abbrev pub decreases-loop-at : goal.decreases-loop-at
decreases-loop-at l = length l.msg.blocks - l.at
