use Rattle.std.proofs.Common.{◌≡◌, drop}
use Rattle.header_ops.specs.Walk.{values_left, values_onwards}
use Rattle.header_ops.proofs.walk.next_value.Given as goal

-- those that are left are the same
abbrev pub invariant-loop-at : goal.invariant-loop-at
invariant-loop-at l = values_onwards l.name l.within (drop l.at l.msg.blocks) ≡ values_left l.name l.msg.blocks l.fn.place
