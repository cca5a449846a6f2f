use Rattle.std.proofs.Common.{◌≡◌, ◌-◌, length, take}
use Rattle.header_ops.specs.Lists.{values_named}
use Rattle.header_ops.specs.Walk.{from_back}
use Rattle.header_ops.proofs.back.value_from_back.Given as goal

-- it stands among those of the blocks that are not passed
abbrev pub invariant-loop-passed : goal.invariant-loop-passed
invariant-loop-passed l = from_back (values_named l.name (take (length l.msg.blocks - l.passed) l.msg.blocks)) l.left ≡ from_back (values_named l.name l.msg.blocks) l.fn.n
