use Rattle.std.proofs.Common.{◌≡◌, drop}
use Rattle.header_ops.specs.Lists.{fulls_named}
use Rattle.header_ops.proofs.walk.next_full.Given as goal

-- those that are left are the same
abbrev pub invariant-loop-at : goal.invariant-loop-at
invariant-loop-at l = fulls_named l.name (drop l.at l.msg.blocks) ≡ fulls_named l.name (drop l.from l.msg.blocks)
