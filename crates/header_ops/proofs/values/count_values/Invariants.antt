use Rattle.std.proofs.Common.{◌≡◌, ◌+◌, length}
use Rattle.header_ops.specs.Lists.{values_named}
use Rattle.header_ops.proofs.Listed.{values_among}
use Rattle.header_ops.proofs.values.count_values.Given as goal

-- those so far and those of the headers that are left
abbrev pub invariant-loop-field : goal.invariant-loop-field
invariant-loop-field l = l.count + length (values_among l.name l.field-iterator) ≡ length (values_named l.name l.msg.blocks)
