use Rattle.std.proofs.Common.{◌≡◌, slice_get}
use Rattle.header_ops.specs.Lists.{values_named}
use Rattle.header_ops.proofs.Listed.{values_among}
use Rattle.header_ops.proofs.values.nth_value.Given as goal

-- the value stands among those of the headers that are left
abbrev pub invariant-loop-field : goal.invariant-loop-field
invariant-loop-field l = slice_get (values_among l.name l.field-iterator) l.left ≡ slice_get (values_named l.name l.msg.blocks) l.n
