use Rattle.std.proofs.Common.{◌≡◌, slice_get}
use Rattle.px_bytes.specs.Values.{values_of}
use Rattle.header_ops.proofs.back.value_at.Given as goal

-- the value stands among those that are left
abbrev pub invariant-loop-value : goal.invariant-loop-value
invariant-loop-value l = slice_get l.value-iterator l.left ≡ slice_get (values_of l.field) l.index
