use Rattle.std.proofs.Common.{◌≡◌, ◌+◌, length, slice_get}
use Rattle.px_bytes.specs.Values.{values_of}
use Rattle.header_ops.proofs.values.value_at.Given as goal

-- the value stands among those that are left
abbrev pub invariant-loop-value : goal.invariant-loop-value
invariant-loop-value l = record {
  same : slice_get l.value-iterator l.left ≡ slice_get (values_of l.field) l.n;
  passed : l.left + length (values_of l.field) ≡ l.n + length l.value-iterator;
}
