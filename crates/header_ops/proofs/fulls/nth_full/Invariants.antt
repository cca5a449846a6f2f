use Rattle.std.proofs.Common.{◌≡◌, slice_get}
use Rattle.header_ops.specs.Lists.{fulls_named}
use Rattle.header_ops.proofs.Whole.{fulls_among}
use Rattle.header_ops.proofs.fulls.nth_full.Given as goal

-- those so far, and those of the headers that are left
abbrev pub invariant-loop-field : goal.invariant-loop-field
invariant-loop-field l = slice_get (fulls_among l.name l.field-iterator) l.left ≡ slice_get (fulls_named l.name l.msg.blocks) l.n
