use Rattle.std.proofs.Common.{◌≡◌, ◌+◌, length}
use Rattle.header_ops.specs.Lists.{fulls_named}
use Rattle.header_ops.proofs.Whole.{fulls_among}
use Rattle.header_ops.proofs.fulls.count_fulls.Given as goal

-- those so far, and those of the headers that are left
abbrev pub invariant-loop-field : goal.invariant-loop-field
invariant-loop-field l = l.count + length (fulls_among l.name l.field-iterator) ≡ length (fulls_named l.name l.msg.blocks)
