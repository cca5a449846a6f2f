use Rattle.std.proofs.Common.{◌≡◌, drop}
use Rattle.std.specs.List.{list_any}
use Rattle.header_ops.specs.Headers.{is_header_named}
use Rattle.header_ops.proofs.names.has_named.Given as goal

-- the answer depends on the blocks that are left
abbrev pub invariant-loop-at : goal.invariant-loop-at
invariant-loop-at l = list_any (is_header_named l.name) (drop l.at l.msg.blocks) ≡ list_any (is_header_named l.name) l.msg.blocks
