use Rattle.std.proofs.Common.{◌≡◌, drop}
use Rattle.header_ops.specs.Matching.{has_part}
use Rattle.header_ops.proofs.matching.has_part.Given as goal

-- the answer depends on the bytes that are left
abbrev pub invariant-loop-at : goal.invariant-loop-at
invariant-loop-at l = has_part (drop l.at l.name) l.part ≡ has_part l.name l.part
