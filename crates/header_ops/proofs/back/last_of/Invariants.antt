use Rattle.std.proofs.Common.{◌≡◌, length}
use Rattle.px_bytes.specs.Values.{values_of}
use Rattle.header_ops.specs.Walk.{from_back}
use Rattle.header_ops.proofs.back.last_of.Given as goal

-- the last value of what is left is the last of all
abbrev pub invariant-values : goal.invariant-values
invariant-values l = from_back (values_of l.rest) 0 ≡ from_back (values_of l.field) 0

abbrev pub decreases-values : goal.decreases-values
decreases-values l = length l.rest
