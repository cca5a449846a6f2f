use Rattle.std.proofs.Common.{◌≡◌, take}
use Rattle.cfg_expr.proofs.condition.copies.copy_convs.Given as goal

abbrev pub invariant-each : goal.invariant-each
invariant-each l = l.copied ≡ take l.at l.convs
