use Rattle.std.proofs.Common.{◌≡◌, ◌+◌, drop}
use Rattle.cfg_print.specs.Pairs as spec
use Rattle.cfg_print.proofs.pairs.plain_count.Given as goal

-- those so far stand in front
abbrev pub invariant-loop-at : goal.invariant-loop-at
invariant-loop-at l = l.at + spec.plain_count l.names (drop l.at l.rules) ≡ spec.plain_count l.names l.rules
