use Rattle.std.proofs.Common.{◌≡◌, ◌+◌, ◌≤◌, ◌++◌, length}
use Rattle.cfg_expr.specs.Condition.Values.{literals}
use Rattle.cfg_expr.proofs.condition.values.read_literals.Given as goal

abbrev pub invariant-each : goal.invariant-each
invariant-each l = record {
  few : length l.values + length l.words ≤ 64;
  joined : literals l.fn.words ≡ l.values ++ literals l.words;
}

abbrev pub decreases-each : goal.decreases-each
decreases-each l = length l.words
