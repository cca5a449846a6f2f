use Rattle.std.proofs.Common.{◌≡◌, take, sum_by, min}
use Rattle.cfg_expr.specs.Condition.Conditions.{tests_in, most_count}
use Rattle.cfg_expr.proofs.condition.counts.count_tests.Given as goal

abbrev pub invariant-each : goal.invariant-each
invariant-each l = l.count ≡ min (sum_by (sum_by tests_in) (take l.at l.cond.groups)) most_count
