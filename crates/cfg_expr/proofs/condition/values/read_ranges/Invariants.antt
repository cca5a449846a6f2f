use Rattle.std.proofs.Common.{◌≡◌, ◌+◌, ◌≤◌, length}
use Rattle.cfg_expr.specs.Condition.Values.{no_ranges, ranges_from}
use Rattle.cfg_expr.proofs.condition.values.read_ranges.Given as goal

-- the words that are left make of the values so far what all words make
abbrev pub invariant-each : goal.invariant-each
invariant-each l = record {
  few : length l.ranges.values + length l.words ≤ 64;
  left : ranges_from no_ranges l.fn.words ≡ ranges_from l.ranges l.words;
}

abbrev pub decreases-each : goal.decreases-each
decreases-each l = length l.words
