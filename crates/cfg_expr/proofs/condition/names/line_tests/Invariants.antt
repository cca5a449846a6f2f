use Rattle.std.proofs.Common.{◌≡◌, ◌≤◌, [], drop, length}
use Rattle.cfg_expr.specs.Condition.Lines.{tests_from}
use Rattle.cfg_expr.proofs.condition.names.line_tests.Given as goal

-- the lines that are left make of the tests so far what all lines make
abbrev pub invariant-each : goal.invariant-each
invariant-each l = record {
  few : length l.tests ≤ l.at;
  left : tests_from l.fn.side l.name [] l.lines ≡ tests_from l.fn.side l.name l.tests (drop l.at l.lines);
}
