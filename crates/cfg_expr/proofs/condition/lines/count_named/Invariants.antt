use Rattle.std.proofs.Common.{◌≡◌, ◌≤◌, take}
use Rattle.std.specs.Prelude.{count_by}
use Rattle.cfg_expr.specs.Condition.Lines.{is_named}
use Rattle.cfg_expr.proofs.condition.lines.count_named.Given as goal

abbrev pub invariant-each : goal.invariant-each
invariant-each l = record {
  few : l.count ≤ l.at;
  counted : l.count ≡ count_by (is_named l.name) (take l.at l.lines);
}
