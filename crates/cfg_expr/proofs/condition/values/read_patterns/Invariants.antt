use Rattle.std.proofs.Common.{◌≡◌, ◌+◌, ◌≤◌, [], length}
use Rattle.cfg_expr.specs.Condition.Tests.{patterns_from}
use Rattle.cfg_expr.proofs.Readings.{Leads}
use Rattle.cfg_expr.proofs.condition.values.read_patterns.Given as goal

abbrev pub invariant-each : goal.invariant-each
invariant-each g l = record {
  few : length l.values + length l.words ≤ 64;
  leads : Leads (patterns_from l.fn.icase [] l.fn.words) (patterns_from l.fn.icase l.values l.words);
  same : g.P.Patterns.refusals l.pats ≡ g.P.Patterns.refusals l.fn.pats;
}

abbrev pub decreases-each : goal.decreases-each
decreases-each g l = length l.words
