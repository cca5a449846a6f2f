use Rattle.std.proofs.Common.{◌≡◌, ◌+◌, ◌≤◌, ℕ, length}
use Rattle.cfg_expr.specs.Condition.Conditions.{groups_of, groups_from}
use Rattle.cfg_expr.proofs.Readings.{Leads}
use Rattle.cfg_expr.proofs.condition.conditions.read_groups.Given as goal

-- the words that are left make of the groups so far what all words make, and no build was refused so far
abbrev pub invariant-each : goal.invariant-each
invariant-each g l = record {
  most : ℕ;
  steps : l._at + most ≡ length l.fn.words;
  few : length l.groups.whole + length l.groups.terms ≤ l._at;
  leads : Leads (groups_of l.fn.acls.side l.fn.acls.lines.now l.fn.words) (groups_from l.fn.acls.side l.fn.acls.lines.now most l.groups l.left);
  same : g.P.Patterns.refusals l.pats ≡ g.P.Patterns.refusals l.fn.pats;
}
