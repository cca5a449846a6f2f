use Rattle.std.proofs.Common.{◌≡◌, ◌+◌, ◌-◌, ℕ, length}
use Rattle.cfg_expr.specs.Exprs.{convs_at, convs_from}
use Rattle.cfg_expr.proofs.Readings.{Leads}
use Rattle.cfg_expr.proofs.converters.read_convs.Given as goal

-- what is left of the text gives what all of it gives, and no build was refused so far
abbrev pub invariant-each : goal.invariant-each
invariant-each g l = record {
  most : ℕ;
  count : length l.convs + most ≡ 16;
  leads : Leads (convs_at l.fn.text) (convs_from most l.convs l.rest);
  same : g.P.Patterns.refusals l.pats ≡ g.P.Patterns.refusals l.fn.pats;
}

abbrev pub decreases-each : goal.decreases-each
decreases-each g l = 16 - length l.convs
