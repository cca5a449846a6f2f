use Rattle.std.proofs.Common.{◌≡◌, ◌+◌, ◌-◌, ℕ, length}
use Rattle.cfg_expr.specs.Formats.{parts_at, parts_from}
use Rattle.cfg_expr.proofs.Readings.{Leads}
use Rattle.cfg_expr.proofs.formats.read_parts.Given as goal

-- what is left of the text gives what all of it gives, and no build was refused so far
abbrev pub invariant-each : goal.invariant-each
invariant-each g l = record {
  most : ℕ;
  count : length l.parts + most ≡ 64;
  leads : Leads (parts_at l.fn.side l.fn.text) (parts_from l.fn.side most l.parts l.rest);
  same : g.P.Patterns.refusals l.pats ≡ g.P.Patterns.refusals l.fn.pats;
}

abbrev pub decreases-each : goal.decreases-each
decreases-each g l = 64 - length l.parts
