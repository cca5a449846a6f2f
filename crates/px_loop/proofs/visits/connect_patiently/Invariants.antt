use Rattle.std.proofs.Common.{◌≡◌}
use Rattle.px_loop.proofs.visits.connect_patiently.Given as goal

abbrev pub invariant-loop : goal.invariant-loop
invariant-loop g l = (g.N.Net.seen l.net).lent ≡ (g.N.Net.seen l.initial.net).lent
