use Rattle.std.proofs.Common.{◌≤◌, length}
use Rattle.case_rows.proofs.bodies.bodies.read.Given as goal

abbrev pub invariant-loop-turn : goal.invariant-loop-turn
invariant-loop-turn l = record { within : l.used ≤ l.end; inside : l.end ≤ length l.text }
