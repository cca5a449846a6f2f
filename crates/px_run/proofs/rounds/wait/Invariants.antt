use Rattle.px_run.specs.Hall.{AllAsked}
use Rattle.px_run.proofs.rounds.wait.Given as goal

abbrev pub invariant-loop-event : goal.invariant-loop-event
invariant-loop-event g l = AllAsked g.L.Link.seen g.L.Link.wrote g.N.Net.seen l.initial.hall l.hall
