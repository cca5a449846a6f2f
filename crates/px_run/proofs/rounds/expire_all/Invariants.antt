use Rattle.px_run.specs.Hall.{AllAsked}
use Rattle.px_run.proofs.rounds.expire_all.Given as goal

abbrev pub invariant-loop-place : goal.invariant-loop-place
invariant-loop-place g l = AllAsked g.L.Link.seen g.L.Link.wrote g.N.Net.seen l.initial.hall l.hall
