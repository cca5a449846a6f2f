use Rattle.std.proofs.Common.{ℕ, List, ◌-◌}
use Rattle.px_proxyproto.specs.Greeting.{GreetsSoFar}
use Rattle.px_proxyproto.proofs.greeting.greet.Given as goal

abbrev pub invariant-reads : goal.invariant-reads
invariant-reads g l = record {
  so_far : GreetsSoFar l.greeter (g.L.Link.seen l.fn.link) (g.L.Link.seen l.link);
  wrote : (bytes : List ℕ) → g.L.Link.wrote l.fn.link bytes → g.L.Link.wrote l.link bytes;
}

abbrev pub decreases-reads : goal.decreases-reads
decreases-reads g l = 65551 - l.greeter.count
