use Rattle.px_proxyproto.proofs.greeting.greet.Goals as goal

pub returns-in-Some-clause-greets : goal.returns-in-Some-clause-greets
returns-in-Some-clause-greets g c = c.in-Some.ensures.goes (g.L.Link.seen c.args.link.now) c.reads.invariant.so_far
