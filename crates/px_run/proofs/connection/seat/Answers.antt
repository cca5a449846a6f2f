use Rattle.std.proofs.Common.{rules, ap}
use Rattle.px_proxyproto.specs.Meeting.{source_in}
use Rattle.px_run.specs.Callers.{pair_of}
use Rattle.px_run.proofs.Looks.{seated_at}
use Rattle.px_run.proofs.connection.seat.Goals as goal

pub returns-clause-at : goal.returns-clause-at
returns-clause-at g c = λ cfg first to first_net f h.
    seated_at (g.C.Machine.meaning (g.C.ResetsFor.for_peer cfg (source_in (pair_of c.args.connection.now.caller)))) (g.C.Machine.stands (g.C.ResetsFor.for_peer cfg (source_in (pair_of c.args.connection.now.caller)))) g.C.Machine.seen g.C.Machine.sound g.C.Machine.rested g.L.Link.seen g.L.Link.wrote first to (g.N.Net.seen first_net) _ _ _ _ _ _ _ _ _ _ c.sit_down.result (search rules) c.requires.goes_on c.sit_down.ensures.client c.sit_down.ensures.server (ap g.N.Net.seen c.sit_down.ensures.net) c.sit_down.ensures.ran
    c.sit_down.ensures.none (λ e. let t = c.sit_down.ensures.took e in (t.0, t.1, (t.2.0.0, t.2.0.1, t.2.1 cfg f))) h
