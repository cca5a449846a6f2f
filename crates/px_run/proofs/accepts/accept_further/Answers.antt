use Rattle.px_proxyproto.specs.Meeting.{source_in}
use Rattle.std.proofs.Common.{true}
use Rattle.px_run.specs.Connection.{◌∘◌}
use Rattle.px_run.proofs.Stories.{goes_asked}
use Rattle.px_run.proofs.accepts.accept_further.Goals as goal

pub returns-in-Ok-clause-goes : goal.returns-in-Ok-clause-goes
returns-in-Ok-clause-goes g c = λ cfg to begun writes writes_now before after h. c.accept_next.ensures.goes cfg to begun writes writes_now before after (goes_asked (g.C.Machine.meaning ∘ g.C.ResetsFor.for_peer cfg ∘ source_in) (g.C.Machine.stands ∘ g.C.ResetsFor.for_peer cfg ∘ source_in) g.C.Machine.seen g.C.Machine.sound g.C.Machine.rested g.L.Link.seen g.L.Link.wrote g.L.HasPair.tells c.args.plan.now.accepts_header c.args.plan.now.logs c.args.plan.now.opening g.N.Net.seen to begun writes before true true (g.N.Net.seen c.args.net.now) writes_now after c.args.hall.now c.add_place.new.hall c.add_place.ensures.asked h)

pub returns-in-Err-clause-goes : goal.returns-in-Err-clause-goes
returns-in-Err-clause-goes g c = λ cfg to begun writes writes_now before after h. goes_asked (g.C.Machine.meaning ∘ g.C.ResetsFor.for_peer cfg ∘ source_in) (g.C.Machine.stands ∘ g.C.ResetsFor.for_peer cfg ∘ source_in) g.C.Machine.seen g.C.Machine.sound g.C.Machine.rested g.L.Link.seen g.L.Link.wrote g.L.HasPair.tells c.args.plan.now.accepts_header c.args.plan.now.logs c.args.plan.now.opening g.N.Net.seen to begun writes before true true (g.N.Net.seen c.args.net.now) writes_now after c.args.hall.now c.add_place.new.hall c.add_place.ensures.asked h
