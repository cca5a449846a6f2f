use Rattle.std.proofs.Common.{◌∙◌}
use Rattle.px_link.specs.Net.{address_of}
use Rattle.px_proxyproto.specs.Meeting.{source_in}
use Rattle.px_run.proofs.Halls.{balanced_then, same_net_then}
use Rattle.px_run.proofs.Stories.{goes_weaker}
use Rattle.px_run.specs.Connection.{◌∘◌}
use Rattle.px_run.proofs.rounds.visits.Goals as goal

pub visit_place-requires-clause-goes : goal.visit_place-requires-clause-goes
visit_place-requires-clause-goes g c = let q = c.requires.goes in (q.0, q.1, q.2, q.3, c.loop-at.invariant.goes q.0 q.1 q.2 q.3 q.4)

pub returns-in-Err-again-clause-goes : goal.returns-in-Err-again-clause-goes
returns-in-Err-again-clause-goes g c = λ cfg begun writes before h.
    goes_weaker (g.C.Machine.meaning ∘ g.C.ResetsFor.for_peer cfg ∘ source_in) (g.C.Machine.stands ∘ g.C.ResetsFor.for_peer cfg ∘ source_in) g.C.Machine.seen g.C.Machine.sound g.C.Machine.rested g.L.Link.seen g.L.Link.wrote g.L.HasPair.tells c.args.plan.now.accepts_header c.args.plan.now.logs c.args.plan.now.opening g.N.Net.seen (address_of c.args.plan.now.to.now) begun writes before _ _ (g.N.Net.seen c.visit_place.new.net) _ _ c.visit_place.new.hall (c.in-Ok.ensures.goes cfg begun writes before (c.loop-at.invariant.goes cfg begun writes before h))

pub returns-in-Err-clause-goes : goal.returns-in-Err-clause-goes
returns-in-Err-clause-goes g c = λ cfg begun writes before h. c.in-Err.ensures.goes cfg begun writes before (c.loop-at.invariant.goes cfg begun writes before h)

pub loop-at-preserved : goal.loop-at-preserved
loop-at-preserved g c =
    record {
      goes = λ cfg begun writes before h. c.in-Ok.ensures.goes cfg begun writes before (c.loop-at.invariant.goes cfg begun writes before h);
      accepted = c.visit_place.ensures.accepted ∙ c.loop-at.invariant.accepted;
      balanced = balanced_then (g.N.Net.seen c.args.net.now) (g.N.Net.seen c.loop-at.net) (g.N.Net.seen c.visit_place.new.net) c.args.hall.now.places.items c.loop-at.hall.places.items c.visit_place.new.hall.places.items c.loop-at.invariant.balanced c.visit_place.ensures.balanced;
      net = same_net_then (g.N.Net.seen c.args.net.now) (g.N.Net.seen c.loop-at.net) (g.N.Net.seen c.visit_place.new.net) c.loop-at.invariant.net c.visit_place.ensures.net;
    }
