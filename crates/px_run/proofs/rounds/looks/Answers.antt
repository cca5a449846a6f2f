use Rattle.px_link.specs.Net.{address_of}
use Rattle.px_proxyproto.specs.Meeting.{source_in}
use Rattle.px_run.proofs.Stories.{goes_asked, goes_weaker}
use Rattle.px_run.specs.Connection.{◌∘◌}
use Rattle.px_run.proofs.rounds.looks.Goals as goal

pub returns-in-Err-expire_all-clause-goes : goal.returns-in-Err-expire_all-clause-goes
returns-in-Err-expire_all-clause-goes g c = λ cfg begun writes before h.
    goes_weaker (g.C.Machine.meaning ∘ g.C.ResetsFor.for_peer cfg ∘ source_in) (g.C.Machine.stands ∘ g.C.ResetsFor.for_peer cfg ∘ source_in) g.C.Machine.seen g.C.Machine.sound g.C.Machine.rested g.L.Link.seen g.L.Link.wrote g.L.HasPair.tells c.args.plan.now.accepts_header c.args.plan.now.logs c.args.plan.now.opening g.N.Net.seen (address_of c.args.plan.now.to.now) begun writes before _ _ (g.N.Net.seen c.visits.new.net) _ _ c.expire_all.new.hall
    (goes_asked (g.C.Machine.meaning ∘ g.C.ResetsFor.for_peer cfg ∘ source_in) (g.C.Machine.stands ∘ g.C.ResetsFor.for_peer cfg ∘ source_in) g.C.Machine.seen g.C.Machine.sound g.C.Machine.rested g.L.Link.seen g.L.Link.wrote g.L.HasPair.tells c.args.plan.now.accepts_header c.args.plan.now.logs c.args.plan.now.opening g.N.Net.seen (address_of c.args.plan.now.to.now) begun writes before _ _ (g.N.Net.seen c.visits.new.net) _ _ c.visits.new.hall c.expire_all.new.hall c.expire_all.ensures.asked (c.in-Ok.ensures.goes cfg begun writes before h))

pub returns-clause-goes : goal.returns-clause-goes
returns-clause-goes g c = λ cfg begun writes before h.
    goes_weaker (g.C.Machine.meaning ∘ g.C.ResetsFor.for_peer cfg ∘ source_in) (g.C.Machine.stands ∘ g.C.ResetsFor.for_peer cfg ∘ source_in) g.C.Machine.seen g.C.Machine.sound g.C.Machine.rested g.L.Link.seen g.L.Link.wrote g.L.HasPair.tells c.args.plan.now.accepts_header c.args.plan.now.logs c.args.plan.now.opening g.N.Net.seen (address_of c.args.plan.now.to.now) begun writes before _ _ (g.N.Net.seen c.visits.new.net) _ _ c.free_one.new.hall
    (goes_asked (g.C.Machine.meaning ∘ g.C.ResetsFor.for_peer cfg ∘ source_in) (g.C.Machine.stands ∘ g.C.ResetsFor.for_peer cfg ∘ source_in) g.C.Machine.seen g.C.Machine.sound g.C.Machine.rested g.L.Link.seen g.L.Link.wrote g.L.HasPair.tells c.args.plan.now.accepts_header c.args.plan.now.logs c.args.plan.now.opening g.N.Net.seen (address_of c.args.plan.now.to.now) begun writes before _ _ (g.N.Net.seen c.visits.new.net) _ _ c.expire_all.new.hall c.free_one.new.hall c.free_one.ensures.asked
    (goes_asked (g.C.Machine.meaning ∘ g.C.ResetsFor.for_peer cfg ∘ source_in) (g.C.Machine.stands ∘ g.C.ResetsFor.for_peer cfg ∘ source_in) g.C.Machine.seen g.C.Machine.sound g.C.Machine.rested g.L.Link.seen g.L.Link.wrote g.L.HasPair.tells c.args.plan.now.accepts_header c.args.plan.now.logs c.args.plan.now.opening g.N.Net.seen (address_of c.args.plan.now.to.now) begun writes before _ _ (g.N.Net.seen c.visits.new.net) _ _ c.visits.new.hall c.expire_all.new.hall c.expire_all.ensures.asked (c.in-Ok.ensures.goes cfg begun writes before h)))
