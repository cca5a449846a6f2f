use Rattle.std.proofs.Common.{refl, ap, ◌+◌, ◌∙◌}
use Rattle.px_proxyproto.specs.Meeting.{source_in}
use Rattle.px_run.proofs.Asked.{same_by, same_then}
use Rattle.px_run.proofs.Callers.{for_new}
use Rattle.px_run.proofs.Stays.{of_new, stand_new_at}
use Rattle.px_run.specs.Connection.{◌∘◌}
use Rattle.px_run.proofs.accepts.take_in.Goals as goal

pub returns-clause-stands : goal.returns-clause-stands
returns-clause-stands g c = λ cfg to visits n h.
    stand_new_at (g.C.Machine.meaning ∘ g.C.ResetsFor.for_peer cfg ∘ source_in) (g.C.Machine.stands ∘ g.C.ResetsFor.for_peer cfg ∘ source_in) g.C.Machine.seen g.C.Machine.sound g.C.Machine.rested g.L.Link.seen g.L.Link.wrote g.L.HasPair.tells c.args.plan.now.accepts_header c.args.plan.now.opening g.N.Net.seen to visits c.args.hall.now.places.items c.args.hall.now.sets.items c.args.place c.args.link c.args.own _ c.put.new.at c.requires.within c.requires.none c.put.ensures (ap (λ k. k + 1) n) c.requires.own
    (of_new (g.C.Machine.meaning ∘ g.C.ResetsFor.for_peer cfg ∘ source_in) (g.C.Machine.stands ∘ g.C.ResetsFor.for_peer cfg ∘ source_in) g.C.Machine.seen g.C.Machine.sound g.C.Machine.rested g.L.Link.seen g.L.Link.wrote g.L.HasPair.tells c.args.plan.now.accepts_header c.args.plan.now.opening g.N.Net.seen to visits c.args.link c.args.own _ (ap (λ k. k + 1) n) c.new.ensures.ran
    (for_new (g.C.Machine.meaning ∘ g.C.ResetsFor.for_peer cfg ∘ source_in) (g.C.Machine.stands ∘ g.C.ResetsFor.for_peer cfg ∘ source_in) g.C.Machine.seen g.C.Machine.sound g.C.Machine.rested g.L.Link.seen g.L.Link.wrote g.L.HasPair.tells c.args.plan.now.opening g.N.Net.seen c.args.link to (g.N.Net.seen c.args.own) c.args.plan.now.accepts_header _ _ _ _ _ _ c.caller_of-caller.ensures (same_then g.L.Link.seen g.L.Link.wrote c.args.link c.watch_client.new.link _ (record { told = c.watch_client.ensures.seen; written = c.watch_client.ensures.wrote }) (same_by g.L.Link.seen g.L.Link.wrote c.watch_client.new.link _ c.new.ensures.client)) (ap g.N.Net.seen c.new.ensures.net ∙ c.introduce.ensures) c.new.ensures.server c.new.ensures.ran refl)) h
