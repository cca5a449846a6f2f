use Rattle.std.proofs.Common.{rules, ◌≡◌, ◌<◌, length, get_or, refl}
use Rattle.px_link.specs.Net.{address_of}
use Rattle.px_proxyproto.specs.Meeting.{source_in}
use Rattle.px_run.specs.History.{IsLogged}
use Rattle.px_run.proofs.Logs.{more_none}
use Rattle.px_run.proofs.Stays.{placed_at, looks_at, looks_idle}
use Rattle.px_run.specs.Connection.{◌∘◌}
use Rattle.px_run.proofs.hall.look_here.Goals as goal

pub look_at-requires-clause-at : goal.look_at-requires-clause-at
look_at-requires-clause-at g c =
    let q = c.requires.stands in
    let w : c.args.pace.now.place < length c.args.hall.now.places.items = search rules in
    let e : get_or c.args.hall.now.places.items c.args.pace.now.place c.index_mut.result.now ≡ c.index_mut.result.now = search rules in
    (q.0, q.1, q.2.fresh, placed_at (g.C.Machine.meaning ∘ g.C.ResetsFor.for_peer q.0 ∘ source_in) (g.C.Machine.stands ∘ g.C.ResetsFor.for_peer q.0 ∘ source_in) g.C.Machine.seen g.C.Machine.sound g.C.Machine.rested g.L.Link.seen g.L.Link.wrote g.L.HasPair.tells c.args.plan.now.accepts_header c.args.plan.now.opening g.N.Net.seen (address_of c.args.plan.now.to.now) q.1 c.args.hall.now.places.items c.args.hall.now.sets.items c.args.pace.now.place c.index_mut.result.now w e q.2)

pub returns-clause-stands : goal.returns-clause-stands
returns-clause-stands g c = λ cfg visits h.
    let w : c.args.pace.now.place < length c.args.hall.now.places.items = search rules in
    let e : get_or c.args.hall.now.places.items c.args.pace.now.place c.index_mut.result.now ≡ c.index_mut.result.now = search rules in
    let one = placed_at (g.C.Machine.meaning ∘ g.C.ResetsFor.for_peer cfg ∘ source_in) (g.C.Machine.stands ∘ g.C.ResetsFor.for_peer cfg ∘ source_in) g.C.Machine.seen g.C.Machine.sound g.C.Machine.rested g.L.Link.seen g.L.Link.wrote g.L.HasPair.tells c.args.plan.now.accepts_header c.args.plan.now.opening g.N.Net.seen (address_of c.args.plan.now.to.now) visits c.args.hall.now.places.items c.args.hall.now.sets.items c.args.pace.now.place c.index_mut.result.now w e h in
    looks_at (g.C.Machine.meaning ∘ g.C.ResetsFor.for_peer cfg ∘ source_in) (g.C.Machine.stands ∘ g.C.ResetsFor.for_peer cfg ∘ source_in) g.C.Machine.seen g.C.Machine.sound g.C.Machine.rested g.L.Link.seen g.L.Link.wrote g.L.HasPair.tells c.args.plan.now.accepts_header c.args.plan.now.opening g.N.Net.seen (address_of c.args.plan.now.to.now) c.look_at.result visits c.args.hall.now.places.items c.args.hall.now.sets.items c.look_at.new.sets.items c.args.pace.now.place c.index_mut.result.now c.look_at.new.at w e
    c.look_at.ensures.looked (c.look_at.ensures.placed cfg visits h.fresh one) c.look_at.ensures.ready (c.look_at.ensures.fresh cfg visits h.fresh one) h

pub returns-then-place-len-clause-stands : goal.returns-then-place-len-clause-stands
returns-then-place-len-clause-stands g c = λ cfg visits h. (visits, looks_idle (g.C.Machine.meaning ∘ g.C.ResetsFor.for_peer cfg ∘ source_in) (g.C.Machine.stands ∘ g.C.ResetsFor.for_peer cfg ∘ source_in) g.C.Machine.seen g.C.Machine.sound g.C.Machine.rested g.L.Link.seen g.L.Link.wrote g.L.HasPair.tells c.args.plan.now.accepts_header c.args.plan.now.opening g.N.Net.seen (address_of c.args.plan.now.to.now) _ visits (λ number ran. refl), h)

pub returns-clause-logs : goal.returns-clause-logs
returns-clause-logs g c = λ cfg visits h.
    let w : c.args.pace.now.place < length c.args.hall.now.places.items = search rules in
    let e : get_or c.args.hall.now.places.items c.args.pace.now.place c.index_mut.result.now ≡ c.index_mut.result.now = search rules in
    let one = placed_at (g.C.Machine.meaning ∘ g.C.ResetsFor.for_peer cfg ∘ source_in) (g.C.Machine.stands ∘ g.C.ResetsFor.for_peer cfg ∘ source_in) g.C.Machine.seen g.C.Machine.sound g.C.Machine.rested g.L.Link.seen g.L.Link.wrote g.L.HasPair.tells c.args.plan.now.accepts_header c.args.plan.now.opening g.N.Net.seen (address_of c.args.plan.now.to.now) visits c.args.hall.now.places.items c.args.hall.now.sets.items c.args.pace.now.place c.index_mut.result.now w e h in
    c.look_at.ensures.logs cfg visits h.fresh one

pub returns-then-place-len-clause-logs : goal.returns-then-place-len-clause-logs
returns-then-place-len-clause-logs g c = λ cfg visits h. more_none (IsLogged (g.C.Machine.meaning ∘ g.C.ResetsFor.for_peer cfg ∘ source_in) (g.C.Machine.stands ∘ g.C.ResetsFor.for_peer cfg ∘ source_in) g.C.Machine.seen g.L.Link.seen g.L.Link.wrote g.L.HasPair.tells c.args.plan.now.accepts_header c.args.plan.now.logs c.args.plan.now.opening g.N.Net.seen (address_of c.args.plan.now.to.now) visits) c.args.hall.now.tools.log.text.items
