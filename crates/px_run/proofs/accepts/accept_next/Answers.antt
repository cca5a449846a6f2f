use Rattle.std.proofs.Common.{rules, ◌≡◌, true, false, sym, subst}
use Rattle.px_link.specs.Net.{NetSeen}
use Rattle.px_proxyproto.specs.Meeting.{source_in}
use Rattle.px_run.specs.Hall.{Goes}
use Rattle.px_run.proofs.Texts.{within_one}
use Rattle.px_run.specs.Connection.{◌∘◌}
use Rattle.px_run.proofs.accepts.accept_next.Goals as goal

pub returns-in-Ok-accept_failed-clause-goes : goal.returns-in-Ok-accept_failed-clause-goes
returns-in-Ok-accept_failed-clause-goes g c = λ cfg to begun writes writes_now before after h.
    let P : NetSeen → Type 0 = λ n. Goes (g.C.Machine.meaning ∘ g.C.ResetsFor.for_peer cfg ∘ source_in) (g.C.Machine.stands ∘ g.C.ResetsFor.for_peer cfg ∘ source_in) g.C.Machine.seen g.C.Machine.sound g.C.Machine.rested g.L.Link.seen g.L.Link.wrote g.L.HasPair.tells c.args.plan.now.accepts_header c.args.plan.now.logs c.args.plan.now.opening g.N.Net.seen to true true begun n writes writes_now before after c.args.hall.now in
    c.in-Err-Failed.ensures.goes cfg to begun writes writes_now before after (subst P (sym c.can_accept.ensures.seen) h)

pub returns-in-Err-accept_failed-clause-goes : goal.returns-in-Err-accept_failed-clause-goes
returns-in-Err-accept_failed-clause-goes g c = λ cfg to begun writes writes_now before after h.
    let P : NetSeen → Type 0 = λ n. Goes (g.C.Machine.meaning ∘ g.C.ResetsFor.for_peer cfg ∘ source_in) (g.C.Machine.stands ∘ g.C.ResetsFor.for_peer cfg ∘ source_in) g.C.Machine.seen g.C.Machine.sound g.C.Machine.rested g.L.Link.seen g.L.Link.wrote g.L.HasPair.tells c.args.plan.now.accepts_header c.args.plan.now.logs c.args.plan.now.opening g.N.Net.seen to true true begun n writes writes_now before after c.args.hall.now in
    c.in-Err-Failed.ensures.goes cfg to begun writes writes_now before after (subst P (sym c.can_accept.ensures.seen) h)

pub returns-in-Err-OutOfMemory-clause-goes : goal.returns-in-Err-OutOfMemory-clause-goes
returns-in-Err-OutOfMemory-clause-goes g c = λ cfg to begun writes writes_now before after h.
    let P : NetSeen → Type 0 = λ n. Goes (g.C.Machine.meaning ∘ g.C.ResetsFor.for_peer cfg ∘ source_in) (g.C.Machine.stands ∘ g.C.ResetsFor.for_peer cfg ∘ source_in) g.C.Machine.seen g.C.Machine.sound g.C.Machine.rested g.L.Link.seen g.L.Link.wrote g.L.HasPair.tells c.args.plan.now.accepts_header c.args.plan.now.logs c.args.plan.now.opening g.N.Net.seen to true true begun n writes writes_now before after c.args.hall.now in
    c.in-Err-OutOfMemory.ensures.goes cfg to begun writes writes_now before after (subst P (sym c.can_accept.ensures.seen) h)

pub returns-in-Err-OutOfMemory-clause-within : goal.returns-in-Err-OutOfMemory-clause-within
returns-in-Err-OutOfMemory-clause-within g c =
    let more : c.has_all.result ≡ false = search rules in
    within_one c.args.plan.now.connections c.args.hall.now.accepted c.accept.new.hall.accepted (c.has_all.ensures.within more) c.in-Err-OutOfMemory.ensures.accepted

pub returns-in-Ok-begin-clause-goes : goal.returns-in-Ok-begin-clause-goes
returns-in-Ok-begin-clause-goes g c = λ cfg to begun writes writes_now before after h.
    let P : NetSeen → Type 0 = λ n. Goes (g.C.Machine.meaning ∘ g.C.ResetsFor.for_peer cfg ∘ source_in) (g.C.Machine.stands ∘ g.C.ResetsFor.for_peer cfg ∘ source_in) g.C.Machine.seen g.C.Machine.sound g.C.Machine.rested g.L.Link.seen g.L.Link.wrote g.L.HasPair.tells c.args.plan.now.accepts_header c.args.plan.now.logs c.args.plan.now.opening g.N.Net.seen to true true begun n writes writes_now before after c.args.hall.now in
    c.in-Ok.ensures.goes cfg to begun writes writes_now before after (subst P (sym c.can_accept.ensures.seen) h)

pub returns-in-Ok-begin-clause-within : goal.returns-in-Ok-begin-clause-within
returns-in-Ok-begin-clause-within g c =
    let more : c.has_all.result ≡ false = search rules in
    within_one c.args.plan.now.connections c.args.hall.now.accepted c.accept.new.hall.accepted (c.has_all.ensures.within more) c.in-Ok.ensures.accepted

pub returns-in-Err-clause-goes : goal.returns-in-Err-clause-goes
returns-in-Err-clause-goes g c = λ cfg to begun writes writes_now before after h.
    let P : NetSeen → Type 0 = λ n. Goes (g.C.Machine.meaning ∘ g.C.ResetsFor.for_peer cfg ∘ source_in) (g.C.Machine.stands ∘ g.C.ResetsFor.for_peer cfg ∘ source_in) g.C.Machine.seen g.C.Machine.sound g.C.Machine.rested g.L.Link.seen g.L.Link.wrote g.L.HasPair.tells c.args.plan.now.accepts_header c.args.plan.now.logs c.args.plan.now.opening g.N.Net.seen to true true begun n writes writes_now before after c.args.hall.now in
    c.in-Ok.ensures.goes cfg to begun writes writes_now before after (subst P (sym c.can_accept.ensures.seen) h)

pub returns-in-Err-clause-within : goal.returns-in-Err-clause-within
returns-in-Err-clause-within g c =
    let more : c.has_all.result ≡ false = search rules in
    within_one c.args.plan.now.connections c.args.hall.now.accepted c.accept.new.hall.accepted (c.has_all.ensures.within more) c.in-Ok.ensures.accepted
