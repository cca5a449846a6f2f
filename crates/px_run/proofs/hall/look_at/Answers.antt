use Rattle.std.proofs.Common.{rules, ◌≡◌, Some, None}
use Rattle.px_link.specs.Net.{address_of}
use Rattle.px_proxyproto.specs.Meeting.{source_in}
use Rattle.px_run.specs.History.{IsLogged}
use Rattle.px_run.proofs.Logs.{more_none}
use Rattle.px_run.proofs.ToldSo.{more_logged}
use Rattle.px_run.proofs.Stays.{placed_is, of_looked, placed_none}
use Rattle.px_run.proofs.AtPlace.{looked_at_some, looked_at_none}
use Rattle.px_run.specs.Connection.{◌∘◌}
use Rattle.px_run.proofs.hall.look_at.Goals as goal

pub look-requires-clause-at : goal.look-requires-clause-at
look-requires-clause-at g c =
    let e : c.args.at.now ≡ Some c.in-Some.connection = search rules in
    let q = c.requires.at in
    let of = placed_is (g.C.Machine.meaning ∘ g.C.ResetsFor.for_peer q.0 ∘ source_in) (g.C.Machine.stands ∘ g.C.ResetsFor.for_peer q.0 ∘ source_in) g.C.Machine.seen g.C.Machine.sound g.C.Machine.rested g.L.Link.seen g.L.Link.wrote g.L.HasPair.tells c.args.plan.now.accepts_header c.args.plan.now.opening g.N.Net.seen (address_of c.args.plan.now.to.now) q.1 c.args.at.now c.in-Some.connection e q.3 in
    (q.0, of.visit.first, of.visit.own, q.2, of.at)

pub returns-in-Some-clause-placed : goal.returns-in-Some-clause-placed
returns-in-Some-clause-placed g c = λ cfg visits f h.
    let e : c.args.at.now ≡ Some c.in-Some.connection = search rules in
    of_looked (g.C.Machine.meaning ∘ g.C.ResetsFor.for_peer cfg ∘ source_in) (g.C.Machine.stands ∘ g.C.ResetsFor.for_peer cfg ∘ source_in) g.C.Machine.seen g.C.Machine.sound g.C.Machine.rested g.L.Link.seen g.L.Link.wrote g.L.HasPair.tells c.args.plan.now.accepts_header c.args.plan.now.opening g.N.Net.seen (address_of c.args.plan.now.to.now) visits c.in-Some.connection _ c.look.ensures.number (λ first own at. c.look.ensures.at cfg first own f at)
    (placed_is (g.C.Machine.meaning ∘ g.C.ResetsFor.for_peer cfg ∘ source_in) (g.C.Machine.stands ∘ g.C.ResetsFor.for_peer cfg ∘ source_in) g.C.Machine.seen g.C.Machine.sound g.C.Machine.rested g.L.Link.seen g.L.Link.wrote g.L.HasPair.tells c.args.plan.now.accepts_header c.args.plan.now.opening g.N.Net.seen (address_of c.args.plan.now.to.now) visits c.args.at.now c.in-Some.connection e h)

pub returns-in-Some-clause-fresh : goal.returns-in-Some-clause-fresh
returns-in-Some-clause-fresh g c = λ cfg visits f h.
    let e : c.args.at.now ≡ Some c.in-Some.connection = search rules in
    let of = placed_is (g.C.Machine.meaning ∘ g.C.ResetsFor.for_peer cfg ∘ source_in) (g.C.Machine.stands ∘ g.C.ResetsFor.for_peer cfg ∘ source_in) g.C.Machine.seen g.C.Machine.sound g.C.Machine.rested g.L.Link.seen g.L.Link.wrote g.L.HasPair.tells c.args.plan.now.accepts_header c.args.plan.now.opening g.N.Net.seen (address_of c.args.plan.now.to.now) visits c.args.at.now c.in-Some.connection e h in
    c.look.ensures.fresh cfg of.visit.first of.visit.own f of.at

pub returns-in-Some-clause-looked : goal.returns-in-Some-clause-looked
returns-in-Some-clause-looked g c =
    let e : c.args.at.now ≡ Some c.in-Some.connection = search rules in
    looked_at_some c.look.result c.args.at.now c.in-Some.connection _ e c.look.ensures.number c.look.ensures.looked

pub returns-in-None-clause-placed : goal.returns-in-None-clause-placed
returns-in-None-clause-placed g c = λ cfg visits f h.
    let e : c.args.at.now ≡ None = search rules in
    placed_none (g.C.Machine.meaning ∘ g.C.ResetsFor.for_peer cfg ∘ source_in) (g.C.Machine.stands ∘ g.C.ResetsFor.for_peer cfg ∘ source_in) g.C.Machine.seen g.C.Machine.sound g.C.Machine.rested g.L.Link.seen g.L.Link.wrote g.L.HasPair.tells c.args.plan.now.accepts_header c.args.plan.now.opening g.N.Net.seen (address_of c.args.plan.now.to.now) visits c.args.at.now e

pub returns-in-None-clause-looked : goal.returns-in-None-clause-looked
returns-in-None-clause-looked g c =
    let e : c.args.at.now ≡ None = search rules in
    looked_at_none c.args.at.now e

pub returns-in-Some-clause-logs : goal.returns-in-Some-clause-logs
returns-in-Some-clause-logs g c = λ cfg visits f h.
    let e : c.args.at.now ≡ Some c.in-Some.connection = search rules in
    let of = placed_is (g.C.Machine.meaning ∘ g.C.ResetsFor.for_peer cfg ∘ source_in) (g.C.Machine.stands ∘ g.C.ResetsFor.for_peer cfg ∘ source_in) g.C.Machine.seen g.C.Machine.sound g.C.Machine.rested g.L.Link.seen g.L.Link.wrote g.L.HasPair.tells c.args.plan.now.accepts_header c.args.plan.now.opening g.N.Net.seen (address_of c.args.plan.now.to.now) visits c.args.at.now c.in-Some.connection e h in
    more_logged (g.C.Machine.meaning ∘ g.C.ResetsFor.for_peer cfg ∘ source_in) (g.C.Machine.stands ∘ g.C.ResetsFor.for_peer cfg ∘ source_in) g.C.Machine.seen g.L.Link.seen g.L.Link.wrote g.L.HasPair.tells c.args.plan.now.accepts_header c.args.plan.now.logs c.args.plan.now.opening g.N.Net.seen (address_of c.args.plan.now.to.now) visits of.visit c.in-Some.connection.number of.is c.args.tools.now.log.text.items c.look.new.tools.log.text.items (c.look.ensures.logs cfg of.visit.first of.visit.own f of.at)

pub returns-in-None-clause-logs : goal.returns-in-None-clause-logs
returns-in-None-clause-logs g c = λ cfg visits f h. more_none (IsLogged (g.C.Machine.meaning ∘ g.C.ResetsFor.for_peer cfg ∘ source_in) (g.C.Machine.stands ∘ g.C.ResetsFor.for_peer cfg ∘ source_in) g.C.Machine.seen g.L.Link.seen g.L.Link.wrote g.L.HasPair.tells c.args.plan.now.accepts_header c.args.plan.now.logs c.args.plan.now.opening g.N.Net.seen (address_of c.args.plan.now.to.now) visits) c.args.tools.now.log.text.items
