use Rattle.std.proofs.Common.{rules, ◌≡◌, Some, None}
use Rattle.px_proxyproto.specs.Meeting.{source_in}
use Rattle.px_run.proofs.Stays.{placed_is}
use Rattle.px_run.proofs.AtPlace.{gave_up_some, gave_up_none}
use Rattle.px_run.specs.Connection.{◌∘◌}
use Rattle.px_run.proofs.running.leave.Goals as goal

pub give_up-requires : goal.give_up-requires
give_up-requires g c =
    let q = c.requires.placed in
    let e : c.args.at ≡ Some c.in-Some.connection = search rules in
    let of = placed_is (g.C.Machine.meaning ∘ g.C.ResetsFor.for_peer q.0 ∘ source_in) (g.C.Machine.stands ∘ g.C.ResetsFor.for_peer q.0 ∘ source_in) g.C.Machine.seen g.C.Machine.sound g.C.Machine.rested g.L.Link.seen g.L.Link.wrote g.L.HasPair.tells q.1 q.2 g.N.Net.seen q.3 q.4 c.args.at c.in-Some.connection e q.5 in
    record { at = (q.0, q.1, q.2, q.3, of.visit.first, of.visit.own, c.in-Some.connection.core, of.at) }

pub returns-in-Some-clause-gave_up : goal.returns-in-Some-clause-gave_up
returns-in-Some-clause-gave_up g c = λ cfg accepts_header opening to.
    let e : c.args.at ≡ Some c.in-Some.connection = search rules in
    gave_up_some (g.C.Machine.meaning ∘ g.C.ResetsFor.for_peer cfg ∘ source_in) (g.C.Machine.stands ∘ g.C.ResetsFor.for_peer cfg ∘ source_in) g.C.Machine.seen g.C.Machine.sound g.C.Machine.rested g.L.Link.seen g.L.Link.wrote g.L.HasPair.tells accepts_header opening g.N.Net.seen to (g.N.Net.seen c.args.net.now) (g.N.Net.seen c.keep.new.self) c.args.at c.in-Some.connection e
    (record { client = c.give_up.new.conn.client; own = c.give_up.new.conn.net; came = λ visits of. c.give_up.ensures.left cfg accepts_header opening to of.visit.first of.visit.own c.in-Some.connection.core of.at; keeps = c.keep.ensures.keeps })

pub returns-in-None-clause-gave_up : goal.returns-in-None-clause-gave_up
returns-in-None-clause-gave_up g c = λ cfg accepts_header opening to.
    let e : c.args.at ≡ None = search rules in
    gave_up_none (g.C.Machine.meaning ∘ g.C.ResetsFor.for_peer cfg ∘ source_in) (g.C.Machine.stands ∘ g.C.ResetsFor.for_peer cfg ∘ source_in) g.C.Machine.seen g.C.Machine.sound g.C.Machine.rested g.L.Link.seen g.L.Link.wrote g.L.HasPair.tells accepts_header opening g.N.Net.seen to (g.N.Net.seen c.args.net.now) c.args.at e
