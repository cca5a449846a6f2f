use Rattle.std.proofs.Common.{arith, rules, ◌≡◌, ◌<◌, length, get_or, refl}
use Rattle.px_link.specs.Net.{address_of}
use Rattle.px_proxyproto.specs.Meeting.{source_in}
use Rattle.px_run.proofs.Halls.{same_net}
use Rattle.px_run.proofs.Stories.{goes_gave}
use Rattle.px_run.specs.Connection.{◌∘◌}
use Rattle.px_run.proofs.rounds.visit_place.Goals as goal

pub visit-requires : goal.visit-requires
visit-requires g c = let q = c.requires.goes in record { stands = (q.0, q.4.visits, q.4.all) }

pub returns-then-pace-len-clause-goes : goal.returns-then-pace-len-clause-goes
returns-then-pace-len-clause-goes g c = λ cfg begun writes before h.
    let v = c.in-Ok-Leaves.ensures.goes cfg begun (g.N.Net.seen c.args.net.now) writes before h in
    let w : c.visit.new.pace.place < length c.visit.new.hall.places.items = search rules in
    let e : get_or c.visit.new.hall.places.items c.visit.new.pace.place c.index_mut.result.now ≡ c.index_mut.result.now = search rules in
    goes_gave (g.C.Machine.meaning ∘ g.C.ResetsFor.for_peer cfg ∘ source_in) (g.C.Machine.stands ∘ g.C.ResetsFor.for_peer cfg ∘ source_in) g.C.Machine.seen g.C.Machine.sound g.C.Machine.rested g.L.Link.seen g.L.Link.wrote g.L.HasPair.tells c.args.plan.now.accepts_header c.args.plan.now.logs c.args.plan.now.opening g.N.Net.seen (address_of c.args.plan.now.to.now) begun writes before (g.N.Net.seen c.args.net.now) (g.N.Net.seen c.give_back.new.net) _ _ c.visit.new.hall _ c.visit.new.pace.place c.index_mut.result.now c.give_back.new.at w e refl refl refl refl c.give_back.ensures.gives v

pub returns-else-pace-len-clause-goes : goal.returns-else-pace-len-clause-goes
returns-else-pace-len-clause-goes g c = λ cfg begun writes before h. c.in-Ok-Leaves.ensures.goes cfg begun (g.N.Net.seen c.args.net.now) writes before h

pub returns-in-Ok : goal.returns-in-Ok
returns-in-Ok g c = record {
  goes = λ cfg begun writes before h. c.in-Ok.ensures.goes cfg begun (g.N.Net.seen c.args.net.now) writes before h;
  accepted = c.in-Ok.ensures.accepted;
  balanced = omega (arith, c.in-Ok.ensures.taken);
  net = same_net (g.N.Net.seen c.args.net.now);
}

pub returns-in-Err-clause-goes : goal.returns-in-Err-clause-goes
returns-in-Err-clause-goes g c = λ cfg begun writes before h. c.in-Err.ensures.goes cfg begun (g.N.Net.seen c.args.net.now) writes before h
