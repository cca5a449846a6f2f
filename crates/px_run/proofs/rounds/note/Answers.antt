use Rattle.std.proofs.Common.{rules, ◌≡◌, ◌<◌, length, get_or, refl}
use Rattle.px_run.proofs.AskedAll.{asked_set, asked_set_taken, all_asked}
use Rattle.px_run.proofs.rounds.note.Goals as goal

pub returns-else-place-len : goal.returns-else-place-len
returns-else-place-len g c =
    let w : c.in-Client.place < length c.args.hall.now.places.items = search rules in
    let e : get_or c.args.hall.now.places.items c.in-Client.place c.index_mut.result.now ≡ c.index_mut.result.now = search rules in
    record {
      asked = record {
        each = asked_set g.L.Link.seen g.L.Link.wrote g.N.Net.seen c.args.hall.now.places.items c.in-Client.place c.index_mut.result.now c.note_client.new.at w e c.note_client.ensures.asked;
        taken = asked_set_taken g.L.Link.seen g.L.Link.wrote g.N.Net.seen c.args.hall.now.places.items c.in-Client.place c.index_mut.result.now c.note_client.new.at w e c.note_client.ensures.asked;
        sets = refl;
        accepted = refl;
        output = refl;
      };
    }

pub returns-else-place-len-2 : goal.returns-else-place-len-2
returns-else-place-len-2 g c =
    let w : c.in-Server.place < length c.args.hall.now.places.items = search rules in
    let e : get_or c.args.hall.now.places.items c.in-Server.place c.index_mut-in-Server.result.now ≡ c.index_mut-in-Server.result.now = search rules in
    record {
      asked = record {
        each = asked_set g.L.Link.seen g.L.Link.wrote g.N.Net.seen c.args.hall.now.places.items c.in-Server.place c.index_mut-in-Server.result.now c.note_server.new.at w e c.note_server.ensures.asked;
        taken = asked_set_taken g.L.Link.seen g.L.Link.wrote g.N.Net.seen c.args.hall.now.places.items c.in-Server.place c.index_mut-in-Server.result.now c.note_server.new.at w e c.note_server.ensures.asked;
        sets = refl;
        accepted = refl;
        output = refl;
      };
    }

pub returns-in-Listener : goal.returns-in-Listener
returns-in-Listener g c = record { asked = all_asked g.L.Link.seen g.L.Link.wrote g.N.Net.seen c.args.hall.now }

pub returns-then-place-len : goal.returns-then-place-len
returns-then-place-len g c = record { asked = all_asked g.L.Link.seen g.L.Link.wrote g.N.Net.seen c.args.hall.now }

pub returns-then-place-len-2 : goal.returns-then-place-len-2
returns-then-place-len-2 g c = record { asked = all_asked g.L.Link.seen g.L.Link.wrote g.N.Net.seen c.args.hall.now }
