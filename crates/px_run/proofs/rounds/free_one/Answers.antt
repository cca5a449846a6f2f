use Rattle.std.proofs.Common.{rules, ◌≡◌, ◌<◌, length, get_or, refl}
use Rattle.px_run.proofs.AskedAll.{asked_set, asked_set_taken, all_asked}
use Rattle.px_run.proofs.rounds.free_one.Goals as goal

pub returns : goal.returns
returns g c =
    let w : c.in-Some.place < length c.args.hall.now.places.items = search rules in
    let e : get_or c.args.hall.now.places.items c.in-Some.place c.index_mut.result.now ≡ c.index_mut.result.now = search rules in
    record {
      asked = record {
        each = asked_set g.L.Link.seen g.L.Link.wrote g.N.Net.seen c.args.hall.now.places.items c.in-Some.place c.index_mut.result.now c.expire.new.at w e c.expire.ensures.asked;
        taken = asked_set_taken g.L.Link.seen g.L.Link.wrote g.N.Net.seen c.args.hall.now.places.items c.in-Some.place c.index_mut.result.now c.expire.new.at w e c.expire.ensures.asked;
        sets = refl;
        accepted = refl;
        output = refl;
      };
    }

pub returns-in_default : goal.returns-in_default
returns-in_default g c = record { asked = all_asked g.L.Link.seen g.L.Link.wrote g.N.Net.seen c.args.hall.now }

pub returns-then-place-len : goal.returns-then-place-len
returns-then-place-len g c = record { asked = all_asked g.L.Link.seen g.L.Link.wrote g.N.Net.seen c.args.hall.now }
