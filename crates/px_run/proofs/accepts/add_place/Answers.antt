use Rattle.std.proofs.Common.{refl}
use Rattle.px_run.proofs.AskedAll.{all_asked, asked_more}
use Rattle.px_run.proofs.accepts.add_place.Goals as goal

pub returns-then-not-lacks_place : goal.returns-then-not-lacks_place
returns-then-not-lacks_place g c = record { asked = all_asked g.L.Link.seen g.L.Link.wrote g.N.Net.seen c.args.hall.now }

pub returns : goal.returns
returns g c = record { asked = asked_more g.L.Link.seen g.L.Link.wrote g.N.Net.seen c.args.hall.now _ c.push_reserved.ensures.items refl refl refl }
