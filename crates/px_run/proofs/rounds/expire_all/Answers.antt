use Rattle.px_run.proofs.AskedAll.{all_asked, all_asked_then}
use Rattle.px_run.proofs.rounds.expire_all.Goals as goal

pub returns-in-Err : goal.returns-in-Err
returns-in-Err g c = record { asked = all_asked_then g.L.Link.seen g.L.Link.wrote g.N.Net.seen c.args.hall.now c.loop-place.hall c.expire_at.new.hall c.loop-place.invariant c.in-Err.ensures.asked }

pub loop-place-init : goal.loop-place-init
loop-place-init g c = all_asked g.L.Link.seen g.L.Link.wrote g.N.Net.seen c.args.hall.now

pub loop-place-preserved : goal.loop-place-preserved
loop-place-preserved g c = all_asked_then g.L.Link.seen g.L.Link.wrote g.N.Net.seen c.args.hall.now c.loop-place.hall c.expire_at.new.hall c.loop-place.invariant c.in-Ok.ensures.asked

pub returns-then-not-deadline_comes : goal.returns-then-not-deadline_comes
returns-then-not-deadline_comes g c = record { asked = all_asked g.L.Link.seen g.L.Link.wrote g.N.Net.seen c.args.hall.now }
