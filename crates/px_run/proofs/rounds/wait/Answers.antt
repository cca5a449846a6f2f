use Rattle.px_run.proofs.AskedAll.{all_asked, all_asked_then}
use Rattle.px_run.proofs.rounds.wait.Goals as goal

pub returns-in-Err-note : goal.returns-in-Err-note
returns-in-Err-note g c = record { asked = all_asked_then g.L.Link.seen g.L.Link.wrote g.N.Net.seen c.args.hall.now c.loop-event.hall c.note.new.hall c.loop-event.invariant c.in-Err-note.ensures.asked }

pub loop-event-init : goal.loop-event-init
loop-event-init g c = all_asked g.L.Link.seen g.L.Link.wrote g.N.Net.seen c.args.hall.now

pub loop-event-preserved : goal.loop-event-preserved
loop-event-preserved g c = all_asked_then g.L.Link.seen g.L.Link.wrote g.N.Net.seen c.args.hall.now c.loop-event.hall c.note.new.hall c.loop-event.invariant c.in-Ok-note.ensures.asked

pub returns-in-Err-Failed : goal.returns-in-Err-Failed
returns-in-Err-Failed g c = record { asked = all_asked g.L.Link.seen g.L.Link.wrote g.N.Net.seen c.args.hall.now }

pub returns-in-Err-OutOfMemory : goal.returns-in-Err-OutOfMemory
returns-in-Err-OutOfMemory g c = record { asked = all_asked g.L.Link.seen g.L.Link.wrote g.N.Net.seen c.args.hall.now }

pub returns-in-Err : goal.returns-in-Err
returns-in-Err g c = record { asked = all_asked g.L.Link.seen g.L.Link.wrote g.N.Net.seen c.args.hall.now }
