use Rattle.std.proofs.Common.{refl}
use Rattle.px_run.proofs.Texts.{within_then}
use Rattle.px_run.proofs.Halls.{balanced_then, same_net_then}
use Rattle.px_run.proofs.accepts.accepts.Goals as goal

pub returns-in-Ok-false-clause-goes : goal.returns-in-Ok-false-clause-goes
returns-in-Ok-false-clause-goes g c = λ cfg to begun writes writes_now before after h. c.in-Ok-false.ensures.goes cfg to begun writes writes_now before after (c.loop.invariant.goes cfg to begun writes writes_now before after h)

pub returns-in-Err-clause-goes : goal.returns-in-Err-clause-goes
returns-in-Err-clause-goes g c = λ cfg to begun writes writes_now before after h. c.in-Err.ensures.goes cfg to begun writes writes_now before after (c.loop.invariant.goes cfg to begun writes writes_now before after h)

pub loop-preserved : goal.loop-preserved
loop-preserved g c =
    record {
      goes = λ cfg to begun writes writes_now before after h. c.in-Ok-true.ensures.goes cfg to begun writes writes_now before after (c.loop.invariant.goes cfg to begun writes writes_now before after h);
      within = within_then c.args.plan.now.connections c.args.hall.now.accepted c.loop.hall.accepted c.loop.hall.accepted c.accept_further.new.hall.accepted c.loop.invariant.within refl c.in-Ok-true.ensures.within;
      balanced = balanced_then (g.N.Net.seen c.args.net.now) (g.N.Net.seen c.loop.net) (g.N.Net.seen c.accept_further.new.net) c.args.hall.now.places.items c.loop.hall.places.items c.accept_further.new.hall.places.items c.loop.invariant.balanced c.in-Ok-true.ensures.balanced;
      net = same_net_then (g.N.Net.seen c.args.net.now) (g.N.Net.seen c.loop.net) (g.N.Net.seen c.accept_further.new.net) c.loop.invariant.net c.in-Ok-true.ensures.net;
    }

pub returns-in-Ok-false-clause-within : goal.returns-in-Ok-false-clause-within
returns-in-Ok-false-clause-within g c = within_then c.args.plan.now.connections c.args.hall.now.accepted c.loop.hall.accepted c.loop.hall.accepted c.accept_further.new.hall.accepted c.loop.invariant.within refl c.in-Ok-false.ensures.within

pub returns-in-Err-clause-within : goal.returns-in-Err-clause-within
returns-in-Err-clause-within g c = within_then c.args.plan.now.connections c.args.hall.now.accepted c.loop.hall.accepted c.loop.hall.accepted c.accept_further.new.hall.accepted c.loop.invariant.within refl c.in-Err.ensures.within
