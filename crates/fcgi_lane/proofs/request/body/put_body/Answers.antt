use Rattle.std.proofs.Common.{arith}
use Rattle.fcgi_lane.specs.Request.Stages.{place_of}
use Rattle.fcgi_lane.proofs.RequestLemmas.Bodies.{sends_more}
use Rattle.fcgi_lane.proofs.request.body.put_body.Goals as goal

pub loop-used-preserved : goal.loop-used-preserved
loop-used-preserved c =
    let l = c.loop-used in
    let run = c.in_ok-next in
    record {
      used = omega (arith, run.ensures.within.1);
      stage = run.ensures.stage;
      sends = sends_more (place_of c.args.stage) (place_of l.stage) (place_of run.next) c.args.bytes.now c.args.made.now.items l.made.items c.put_run.new.made.items l.used run.count l.invariant.sends
          run.ensures.sends;
    }
