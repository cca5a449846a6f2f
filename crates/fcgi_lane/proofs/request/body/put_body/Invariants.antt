use Rattle.std.proofs.Common.{◌≤◌, ◌-◌, take, length}
use Rattle.fcgi_lane.specs.Request.Stages.{place_of, IsStage}
use Rattle.fcgi_lane.specs.Request.Sending.{Sends}
use Rattle.fcgi_lane.proofs.request.body.put_body.Given as goal

abbrev pub invariant-loop-used : goal.invariant-loop-used
invariant-loop-used l = record {
  used : l.used ≤ length l.bytes;
  stage : IsStage l.stage;
  sends : Sends (place_of l.fn.stage) (take l.used l.bytes) (place_of l.stage) l.fn.made.items l.made.items;
}

abbrev pub decreases-loop-used : goal.decreases-loop-used
decreases-loop-used l = length l.bytes - l.used
