use Rattle.std.proofs.Common.{◌+◌}
use Rattle.fcgi_model.specs.Head.{NoEnd}
use Rattle.fcgi_lane.proofs.request.opening.head_end.Given as goal

abbrev pub invariant-loop-end : goal.invariant-loop-end
invariant-loop-end l = NoEnd l.seen (l.end + 1) l.text
