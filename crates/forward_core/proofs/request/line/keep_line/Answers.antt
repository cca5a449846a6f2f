use Rattle.std.proofs.Common.{ap}
use Rattle.htx_arena.specs.Layout.Contents.{Contents}
use Rattle.lane.specs.Direction.Lending.{with_msg}
use Rattle.forward_core.proofs.request.line.keep_line.Goals as goal

pub returns-clause-same : goal.returns-clause-same
returns-clause-same c = ap (λ (x : Contents). with_msg c.args.lane.now x) c.head.ensures.value
