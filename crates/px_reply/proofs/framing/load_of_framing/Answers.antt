use Rattle.std.proofs.Common.{arith}
use Rattle.px_reply.proofs.Weights.{whole_sum}
use Rattle.px_reply.proofs.framing.load_of_framing.Goals as goal

pub returns : goal.returns
returns c = whole_sum c.args.msg.now.blocks c.loop-at.at c.loop-at.sum (omega arith) c.loop-at.invariant.weighed
