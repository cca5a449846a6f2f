use Rattle.std.proofs.Common.{arith}
use Rattle.px_reply.proofs.Weights.{load-without_framing}
use Rattle.px_reply.proofs.finish.has_room.Goals as goal

pub returns-then-need-room-clause-room : goal.returns-then-need-room-clause-room
returns-then-need-room-clause-room c =
    λ h. omega (arith, load-without_framing c.args.msg.now.blocks, c.room-room.ensures, c.if-need-room.true)
