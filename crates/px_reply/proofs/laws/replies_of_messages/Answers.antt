use Rattle.px_reply.proofs.Messages.{message_end, message_closed}
use Rattle.px_reply.proofs.Bodies.{payload-head_blocks}
use Rattle.px_reply.proofs.laws.replies_of_messages.Goals as goal

pub returns-clause-end : goal.returns-clause-end
returns-clause-end c = λ m. message_end c.edits_of_heads.ensures.end m

pub returns-clause-close : goal.returns-clause-close
returns-clause-close c = λ m. message_closed c.edits_of_heads.ensures.end c.edits_of_heads.ensures.add m

pub returns-clause-body : goal.returns-clause-body
returns-clause-body c = λ head body. payload-head_blocks head body
