use Rattle.lane.proofs.ReplyLemmas.{reply_promise, framed}
use Rattle.lane.proofs.laws.reply_promise.Goals as goal

pub returns-clause-puts : goal.returns-clause-puts
returns-clause-puts c = reply_promise

pub returns-clause-framed : goal.returns-clause-framed
returns-clause-framed c = framed
