use Rattle.std.proofs.Common.{arith}
use Rattle.h1_body.proofs.Feeding.{close_more}
use Rattle.h1_body.proofs.stages.feed_until_close.Goals as goal

pub returns-clause-feeds : goal.returns-clause-feeds
returns-clause-feeds c = λ most. close_more most c.fitting-len.result c.args.room c.args.window.now (omega arith) (omega arith) c.fitting-len.ensures.most
