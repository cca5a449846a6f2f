use Rattle.std.proofs.Common.{arith}
use Rattle.h1_body.proofs.Feeding.{left_over, left_more}
use Rattle.h1_body.proofs.stages.feed_left.Goals as goal

pub returns-then-len-left-clause-feeds : goal.returns-then-len-left-clause-feeds
returns-then-len-left-clause-feeds c = λ most. left_over most c.args.left c.data_len-len.result c.args.room c.args.window.now (omega arith) (omega arith) (omega arith)

pub returns-else-len-left-clause-feeds : goal.returns-else-len-left-clause-feeds
returns-else-len-left-clause-feeds c = λ most. left_more most c.args.left c.data_len-len.result c.args.room c.args.window.now (omega arith) (omega arith) (omega arith) c.data_len-len.ensures.most
