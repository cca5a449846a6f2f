use Rattle.h1_write.proofs.ReadWithin.{message_read}
use Rattle.h1_write.proofs.laws.reads_within.Goals as goal

pub returns : goal.returns
returns c = message_read
