use Rattle.h1_write.proofs.ReadBodies.{message_back, alone_back}
use Rattle.h1_write.proofs.laws.read_back.Goals as goal

pub returns : goal.returns
returns c = record { message = message_back; alone = alone_back }
