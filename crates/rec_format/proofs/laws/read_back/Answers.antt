use Rattle.rec_format.proofs.RecordBack.{written_back}
use Rattle.rec_format.proofs.laws.read_back.Goals as goal

pub returns : goal.returns
returns c = written_back
