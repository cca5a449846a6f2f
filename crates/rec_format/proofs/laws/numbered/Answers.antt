use Rattle.rec_format.proofs.Numbers as numbers
use Rattle.rec_format.proofs.laws.numbered.Goals as goal

pub returns : goal.returns
returns c = numbers.numbered
