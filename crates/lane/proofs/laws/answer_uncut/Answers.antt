use Rattle.lane.proofs.RestLemmas as rests
use Rattle.lane.proofs.laws.answer_uncut.Goals as goal

pub returns : goal.returns
returns c = rests.uncut
