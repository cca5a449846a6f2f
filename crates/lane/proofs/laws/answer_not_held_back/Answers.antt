use Rattle.lane.proofs.RestLemmas as rests
use Rattle.lane.proofs.laws.answer_not_held_back.Goals as goal

pub returns : goal.returns
returns c = rests.not_held_back
