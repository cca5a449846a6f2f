use Rattle.lane.proofs.DirectionLemmas.RestLemmas as lemmas
use Rattle.lane.proofs.direction.laws.nothing_held_back.Goals as goal

pub returns : goal.returns
returns c = lemmas.nothing_held_back
