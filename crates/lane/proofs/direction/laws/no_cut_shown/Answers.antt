use Rattle.lane.proofs.DirectionLemmas.RestLemmas as lemmas
use Rattle.lane.proofs.direction.laws.no_cut_shown.Goals as goal

pub returns : goal.returns
returns c = lemmas.no_cut_shown
