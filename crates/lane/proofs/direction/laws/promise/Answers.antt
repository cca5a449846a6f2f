use Rattle.lane.proofs.DirectionLemmas.PromiseLemmas as lemmas
use Rattle.lane.proofs.direction.laws.promise.Goals as goal

pub returns : goal.returns
returns c = lemmas.promise
