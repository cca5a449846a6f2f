use Rattle.lane.proofs.DirectionLemmas.PromiseLemmas.{has_body}
use Rattle.lane.proofs.direction.laws.has_body.Goals as goal

pub returns : goal.returns
returns c = has_body
