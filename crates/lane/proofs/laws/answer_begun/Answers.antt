use Rattle.lane.proofs.RestLemmas.{begun_at_rest, begun_done}
use Rattle.lane.proofs.laws.answer_begun.Goals as goal

pub returns-clause-rests : goal.returns-clause-rests
returns-clause-rests c = begun_at_rest

pub returns-clause-done : goal.returns-clause-done
returns-clause-done c = begun_done
