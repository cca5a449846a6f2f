use Rattle.lane.proofs.EditLemmas.{edited_ready}
use Rattle.lane.proofs.laws.edited_lane.Goals as goal

pub returns-clause-size : goal.returns-clause-size
returns-clause-size c = λ lane ready. ready.sound.sized.msg

pub returns-clause-ready : goal.returns-clause-ready
returns-clause-ready c = edited_ready
