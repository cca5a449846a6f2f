use Rattle.forward_core.proofs.AnswerLemmas.Statuses.{tells}
use Rattle.forward_core.proofs.answer.laws.statuses.Goals as goal

pub returns : goal.returns
returns c = λ cfg side asking server put now saying s serves. tells cfg side asking server put now saying (c.total.ensures cfg) (c.answer_promise.ensures side.lane) (c.promise.ensures side.lane.lane) serves s
