use Rattle.forward_core.proofs.AnswerLemmas.Answering.{before_at}
use Rattle.forward_core.proofs.answer.laws.comes_before.Goals as goal

pub returns : goal.returns
returns c = λ cfg side p s serves none. before_at cfg side p.asking p.server p.to_client p.now p.saying (c.answer_promise.ensures side.lane) serves none s
