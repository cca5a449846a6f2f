use Rattle.forward_core.proofs.AnswerLemmas.Answering.{so_at}
use Rattle.forward_core.proofs.answer.laws.answers.Goals as goal

pub returns : goal.returns
returns c = λ cfg side p s serves.
    so_at side.place side.status cfg p.asking side.lane p.server p.to_client p.now p.saying (c.total.ensures cfg) (c.answer_promise.ensures side.lane) (c.promise.ensures side.lane.lane) s.for_it serves s.at
