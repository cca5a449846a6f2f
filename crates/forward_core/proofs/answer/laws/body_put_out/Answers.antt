use Rattle.forward_core.proofs.AnswerLemmas.RestLaws.{body_put_out}
use Rattle.forward_core.proofs.answer.laws.body_put_out.Goals as goal

pub returns : goal.returns
returns c = λ cfg side asking server put now saying s response going rest none.
    body_put_out cfg side asking server put now saying (c.answer_not_held_back.ensures side.lane) s response going rest none
