use Rattle.h1_head.specs.declared.answer.Side.TheVariants.{Response}
use Rattle.session_core.specs.Sided.{asker_in}
use Rattle.lane.specs.Answering.{has_begun}
use Rattle.forward_core.proofs.AnswerLemmas.RestLaws.{begun_or_waits, begun_ended, begun_final, begun_hopeless}
use Rattle.forward_core.proofs.answer.laws.begun_or_waits.Goals as goal

pub returns-clause-waits : goal.returns-clause-waits
returns-clause-waits c = λ cfg side asking server put now saying sound s serves rest none unbegun.
    begun_or_waits cfg side asking server put now saying
    (record { promise = c.answer_promise.ensures side.lane; rests = c.answer_begun.ensures.rests side.lane; done = c.answer_begun.ensures.done side.lane }) sound.lane s serves rest none unbegun

pub returns-clause-ended : goal.returns-clause-ended
returns-clause-ended c = λ cfg side asking server put now saying sound s serves rest none how ends.
    begun_ended cfg (asker_in asking) server put (has_begun side.lane)
    (λ unbegun. begun_or_waits cfg side asking server put now saying (record { promise = c.answer_promise.ensures side.lane; rests = c.answer_begun.ensures.rests side.lane; done = c.answer_begun.ensures.done side.lane }) sound.lane s serves rest none unbegun) how ends

pub returns-clause-head : goal.returns-clause-head
returns-clause-head c = λ cfg side asking server put now saying sound s serves rest none heads left came received behind reads final.
    begun_final (λ asked. c.one_reading.ensures (Response asked)) cfg (asker_in asking) server put (has_begun side.lane)
    (λ unbegun. begun_or_waits cfg side asking server put now saying (record { promise = c.answer_promise.ensures side.lane; rests = c.answer_begun.ensures.rests side.lane; done = c.answer_begun.ensures.done side.lane }) sound.lane s serves rest none unbegun) heads left came received behind reads final

pub returns-clause-hopeless : goal.returns-clause-hopeless
returns-clause-hopeless c = λ cfg side asking server put now saying sound s serves rest none heads left came final off.
    begun_hopeless (λ asked. c.one_reading.ensures (Response asked)) cfg (asker_in asking) server put (has_begun side.lane)
    (λ unbegun. begun_or_waits cfg side asking server put now saying (record { promise = c.answer_promise.ensures side.lane; rests = c.answer_begun.ensures.rests side.lane; done = c.answer_begun.ensures.done side.lane }) sound.lane s serves rest none unbegun) heads left came final off
