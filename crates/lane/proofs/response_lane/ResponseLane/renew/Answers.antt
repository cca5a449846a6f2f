use Rattle.std.proofs.Common.{false, ap, ◌∙◌}
use Rattle.h1_head.specs.declared.answer.Side.TheVariants.{Response}
use Rattle.lane.specs.declared.direction.lane.Lane.{Lane}
use Rattle.lane.proofs.AnswerLemmas.{none_heads, sound_heads}
use Rattle.lane.proofs.response_lane.ResponseLane.renew.Goals as goal

pub returns-clause-fresh : goal.returns-clause-fresh
returns-clause-fresh c = λ asked.
    none_heads c.clear_output.new.self asked (c.clear_output.ensures.reading (Response asked) (c.new_stream.ensures.reading (Response asked)))
    (ap (λ (l : Lane). l.input.items) c.clear_output.ensures.same ∙ c.new_stream.ensures.input)

pub returns-clause-reading : goal.returns-clause-reading
returns-clause-reading c = let r = c.clear_output.ensures.reading (Response false) (c.new_stream.ensures.reading (Response false)) in r.stage

pub returns-clause-sound : goal.returns-clause-sound
returns-clause-sound c = sound_heads c.clear_output.new.self (λ asked. c.clear_output.ensures.reading (Response asked) (c.new_stream.ensures.reading (Response asked)))
