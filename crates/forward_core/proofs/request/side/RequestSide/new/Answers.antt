use Rattle.std.proofs.Common.{ap, sym, ◌∙◌}
use Rattle.http_model.specs.declared.Limits.{Limits}
use Rattle.h1_head.specs.declared.answer.Side.TheVariants as side
use Rattle.forward_core.specs.declared.request.place.Place.TheVariants as place
use Rattle.forward_core.proofs.RequestLemmas.Resting.{unrested}
use Rattle.forward_core.proofs.request.side.RequestSide.new.Goals as goal

pub returns-clause-sound : goal.returns-clause-sound
returns-clause-sound c =
    let reading = c.in_ok-new.ensures.reading side.Request in
    record { well = reading.ready.sound; at = (reading, c.in_ok-new.ensures.output); rests = unrested place.Reading c.in_ok-new.field-0; line = c.in_ok-line.ensures.cap ∙ ap (λ (l : Limits). l.bufsize) (sym c.in_ok-new.ensures.limits) }
