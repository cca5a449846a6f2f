use Rattle.std.proofs.Common.{ℕ, List, ◌++◌, ap, sym, ◌∙◌, refl}
use Rattle.http_model.specs.declared.Limits.{Limits}
use Rattle.h1_head.specs.Stream.{behind}
use Rattle.h1_head.specs.declared.answer.Side.TheVariants as side
use Rattle.lane.specs.Direction.State.{LaneState}
use Rattle.forward_core.specs.declared.request.place.Place.TheVariants as place
use Rattle.forward_core.proofs.RequestLemmas.Events.{for_same, same_by}
use Rattle.forward_core.proofs.RequestLemmas.Resting.{unrested}
use Rattle.forward_core.proofs.request.side.RequestSide.renew.Goals as goal

pub returns-clause-sound : goal.returns-clause-sound
returns-clause-sound c =
    let reading = c.clear_output.ensures.reading side.Request (c.new_stream.ensures.reading side.Request) in
    record { well = reading.ready.sound; at = (reading, c.clear_output.ensures.empty); rests = unrested place.Reading c.clear_output.new.self; line = c.clear.ensures.cap ∙ (c.requires.sound.line ∙ ap (λ (l : Limits). l.bufsize) (sym (ap (λ (l : LaneState). l.limits) c.clear_output.ensures.same ∙ c.new_stream.ensures.limits))) }

pub returns-clause-stands : goal.returns-clause-stands
returns-clause-stands c = λ cfg before came asked sent replied h vars asking to_server reply.
    let old = c.args.self.now.lane in
    let new = c.clear_output.new.self in
    let same = c.clear_output.ensures.same in
    let input = ap (λ (l : LaneState). l.input.items) same ∙ c.new_stream.ensures.input in
    record {
      is_for = for_same cfg old new (same_by old new (ap (λ (l : LaneState). l.limits) same ∙ c.new_stream.ensures.limits) (ap (λ (l : LaneState). l.sieve) same ∙ c.new_stream.ensures.sieve)) h.is_for;
      at = record { ending = sym (ap (λ (l : LaneState). l.ended) same ∙ c.new_stream.ensures.ended); lines = λ more. ap (λ (bs : List ℕ). behind (bs ++ more)) (sym input) };
      ending = sym (ap (λ (l : LaneState). l.ended) same ∙ c.new_stream.ensures.ended);
      line = c.clear.ensures.bytes;
      untouched = λ at is. refl;
    }
