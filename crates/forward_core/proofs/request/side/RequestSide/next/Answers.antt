use Rattle.std.proofs.Common.{ℕ, ◌++◌, ap, sym, ◌∙◌, rules}
use Rattle.http_model.specs.declared.Limits.{Limits}
use Rattle.wire_buf.specs.Buffer.{Buffer}
use Rattle.h1_head.specs.Stream.{behind}
use Rattle.h1_head.specs.declared.answer.Side.TheVariants as side
use Rattle.lane.specs.Direction.State.{LaneState}
use Rattle.forward_core.specs.declared.request.place.Place.TheVariants as place
use Rattle.forward_core.proofs.RequestLemmas.Events.{for_same, same_by}
use Rattle.forward_core.proofs.RequestLemmas.Resting.{unrested}
use Rattle.forward_core.proofs.RequestLemmas.Untouched.{none_there}
use Rattle.forward_core.proofs.request.side.RequestSide.next.Goals as goal

pub returns-clause-sound : goal.returns-clause-sound
returns-clause-sound c =
    let reading = c.clear_output.ensures.reading side.Request (c.next.ensures.reading side.Request) in
    record { well = reading.ready.sound; at = (reading, c.clear_output.ensures.empty); rests = unrested place.Reading c.clear_output.new.self; line = c.clear.ensures.cap ∙ (c.requires.sound.line ∙ ap (λ (l : Limits). l.bufsize) (sym (ap (λ (l : LaneState). l.limits) c.clear_output.ensures.same ∙ c.next.ensures.limits))) }

pub returns-clause-leads : goal.returns-clause-leads
returns-clause-leads c = λ cfg vars next came asking now to_server text reply other h.
    let old = c.args.self.now.lane in
    let new = c.clear_output.new.self in
    let same = c.clear_output.ensures.same in
    let input = ap (λ (l : LaneState). l.input) same ∙ c.next.ensures.input in
    record {
      is_for = for_same cfg old new (same_by old new (ap (λ (l : LaneState). l.limits) same ∙ c.next.ensures.limits) (ap (λ (l : LaneState). l.sieve) same ∙ c.next.ensures.sieve)) h.is_for;
      at = record { ending = sym (ap (λ (l : LaneState). l.ended) same ∙ c.next.ensures.ended); lines = λ more. ap (λ (b : Buffer ℕ). behind (b.items ++ more)) (sym input) };
      ending = sym (ap (λ (l : LaneState). l.ended) same ∙ c.next.ensures.ended);
      line = c.clear.ensures.bytes;
      untouched = λ at is. none_there old.input.items (search (rules, c.input_len.ensures, is));
    }
