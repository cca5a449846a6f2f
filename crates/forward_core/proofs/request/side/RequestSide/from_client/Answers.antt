use Rattle.std.proofs.Common.{◌++◌, ◌+◌, ◌-◌, false, ap, sym, ◌∙◌, length, refl}
use Rattle.std.specs.Prelude.{is_none}
use Rattle.h1_head.specs.declared.answer.Side.TheVariants as side
use Rattle.lane.specs.Direction.State.{LaneState}
use Rattle.forward_core.specs.Request.Seen.{unread_at, to_read}
use Rattle.forward_core.proofs.RequestLemmas.Events.{Takes, takes, for_same, same_by}
use Rattle.forward_core.proofs.RequestLemmas.Sounds.{none_is, sound_keeps, room_less, unread_more, seen_as}
use Rattle.forward_core.proofs.RequestLemmas.Lines.{line_takes}
use Rattle.forward_core.proofs.RequestLemmas.Resting.{unrested}
use Rattle.forward_core.proofs.RequestLemmas.Untouched.{once_touched}
use Rattle.session_core.specs.History.{gains}
use Rattle.forward_core.proofs.request.side.RequestSide.from_client.Goals as goal

pub returns-clause-sound : goal.returns-clause-sound
returns-clause-sound c =
    let e = c.push.ensures in
    record {
      well = e.sound c.requires.sound.well;
      at = sound_keeps c.args.self.now.place c.args.self.now.lane c.push.new.self (e.reading side.Request) (λ none. ap (λ (l : LaneState). l.output.items) e.same ∙ none) (ap (λ (l : LaneState). l.stage) e.same) (ap (λ (l : LaneState). l.dropped) e.same)
          (λ p s. (record p { bytes = p.bytes ++ c.args.bytes.now }, e.stands p s)) c.requires.sound.at;
      rests = unrested c.args.self.now.place c.push.new.self;
      line = c.requires.sound.line ∙ ap (λ (l : LaneState). l.limits.bufsize) (sym e.same);
    }

pub returns-clause-leads : goal.returns-clause-leads
returns-clause-leads c = λ cfg vars came asking to_server reply h.
    let e = c.push.ensures in
    let t : Takes c.args.self.now.lane c.push.new.self c.args.bytes.now = record {
      same = same_by c.args.self.now.lane c.push.new.self (ap (λ (l : LaneState). l.limits) e.same) (ap (λ (l : LaneState). l.sieve) e.same);
      open_ = none_is c.args.self.now.lane.ended c.requires.open;
      still = ap (λ (l : LaneState). l.ended) e.same ∙ none_is c.args.self.now.lane.ended c.requires.open;
      input = e.input;
      output = ap (λ (l : LaneState). l.output.items) e.same;
      dropped = ap (λ (l : LaneState). l.dropped) e.same;
      sends = e.stands;
    } in
    record {
      is_for = for_same cfg c.args.self.now.lane c.push.new.self t.same h.is_for;
      at = takes c.args.self.now.place cfg c.args.self.now.lane c.push.new.self c.args.bytes.now vars came asking to_server reply t h.at;
      ending = h.ending ∙ sym (ap (λ (l : LaneState). l.ended) e.same);
      line = line_takes c.args.self.now.place cfg came c.args.bytes.now c.args.self.now.line.bytes (h.ending ∙ t.open_) h.line;
      untouched = λ at is. once_touched (gains came c.args.bytes.now) refl is;
    }

pub returns-clause-seen : goal.returns-clause-seen
returns-clause-seen c =
    let e = c.push.ensures in
    let old = c.args.self.now.lane in
    let new = c.push.new.self in
    let at = c.args.self.now.place in
    seen_as old new at c.args.self.now.line c.args.self.now.awaits c.args.self.now.untouched false c.args.self.now.at_rest false (is_none old.ended) old.dropped
    (old.input.capacity - length old.input.items - length c.args.bytes.now) (unread_at at old.input.items + to_read at (length c.args.bytes.now)) old.output.items
    (ap (λ (l : LaneState). is_none l.ended) e.same) (room_less old new c.args.bytes.now c.requires.sound.well (e.sound c.requires.sound.well) (ap (λ (l : LaneState). l.limits) e.same) e.input)
    (unread_more at old new c.args.bytes.now e.input) (ap (λ (l : LaneState). l.output.items) e.same) (ap (λ (l : LaneState). l.source) e.same) (ap (λ (l : LaneState). l.stage) e.same) (ap (λ (l : LaneState). l.dropped) e.same) (ap (λ (l : LaneState). l.msg) e.same)
