use Rattle.std.proofs.Common.{ap, sym, ◌∙◌}
use Rattle.h1_head.specs.declared.answer.Side.TheVariants as side
use Rattle.lane.specs.Direction.State.{LaneState}
use Rattle.forward_core.proofs.RequestLemmas.Events.{EndsSo, ended, for_same, same_by}
use Rattle.forward_core.proofs.RequestLemmas.Sounds.{none_is, sound_keeps}
use Rattle.forward_core.proofs.RequestLemmas.Lines.{line_stays}
use Rattle.forward_core.proofs.RequestLemmas.Resting.{unrested}
use Rattle.forward_core.proofs.request.side.RequestSide.client_ended.Goals as goal

pub returns-clause-sound : goal.returns-clause-sound
returns-clause-sound c =
    let e = c.end.ensures in
    record {
      well = e.sound c.requires.sound.well;
      at = sound_keeps c.args.self.now.place c.args.self.now.lane c.end.new.self (e.reading side.Request) (λ none. ap (λ (l : LaneState). l.output.items) e.same ∙ none) (ap (λ (l : LaneState). l.stage) e.same) (ap (λ (l : LaneState). l.dropped) e.same) (λ p s. (p, e.stands p s)) c.requires.sound.at;
      rests = unrested c.args.self.now.place c.end.new.self;
      line = c.requires.sound.line ∙ ap (λ (l : LaneState). l.limits.bufsize) (sym e.same);
    }

pub returns-clause-leads : goal.returns-clause-leads
returns-clause-leads c = λ cfg vars came asking to_server reply h.
    let e = c.end.ensures in
    let t : EndsSo c.args.self.now.lane c.end.new.self c.args.how = record {
      same = same_by c.args.self.now.lane c.end.new.self (ap (λ (l : LaneState). l.limits) e.same) (ap (λ (l : LaneState). l.sieve) e.same);
      open_ = none_is c.args.self.now.lane.ended c.requires.open;
      ended = ap (λ (l : LaneState). l.ended) e.same;
      input = ap (λ (l : LaneState). l.input.items) e.same;
      output = ap (λ (l : LaneState). l.output.items) e.same;
      dropped = ap (λ (l : LaneState). l.dropped) e.same;
      sends = e.stands;
    } in
    record {
      is_for = for_same cfg c.args.self.now.lane c.end.new.self t.same h.is_for;
      at = ended c.args.self.now.place cfg c.args.self.now.lane c.end.new.self c.args.how vars came asking to_server reply t h.at;
      ending = sym t.ended;
      line = line_stays c.args.self.now.place cfg came c.args.how c.args.self.now.line.bytes (h.ending ∙ t.open_) h.line;
      untouched = h.untouched;
    }
