use Rattle.std.proofs.Common.{◌++◌, ap, sym, ◌∙◌, take, drop}
use Rattle.h1_head.specs.declared.answer.Side.TheVariants as side
use Rattle.lane.specs.Direction.State.{LaneState}
use Rattle.forward_core.proofs.RequestLemmas.Events.{Keeps, server_takes, for_same, same_by, drop_none}
use Rattle.forward_core.proofs.RequestLemmas.Sounds.{sound_keeps}
use Rattle.forward_core.proofs.RequestLemmas.Resting.{unrested}
use Rattle.forward_core.proofs.request.side.RequestSide.server_took.Goals as goal

pub returns-clause-sound : goal.returns-clause-sound
returns-clause-sound c =
    let e = c.took.ensures in
    record {
      well = e.sound c.requires.sound.well;
      at = sound_keeps c.args.self.now.place c.args.self.now.lane c.took.new.self (e.reading side.Request) (λ none. e.output ∙ ap (drop c.args.n) none ∙ drop_none c.args.n) (ap (λ (l : LaneState). l.stage) e.same) (ap (λ (l : LaneState). l.dropped) e.same)
          (λ p s. (record p { took = p.took ++ take c.args.n c.args.self.now.lane.output.items }, e.stands p s)) c.requires.sound.at;
      rests = unrested c.args.self.now.place c.took.new.self;
      line = c.requires.sound.line ∙ ap (λ (l : LaneState). l.limits.bufsize) (sym e.same);
    }

pub returns-clause-leads : goal.returns-clause-leads
returns-clause-leads c = λ cfg vars came asking to_server reply h.
    let e = c.took.ensures in
    let k : Keeps c.args.self.now.lane c.took.new.self = record { same = same_by c.args.self.now.lane c.took.new.self (ap (λ (l : LaneState). l.limits) e.same) (ap (λ (l : LaneState). l.sieve) e.same); ended = ap (λ (l : LaneState). l.ended) e.same } in
    record {
      is_for = for_same cfg c.args.self.now.lane c.took.new.self k.same h.is_for;
      at = server_takes c.args.self.now.place cfg c.args.self.now.lane c.took.new.self c.args.n vars came asking to_server reply k c.requires.sound.at (ap (λ (l : LaneState). l.input.items) e.same) e.output (ap (λ (l : LaneState). l.dropped) e.same) e.stands h.at;
      ending = h.ending ∙ sym k.ended;
      line = h.line;
      untouched = h.untouched;
    }
