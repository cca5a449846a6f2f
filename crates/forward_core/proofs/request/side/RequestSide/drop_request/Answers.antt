use Rattle.forward_core.proofs.RequestLemmas.Events.{Keeps, drops, for_same, same_by}
use Rattle.std.proofs.Common.{ℕ, ap, sym, ◌∙◌, false}
use Rattle.http_model.specs.declared.Limits.{Limits}
use Rattle.wire_buf.specs.Buffer.{Buffer}
use Rattle.forward_core.proofs.RequestLemmas.Sounds.{sound_drops, seen_dropped}
use Rattle.forward_core.proofs.RequestLemmas.Resting.{unrested}
use Rattle.forward_core.proofs.request.side.RequestSide.drop_request.Goals as goal

pub returns-clause-sound : goal.returns-clause-sound
returns-clause-sound c =
    let e = c.discard.ensures in
    record {
      well = e.sound c.requires.sound.well;
      at = sound_drops c.args.self.now.place c.args.self.now.lane c.discard.new.self c.requires.some e.output e.stage e.stands c.requires.sound.at;
      rests = unrested c.args.self.now.place c.discard.new.self;
      line = c.requires.sound.line ∙ ap (λ (l : Limits). l.bufsize) (sym e.limits);
    }

pub returns-clause-leads : goal.returns-clause-leads
returns-clause-leads c = λ cfg vars came asking to_server put reply h is.
    let e = c.discard.ensures in
    let k : Keeps c.args.self.now.lane c.discard.new.self = record { same = same_by c.args.self.now.lane c.discard.new.self e.limits e.sieve; ended = e.ended } in
    record {
      is_for = for_same cfg c.args.self.now.lane c.discard.new.self k.same h.is_for;
      at = drops c.args.self.now.place cfg c.args.self.now.lane c.discard.new.self vars came asking to_server put reply k c.requires.sound.at (ap (λ (b : Buffer ℕ). b.items) e.input) c.requires.some e.dropped e.stands
          (λ p s. c.promise.ensures c.args.self.now.lane p s) is h.at;
      ending = h.ending ∙ sym e.ended;
      line = h.line;
      untouched = h.untouched;
    }

pub returns-clause-seen : goal.returns-clause-seen
returns-clause-seen c =
    let e = c.discard.ensures in
    let old = c.args.self.now.lane in
    let new = c.discard.new.self in
    seen_dropped old new c.args.self.now.place c.args.self.now.line c.args.self.now.awaits c.args.self.now.untouched c.args.self.now.at_rest false c.requires.sound.well (e.sound c.requires.sound.well) e.limits (ap (λ (b : Buffer ℕ). b.items) e.input) e.ended e.output e.source e.stage e.dropped e.blocks
