use Rattle.std.proofs.Common.{◌≡◌, ℕ, [], ap, sym, ◌∙◌, subst}
use Rattle.http_model.specs.declared.Limits.{Limits}
use Rattle.session_core.specs.History.{Coming}
use Rattle.wire_buf.specs.Buffer.{Buffer}
use Rattle.forward_core.specs.declared.request.place.Place.{Place}
use Rattle.forward_core.specs.declared.request.place.Place.TheVariants as place
use Rattle.forward_core.specs.Request.Stands.{SoundAt}
use Rattle.forward_core.proofs.RequestLemmas.Events.{for_same}
use Rattle.forward_core.proofs.RequestLemmas.Sending.{IsBegun, sends_sound, sends_on}
use Rattle.forward_core.proofs.RequestLemmas.Resting.{unrested}
use Rattle.forward_core.proofs.RequestLemmas.Untouched.{behind_head}
use Rattle.forward_core.proofs.request.side.RequestSide.send.Goals as goal

pub returns-clause-sound : goal.returns-clause-sound
returns-clause-sound c =
    let e = c.send.ensures in
    let old = c.args.self.now.lane in
    let b : IsBegun old c.send.new.self c.args.framing = record {
      keeps = record { same = record { limits = e.limits; filters = e.filters }; ended = e.ended };
      input = ap (λ (b : Buffer ℕ). b.items) e.input;
      output = ap (λ (b : Buffer ℕ). b.items) e.output;
      kept = e.kept;
      sends = e.stands;
    } in
    let none : old.output.items ≡ [] = subst (λ (at : Place). SoundAt at old) c.requires.idle c.requires.sound.at in
    record { well = e.sound; at = sends_sound old c.send.new.self c.args.framing c.requires.head.0 b c.requires.sound.well none e.stage c.requires.head.1; rests = unrested place.Sending c.send.new.self; line = c.requires.sound.line ∙ ap (λ (l : Limits). l.bufsize) (sym e.limits) }

pub returns-clause-leads : goal.returns-clause-leads
returns-clause-leads c = λ cfg vars came received env reply h framing rules short fits framed blocks.
    let e = c.send.ensures in
    let old = c.args.self.now.lane in
    let b : IsBegun old c.send.new.self c.args.framing = record {
      keeps = record { same = record { limits = e.limits; filters = e.filters }; ended = e.ended };
      input = ap (λ (b : Buffer ℕ). b.items) e.input;
      output = ap (λ (b : Buffer ℕ). b.items) e.output;
      kept = e.kept;
      sends = e.stands;
    } in
    let none : old.output.items ≡ [] = subst (λ (at : Place). SoundAt at old) c.requires.idle c.requires.sound.at in
    record {
      is_for = for_same cfg old c.send.new.self b.keeps.same h.is_for;
      at = sends_on cfg old c.send.new.self c.args.framing vars came received env h.used b h.is_for none h.head framing rules short fits framed blocks;
      ending = ap (λ (x : Coming). x.ending) h.head.came_is ∙ sym e.ended;
      line = h.line;
      untouched = behind_head came c.args.self.now.untouched;
    }
