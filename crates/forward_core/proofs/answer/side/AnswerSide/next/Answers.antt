use Rattle.std.proofs.Common.{refl, sym, ap, ◌∙◌, ℕ, true}
use Rattle.std.specs.Prelude.{is_none}
use Rattle.wire_buf.specs.Buffer.{Buffer}
use Rattle.lane.specs.Answering.{fresh, with_bytes, input_of, stage_of}
use Rattle.forward_core.proofs.AnswerLemmas.Events.{for_new}
use Rattle.forward_core.proofs.AnswerLemmas.Views.{answered_done}
use Rattle.forward_core.proofs.answer.side.AnswerSide.next.Goals as goal

pub next-requires-clause-done : goal.next-requires-clause-done
next-requires-clause-done c = answered_done c.args.self.now.place (stage_of c.args.self.now.lane) c.requires.answered

pub returns-clause-leads : goal.returns-clause-leads
returns-clause-leads c = λ cfg asking server put now saying s.
    let old = c.args.self.now in
    record {
      asks = s.asks;
      for_it = for_new cfg old.lane c.next.new.self c.next.ensures.limits c.next.ensures.filters s.for_it;
      at = (with_bytes (fresh true) (input_of old.lane), c.next.ensures.answers true, record { put = refl; passed = refl }, refl);
      heard = tt;
      rests = λ _. tt;
    }

pub returns-clause-window : goal.returns-clause-window
returns-clause-window c = ap (λ (b : Buffer ℕ). b.items) c.next.ensures.window

pub returns-clause-sound : goal.returns-clause-sound
returns-clause-sound c =
    record {
      lane = c.next.ensures.sound;
      open_is = c.requires.sound.open_is ∙ ap is_none (sym c.next.ensures.ended);
      at = (c.next.ensures.stage, c.next.ensures.begun, refl);
    }
