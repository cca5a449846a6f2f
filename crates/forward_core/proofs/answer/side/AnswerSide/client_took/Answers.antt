use Rattle.std.proofs.Common.{◌≡◌, true, false, refl, sym, ap, ◌∙◌, ℕ, length}
use Rattle.std.specs.Prelude.{is_none, ◌-◌}
use Rattle.wire_buf.specs.Buffer.{Buffer}
use Rattle.http_rules.specs.Lives.{answering}
use Rattle.session_core.specs.Sided.{asker_in}
use Rattle.forward_core.specs.Answer.Seen.{told_at, answered_at}
use Rattle.forward_core.proofs.AnswerLemmas.Events.{took_at, for_new}
use Rattle.forward_core.proofs.AnswerLemmas.HeardLemmas.{heard_took}
use Rattle.forward_core.proofs.AnswerLemmas.Views.{seen_same, fits_same}
use Rattle.forward_core.proofs.answer.side.AnswerSide.client_took.Goals as goal

pub returns-clause-leads : goal.returns-clause-leads
returns-clause-leads c = λ cfg asking server put now saying s.
    let old = c.args.self.now in
    record {
      asks = s.asks;
      for_it = for_new cfg old.lane c.took.new.self c.took.ensures.limits c.took.ensures.filters s.for_it;
      at = took_at old.place old.status cfg (asker_in asking) (answering asking.vars) old.lane c.took.new.self server put now saying
          (record { answers = c.took.ensures.answers; ended = c.took.ensures.ended; phase = c.took.ensures.phase; begun = c.took.ensures.begun }) s.at;
      heard = heard_took old.heard old.place cfg (asker_in asking) old.lane c.took.new.self server
          (record { answers = c.took.ensures.answers; ended = c.took.ensures.ended; phase = c.took.ensures.phase; begun = c.took.ensures.begun }) s.heard;
      rests = λ rest. absurd (let both : false ≡ true = rest in cc both);
    }

pub returns-clause-seen : goal.returns-clause-seen
returns-clause-seen c =
    let old = c.args.self.now in
    seen_same _ _ (ap is_none c.took.ensures.ended) (ap (λ (b : Buffer ℕ). b.capacity - length b.items) c.took.ensures.came) c.took.ensures.output
    (ap (told_at old.place) c.took.ensures.source) (ap (answered_at old.place) c.took.ensures.stage) c.took.ensures.begun refl refl refl

pub returns-clause-sound : goal.returns-clause-sound
returns-clause-sound c =
    let old = c.args.self.now in
    record {
      lane = c.took.ensures.sound c.requires.sound.lane;
      open_is = c.requires.sound.open_is ∙ ap is_none (sym c.took.ensures.ended);
      at = fits_same old.place old _ refl c.took.ensures.stage c.took.ensures.begun c.took.ensures.phase c.took.ensures.source c.requires.sound.at;
    }
