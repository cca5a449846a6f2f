use Rattle.std.proofs.Common.{◌≡◌, true, false, refl, sym, ap, ℕ, length}
use Rattle.std.specs.Prelude.{is_none, ◌-◌}
use Rattle.wire_buf.specs.Buffer.{Buffer}
use Rattle.http_rules.specs.Lives.{answering}
use Rattle.session_core.specs.Sided.{asker_in}
use Rattle.lane.specs.Answering.{ended_of}
use Rattle.forward_core.specs.Answer.Seen.{told_at, answered_at}
use Rattle.forward_core.proofs.AnswerLemmas.Events.{ends_at, for_new, none_of}
use Rattle.forward_core.proofs.AnswerLemmas.HeardLemmas.{heard_ends}
use Rattle.forward_core.proofs.AnswerLemmas.Views.{seen_same, fits_same}
use Rattle.forward_core.proofs.answer.side.AnswerSide.server_ended.Goals as goal

pub end-requires : goal.end-requires
end-requires c = none_of (ended_of c.args.self.now.lane) c.requires.open

pub returns-clause-leads : goal.returns-clause-leads
returns-clause-leads c = λ cfg asking server put now saying s.
    let old = c.args.self.now in
    record {
      asks = s.asks;
      for_it = for_new cfg old.lane c.end.new.self c.end.ensures.limits c.end.ensures.filters s.for_it;
      at = ends_at old.place old.status cfg (asker_in asking) (answering asking.vars) old.lane c.end.new.self server put now saying c.args.how
          (record { answers = c.end.ensures.answers; is_open = none_of (ended_of old.lane) c.requires.open; ended = c.end.ensures.ended; phase = c.end.ensures.phase; begun = c.end.ensures.begun }) s.at;
      heard = heard_ends old.heard old.place cfg (asker_in asking) old.lane c.end.new.self server c.args.how
          (record { answers = c.end.ensures.answers; is_open = none_of (ended_of old.lane) c.requires.open; ended = c.end.ensures.ended; phase = c.end.ensures.phase; begun = c.end.ensures.begun }) s.heard;
      rests = λ rest. absurd (let both : false ≡ true = rest in cc both);
    }

pub returns-clause-seen : goal.returns-clause-seen
returns-clause-seen c =
    let old = c.args.self.now in
    seen_same _ _ (ap is_none c.end.ensures.ended) (ap (λ (b : Buffer ℕ). b.capacity - length b.items) c.end.ensures.came) (ap (λ (b : Buffer ℕ). b.items) c.end.ensures.window)
    (ap (told_at old.place) c.end.ensures.source) (ap (answered_at old.place) c.end.ensures.stage) c.end.ensures.begun refl refl refl

pub returns-clause-sound : goal.returns-clause-sound
returns-clause-sound c =
    let old = c.args.self.now in
    record {
      lane = c.end.ensures.sound c.requires.sound.lane;
      open_is = sym (ap is_none c.end.ensures.ended);
      at = fits_same old.place old _ refl c.end.ensures.stage c.end.ensures.begun c.end.ensures.phase c.end.ensures.source c.requires.sound.at;
    }
