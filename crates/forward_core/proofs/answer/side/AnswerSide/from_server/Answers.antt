use Rattle.std.proofs.Common.{◌≡◌, true, false, refl, sym, ap, ◌∙◌, ℕ, ◌+◌, length, length-append}
use Rattle.std.specs.Prelude.{is_none}
use Rattle.http_model.specs.declared.Limits.{Limits}
use Rattle.wire_buf.specs.Buffer.{Buffer}
use Rattle.http_rules.specs.Lives.{answering}
use Rattle.session_core.specs.Sided.{asker_in}
use Rattle.lane.specs.Answering.{ended_of, most_of, input_of}
use Rattle.forward_core.specs.Answer.Seen.{told_at, answered_at}
use Rattle.forward_core.proofs.AnswerLemmas.Events.{takes_at, for_new, none_of}
use Rattle.forward_core.proofs.AnswerLemmas.HeardLemmas.{heard_takes}
use Rattle.forward_core.proofs.AnswerLemmas.Views.{seen_same, room_less, fits_same}
use Rattle.forward_core.proofs.answer.side.AnswerSide.from_server.Goals as goal

pub push-requires-clause-open : goal.push-requires-clause-open
push-requires-clause-open c = none_of (ended_of c.args.self.now.lane) c.requires.open

pub returns-clause-leads : goal.returns-clause-leads
returns-clause-leads c = λ cfg asking server put now saying s.
    let old = c.args.self.now in
    record {
      asks = s.asks;
      for_it = for_new cfg old.lane c.push.new.self c.push.ensures.limits c.push.ensures.filters s.for_it;
      at = takes_at old.place old.status cfg (asker_in asking) (answering asking.vars) old.lane c.push.new.self server put now saying c.args.bytes.now
          (record { answers = c.push.ensures.answers; is_open = none_of (ended_of old.lane) c.requires.open; ended = c.push.ensures.ended; phase = c.push.ensures.phase; begun = c.push.ensures.begun }) s.at;
      heard = heard_takes old.heard old.place cfg (asker_in asking) old.lane c.push.new.self server c.args.bytes.now
          (record { answers = c.push.ensures.answers; is_open = none_of (ended_of old.lane) c.requires.open; ended = c.push.ensures.ended; phase = c.push.ensures.phase; begun = c.push.ensures.begun }) s.heard;
      rests = λ rest. absurd (let both : false ≡ true = rest in cc both);
    }

pub returns-clause-seen : goal.returns-clause-seen
returns-clause-seen c =
    let old = c.args.self.now in
    let new = c.push.new.self in
    let came : length (input_of new) ≡ length (input_of old.lane) + length c.args.bytes.now = ap length c.push.ensures.input ∙ length-append (input_of old.lane) c.args.bytes.now in
    let most : most_of new ≡ most_of old.lane =
    (c.push.ensures.sound c.requires.sound.lane).sound.sized.input ∙ ap (λ (l : Limits). l.bufsize) c.push.ensures.limits ∙ sym c.requires.sound.lane.sound.sized.input in
    seen_same _ _ (ap is_none c.push.ensures.ended) (room_less (most_of old.lane) (most_of new) (length (input_of old.lane)) (length (input_of new)) (length c.args.bytes.now) most came)
    (ap (λ (b : Buffer ℕ). b.items) c.push.ensures.window) (ap (told_at old.place) c.push.ensures.source) (ap (answered_at old.place) c.push.ensures.stage) c.push.ensures.begun refl refl refl

pub returns-clause-sound : goal.returns-clause-sound
returns-clause-sound c =
    let old = c.args.self.now in
    record {
      lane = c.push.ensures.sound c.requires.sound.lane;
      open_is = c.requires.sound.open_is ∙ ap is_none (sym c.push.ensures.ended);
      at = fits_same old.place old _ refl c.push.ensures.stage c.push.ensures.begun c.push.ensures.phase c.push.ensures.source c.requires.sound.at;
    }
