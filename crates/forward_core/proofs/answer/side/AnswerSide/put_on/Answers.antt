use Rattle.std.proofs.Common.{refl, sym, ap, ◌∙◌, ◌≡◌, ◌++◌, [], true, false, subst}
use Rattle.std.specs.Prelude.{is_none}
use Rattle.std.proofs.lemmas.List.{append-nil}
use Rattle.http_rules.specs.Lives.{answering}
use Rattle.session_core.specs.Sided.{asker_in}
use Rattle.lane.specs.Answering.{stage_of, output_of}
use Rattle.forward_core.specs.Answer.Seen.{is_done}
use Rattle.forward_core.specs.Answer.Stands.{StandsAt}
use Rattle.forward_core.specs.declared.answer.side.AnswerSide.{AnswerSide}
use Rattle.forward_core.proofs.AnswerLemmas.Events.{for_new}
use Rattle.forward_core.proofs.AnswerLemmas.Bodies.{done_is}
use Rattle.forward_core.proofs.AnswerLemmas.Resting.{done_rests, last_rests}
use Rattle.forward_core.proofs.AnswerLemmas.HeardLemmas.{heard_puts}
use Rattle.forward_core.proofs.AnswerLemmas.Putting.{puts_at, last_shows, last_fits, last_answered, last_waits}
use Rattle.forward_core.proofs.AnswerLemmas.Answering.{in_hand_at, last_serves}
use Rattle.forward_core.proofs.AnswerLemmas.Saying.{sends_still}
use Rattle.forward_core.proofs.AnswerLemmas.Views.{last_stage, fits_same}
use Rattle.forward_core.proofs.answer.side.AnswerSide.put_on.Goals as goal

pub step-requires-clause-sending : goal.step-requires-clause-sending
step-requires-clause-sending c =
    let old = c.args.self.now in
    sends_still old.lane (last_stage old.lane.phase old.lane (last_shows old.place old c.requires.last c.requires.sound.at) c.requires.sound.lane.at) (ap is_done (sym c.stage.ensures) ∙ sym c.is_done.ensures ∙ c.if-is_done.false)

pub returns-then-is_done-clause-leads : goal.returns-then-is_done-clause-leads
returns-then-is_done-clause-leads c = λ cfg asking server put now saying s.
    let old = c.args.self.now in
    let done : is_done (stage_of old.lane) ≡ true = ap is_done (sym c.stage.ensures) ∙ sym c.is_done.ensures ∙ c.if-is_done.true in
    record {
      put = [];
      stands = record {
        asks = s.asks;
        for_it = s.for_it;
        at = subst (λ xs. StandsAt old.place old.status cfg (asker_in asking) (answering asking.vars) old.lane server xs now saying) (sym (append-nil put)) s.at;
        heard = s.heard;
        rests = λ _. done_rests old.place old.status cfg (asker_in asking) (answering asking.vars) old.lane server put now saying c.requires.last (done_is (stage_of old.lane) done) s.at;
      };
      window = sym (append-nil (output_of old.lane));
      waits = (refl, λ off. absurd (let both : true ≡ false = sym (last_answered old.place (stage_of old.lane) c.requires.last ∙ done) ∙ off in cc both));
    }

pub returns-clause-leads : goal.returns-clause-leads
returns-clause-leads c = λ cfg asking server put now saying s.
    let old = c.args.self.now in
    let new = c.step.new.self in
    let p = c.step.ensures.answers in
    let h = in_hand_at old.place old.status cfg asking old.lane server put now saying (last_serves old.place c.requires.last) s.at in
    let shows = c.step.ensures.last (last_shows old.place old c.requires.last c.requires.sound.at) in
    let side : AnswerSide = record old { lane = new; at_rest = true } in
    let at = puts_at old.place old.status cfg (asker_in asking) (answering asking.vars) old.lane new server put now saying p.put c.requires.last
    (record { answers = p.answers; ended = c.step.ensures.ended; last = c.step.ensures.last }) s.at in
    let fits = last_fits old.place old side c.requires.last c.step.ensures.last c.step.ensures.whole c.requires.sound.at in
    let stage = last_stage new.phase new shows c.step.ensures.sound.at in
    record {
      put = p.put;
      stands = record {
        asks = s.asks;
        for_it = for_new cfg old.lane new c.step.ensures.limits c.step.ensures.filters s.for_it;
        at = at;
        heard = heard_puts old.heard old.place cfg (asker_in asking) old.lane new server p.put (record { answers = p.answers; ended = c.step.ensures.ended; last = c.step.ensures.last }) s.heard;
        rests = λ _. last_rests old.place side cfg (asker_in asking) (answering asking.vars) server (put ++ p.put) now saying c.requires.last fits at stage
            (c.step.ensures.no_stall h.0 h.1.answers) (c.step.ensures.nothing_back h.0 h.1.answers);
      };
      window = p.window;
      waits = (
        refl,
        λ off. last_waits old.place side c.requires.last fits (c.step.ensures.no_stall h.0 h.1.answers (sends_still new stage (sym (last_answered old.place (stage_of new) c.requires.last) ∙ off))),
      );
    }

pub returns-clause-sound : goal.returns-clause-sound
returns-clause-sound c =
    let old = c.args.self.now in
    record {
      lane = c.step.ensures.sound;
      open_is = c.requires.sound.open_is ∙ ap is_none (sym c.step.ensures.ended);
      at = last_fits old.place old (record old { lane = c.step.new.self; at_rest = true }) c.requires.last c.step.ensures.last c.step.ensures.whole c.requires.sound.at;
    }

pub returns-then-is_done-clause-sound : goal.returns-then-is_done-clause-sound
returns-then-is_done-clause-sound c =
    let old = c.args.self.now in
    record { lane = c.requires.sound.lane; open_is = c.requires.sound.open_is; at = fits_same old.place old (record old { at_rest = true }) refl refl refl refl refl c.requires.sound.at }

pub returns-clause-open : goal.returns-clause-open
returns-clause-open c = ap is_none c.step.ensures.ended
