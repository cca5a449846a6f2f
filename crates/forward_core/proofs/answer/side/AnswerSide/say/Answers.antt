use Rattle.std.proofs.Common.{refl, sym, ap, ◌∙◌, ◌≡◌, [], ◌++◌, true, false, subst}
use Rattle.std.proofs.lemmas.List.{append-nil}
use Rattle.http_rules.specs.Lives.{answering}
use Rattle.session_core.specs.Sided.{asker_in}
use Rattle.lane.specs.Answering.{with_put, stage_of, output_of}
use Rattle.forward_core.specs.Answer.Seen.{is_done}
use Rattle.forward_core.specs.Answer.Stands.{StandsAt, RestsAt}
use Rattle.forward_core.specs.declared.answer.place.Place.{Place}
use Rattle.forward_core.specs.declared.answer.place.Place.TheVariants as place
use Rattle.forward_core.proofs.AnswerLemmas.Events.{for_new}
use Rattle.forward_core.proofs.AnswerLemmas.HeardLemmas.{heard_puts}
use Rattle.forward_core.proofs.AnswerLemmas.Saying.{says, says_nothing, begins_said, waits_for, sends_still, says_at}
use Rattle.forward_core.proofs.AnswerLemmas.Views.{at_place, last_stage}
use Rattle.forward_core.proofs.answer.side.AnswerSide.say.Goals as goal

pub step-requires-clause-sending : goal.step-requires-clause-sending
step-requires-clause-sending c =
    let old = c.args.self.now in
    let fits = at_place place.Saying old c.requires.says c.requires.sound.at in
    sends_still old.lane (last_stage old.lane.phase old.lane fits.0 c.requires.sound.lane.at) (ap is_done (sym c.stage.ensures) ∙ sym c.is_done.ensures ∙ c.if-is_done.false)

pub returns-then-is_done-clause-leads : goal.returns-then-is_done-clause-leads
returns-then-is_done-clause-leads c = λ cfg asking server put now saying s.
    let old = c.args.self.now in
    let done : is_done (stage_of old.lane) ≡ true = ap is_done (sym c.stage.ensures) ∙ sym c.is_done.ensures ∙ c.if-is_done.true in
    let at : StandsAt place.Saying old.status cfg (asker_in asking) (answering asking.vars) old.lane server put now saying =
    subst (λ (p : Place). StandsAt p old.status cfg (asker_in asking) (answering asking.vars) old.lane server put now saying) c.requires.says s.at in
    record {
      put = [];
      left = saying.left;
      stands = record {
        asks = s.asks;
        for_it = s.for_it;
        at = subst (λ (p : Place). StandsAt p old.status cfg (asker_in asking) (answering asking.vars) old.lane server (put ++ []) now saying) (sym c.requires.says) (at.0, at.1, at.2, at.3, at.4);
        heard = s.heard;
        rests = s.rests;
      };
      said = refl;
      window = sym (append-nil (output_of old.lane));
      all = λ answered. says_nothing old.lane at.0 saying at.2.shows at.1 (c.answer_promise.ensures old.lane at.0 at.1) at.3 done;
      waits = λ off. absurd (let both : true ≡ false = sym (says_at old.place (stage_of old.lane) c.requires.says ∙ done) ∙ off in cc both);
    }

pub returns-clause-leads : goal.returns-clause-leads
returns-clause-leads c = λ cfg asking server put now saying s.
    let old = c.args.self.now in
    let new = c.step.new.self in
    let at : StandsAt place.Saying old.status cfg (asker_in asking) (answering asking.vars) old.lane server put now saying =
    subst (λ (p : Place). StandsAt p old.status cfg (asker_in asking) (answering asking.vars) old.lane server put now saying) c.requires.says s.at in
    let p = c.step.ensures.answers in
    let a = p.answers at.0 at.1 in
    let shows = c.step.ensures.last at.2.shows in
    let promise = c.answer_promise.ensures new (with_put at.0 p.put) a in
    let g = says new at.0 saying p.put shows a promise at.3 in
    let fits = at_place place.Saying old c.requires.says c.requires.sound.at in
    record {
      put = p.put;
      left = g.left;
      stands = record {
        asks = s.asks;
        for_it = for_new cfg old.lane new c.step.ensures.limits c.step.ensures.filters s.for_it;
        at = subst (λ (pl : Place). StandsAt pl old.status cfg (asker_in asking) (answering asking.vars) new server (put ++ p.put) now (record saying { left = g.left })) (sym c.requires.says) (with_put at.0 p.put, a, record { shows = shows; told = at.2.told }, g.is_said, begins_said new (with_put at.0 p.put) (record saying { left = g.left }) a promise g.is_said);
        heard = heard_puts old.heard old.place cfg (asker_in asking) old.lane new server p.put (record { answers = p.answers; ended = c.step.ensures.ended; last = c.step.ensures.last }) s.heard;
        rests = λ _. subst (λ (pl : Place). RestsAt pl (asker_in asking).head_asked new) (sym c.requires.says) tt;
      };
      said = g.said;
      window = p.window;
      all = λ answered. g.all (sym (says_at old.place (stage_of new) c.requires.says) ∙ answered);
      waits = λ off. waits_for new (c.step.ensures.whole at.2.shows fits.1)
          (c.step.ensures.no_stall at.0 at.1 (sends_still new (last_stage new.phase new shows c.step.ensures.sound.at) (sym (says_at old.place (stage_of new) c.requires.says) ∙ off)));
    }
