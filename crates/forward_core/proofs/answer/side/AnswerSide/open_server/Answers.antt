use Rattle.std.proofs.Common.{refl, sym, ap, ◌∙◌, ◌≡◌, true, false, ℕ, inr, subst}
use Rattle.std.specs.Prelude.{is_none}
use Rattle.wire_buf.specs.Buffer.{Buffer}
use Rattle.http_rules.specs.Lives.{answering}
use Rattle.session_core.specs.Sided.{asker_in}
use Rattle.lane.specs.Answering.{fresh}
use Rattle.lane.specs.declared.direction.stage.Stage.TheVariants as stage
use Rattle.forward_core.specs.Answer.Stands.{StandsAt}
use Rattle.forward_core.specs.declared.answer.place.Place.{Place}
use Rattle.forward_core.specs.declared.answer.place.Place.TheVariants as place
use Rattle.forward_core.proofs.AnswerLemmas.Events.{for_new, none_sent}
use Rattle.forward_core.proofs.AnswerLemmas.Views.{at_place}
use Rattle.forward_core.proofs.answer.side.AnswerSide.open_server.Goals as goal

pub restart-requires-clause-rests : goal.restart-requires-clause-rests
restart-requires-clause-rests c = inr ((at_place place.Idle c.args.self.now c.requires.idle c.requires.sound.at).0)

pub returns-clause-leads : goal.returns-clause-leads
returns-clause-leads c = λ cfg asking server put now saying s.
    let old = c.args.self.now in
    let at : StandsAt place.Idle old.status cfg (asker_in asking) (answering asking.vars) old.lane server put now saying = subst (λ (p : Place). StandsAt p old.status cfg (asker_in asking) (answering asking.vars) old.lane server put now saying) c.requires.idle s.at in
    record {
      asks = s.asks;
      for_it = for_new cfg old.lane c.restart.new.self c.restart.ensures.limits c.restart.ensures.filters s.for_it;
      at = (
        fresh (asker_in asking).head_asked,
        record {
          answers = c.restart.ensures.answers (asker_in asking).head_asked;
          asked = refl;
          bytes = refl;
          ending = c.restart.ensures.open;
          passed = sym (none_sent (asker_in asking));
          put_is = sym at.3;
        },
        refl,
      );
      heard = record {
        e = fresh (asker_in asking).head_asked;
        answers = c.restart.ensures.answers (asker_in asking).head_asked;
        asked = refl;
        bytes = refl;
        ending = c.restart.ensures.open;
        read = refl;
        passed = refl;
      };
      rests = λ rest. absurd (let both : false ≡ true = rest in cc both);
    }

pub returns-clause-open : goal.returns-clause-open
returns-clause-open c = ap is_none c.restart.ensures.open

pub returns-clause-begun : goal.returns-clause-begun
returns-clause-begun c = c.restart.ensures.begun

pub returns-clause-window : goal.returns-clause-window
returns-clause-window c = ap (λ (b : Buffer ℕ). b.items) c.restart.ensures.window

pub returns-clause-sound : goal.returns-clause-sound
returns-clause-sound c =
    record {
      lane = c.restart.ensures.sound;
      open_is = sym (ap is_none c.restart.ensures.open);
      at = (
        c.restart.ensures.begun,
        c.restart.ensures.last,
        λ done. (let both : stage.Reading ≡ stage.Done = sym c.restart.ensures.stage ∙ done in cc both),
        λ head. (let both : stage.Reading ≡ stage.Head = sym c.restart.ensures.stage ∙ head in cc both),
      );
    }
