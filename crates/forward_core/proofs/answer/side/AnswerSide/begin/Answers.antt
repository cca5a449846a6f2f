use Rattle.std.proofs.Common.{false, refl, sym, subst}
use Rattle.http_rules.specs.Lives.{answering}
use Rattle.session_core.specs.Sided.{asker_in}
use Rattle.forward_core.specs.Answer.HeadsRead.{HeardAt}
use Rattle.forward_core.specs.Answer.Stands.{StandsAt, RestsAt}
use Rattle.forward_core.specs.declared.answer.place.Place.{Place}
use Rattle.forward_core.specs.declared.answer.place.Place.TheVariants as place
use Rattle.forward_core.proofs.AnswerLemmas.HeardLemmas.{not_heard}
use Rattle.forward_core.proofs.AnswerLemmas.Views.{at_place, fits_same}
use Rattle.forward_core.proofs.answer.side.AnswerSide.begin.Goals as goal

pub returns-clause-leads : goal.returns-clause-leads
returns-clause-leads c = λ cfg was asking server put now saying s is.
    let old = c.args.self.now in
    let at : StandsAt place.Idle old.status cfg (asker_in was) (answering was.vars) old.lane server put now saying = subst (λ (p : Place). StandsAt p old.status cfg (asker_in was) (answering was.vars) old.lane server put now saying) c.requires.idle s.at in
    record {
      asks = is;
      for_it = s.for_it;
      at = subst (λ (p : Place). StandsAt p old.status cfg (asker_in asking) (answering asking.vars) old.lane server put now saying) (sym c.requires.idle) (at.0, at.1, at.2, at.3);
      heard = not_heard old.heard old.place cfg (asker_in asking) old.lane server (at_place place.Idle old c.requires.idle c.requires.sound.at).2
          (subst (λ (p : Place). HeardAt false p cfg (asker_in asking) old.lane server) (sym c.requires.idle) tt);
      rests = λ _. subst (λ (p : Place). RestsAt p (asker_in asking).head_asked old.lane) (sym c.requires.idle) tt;
    }

pub returns-clause-sound : goal.returns-clause-sound
returns-clause-sound c =
    let old = c.args.self.now in
    record { lane = c.requires.sound.lane; open_is = c.requires.sound.open_is; at = fits_same old.place old _ refl refl refl refl refl c.requires.sound.at }
