use Rattle.std.proofs.Common.{ap, subst, ◌∙◌}
use Rattle.htx_view.specs.Lines.{status_in}
use Rattle.http_rules.specs.Lives.{answering}
use Rattle.session_core.specs.Sided.{asker_in}
use Rattle.lane.specs.Answering.{replies}
use Rattle.forward_core.specs.Answer.Stands.{StandsAt, list_text}
use Rattle.forward_core.specs.declared.answer.place.Place.{Place}
use Rattle.forward_core.specs.declared.answer.place.Place.TheVariants as place
use Rattle.forward_core.proofs.AnswerLemmas.Events.{for_new}
use Rattle.forward_core.proofs.AnswerLemmas.HeardLemmas.{heard_said}
use Rattle.forward_core.proofs.AnswerLemmas.Saying.{said_at, begins_unsaid}
use Rattle.forward_core.proofs.AnswerLemmas.Statuses.{status_front}
use Rattle.forward_core.proofs.AnswerLemmas.Views.{at_place}
use Rattle.forward_core.proofs.answer.side.AnswerSide.begin_saying.Goals as goal

pub answer-requires-clause-unbegun : goal.answer-requires-clause-unbegun
answer-requires-clause-unbegun c = (at_place place.Idle c.args.self.now c.requires.idle c.requires.sound.at).1

pub returns-clause-leads : goal.returns-clause-leads
returns-clause-leads c = λ cfg asking server put now saying head body s is line.
    let old = c.args.self.now in
    let at : StandsAt place.Idle old.status cfg (asker_in asking) (answering asking.vars) old.lane server put now saying = subst (λ (p : Place). StandsAt p old.status cfg (asker_in asking) (answering asking.vars) old.lane server put now saying) c.requires.idle s.at in
    record {
      asks = s.asks;
      for_it = for_new cfg old.lane c.answer.new.self c.answer.ensures.limits c.answer.ensures.filters s.for_it;
      at = (replies at.0 head body c.args.no_body, c.answer.ensures.answers at.0 head body at.1 is, record { shows = c.answer.ensures.last; told = c.status_of-self.ensures.status ∙ ap status_in is ∙ status_front head body }, said_at at.0 head body c.args.no_body line at.2, begins_unsaid _ (list_text c.args.no_body head body) (c.answer.ensures.begun ∙ (at_place place.Idle old c.requires.idle c.requires.sound.at).1));
      heard = heard_said old.heard old.place cfg (asker_in asking) old.lane c.answer.new.self server c.answer.ensures.ended s.heard;
      rests = λ _. tt;
    }

pub returns-clause-heard : goal.returns-clause-heard
returns-clause-heard c = (at_place place.Idle c.args.self.now c.requires.idle c.requires.sound.at).2
