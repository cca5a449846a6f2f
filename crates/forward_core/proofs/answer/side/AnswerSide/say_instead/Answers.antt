use Rattle.std.proofs.Common.{◌≡◌, ◌∙◌, ℕ, true, false, refl, sym, ap, subst, arith}
use Rattle.htx_view.specs.Lines.{status_in}
use Rattle.wire_buf.specs.Buffer.{Buffer}
use Rattle.http_rules.specs.Lives.{answering}
use Rattle.session_core.specs.Sided.{asker_in}
use Rattle.forward_core.specs.Answer.HeadsRead.{HeardAt}
use Rattle.forward_core.specs.Answer.Stands.{StandsAt}
use Rattle.forward_core.specs.Answer.Judging.{place_when}
use Rattle.forward_core.specs.declared.answer.place.Place.{Place}
use Rattle.forward_core.specs.declared.answer.side.AnswerSide.{AnswerSide}
use Rattle.forward_core.proofs.AnswerLemmas.Events.{for_new}
use Rattle.forward_core.proofs.AnswerLemmas.HeardLemmas.{heard_last}
use Rattle.forward_core.proofs.AnswerLemmas.JudgeLemmas.{instead_stands}
use Rattle.forward_core.proofs.AnswerLemmas.Statuses.{status_front}
use Rattle.forward_core.proofs.AnswerLemmas.LastLemmas.{when_last, when_fits, goes_out}
use Rattle.forward_core.proofs.answer.side.AnswerSide.say_instead.Goals as goal

pub answer-requires-clause-sound : goal.answer-requires-clause-sound
answer-requires-clause-sound c = c.requires.between.lane

pub answer-requires-clause-unbegun : goal.answer-requires-clause-unbegun
answer-requires-clause-unbegun c = c.requires.between.begun

pub answer-requires-clause-fits : goal.answer-requires-clause-fits
answer-requires-clause-fits c = omega arith

pub returns-clause-leads : goal.returns-clause-leads
returns-clause-leads c = λ cfg asking server put saying now last head body s is line spelled told.
    let old = c.args.self.now in
    let new = c.answer.new.self in
    record {
      asks = s.asks;
      for_it = for_new cfg old.lane new c.answer.ensures.limits c.answer.ensures.filters s.for_it;
      at = subst (λ (p : Place). StandsAt p c.status_of-self.result cfg (asker_in asking) (answering asking.vars) new server put now saying) (sym c.place_when-self.ensures)
          (instead_stands cfg old new asking server put now saying last head body c.args.replied c.status_of-self.result line (c.status_of-self.ensures.status ∙ ap status_in is ∙ status_front head body) s spelled told c.answer.ensures.ended c.answer.ensures.last (c.answer.ensures.answers s.e head body s.in_hand.answers is));
      heard = subst (λ (p : Place). HeardAt old.heard p cfg (asker_in asking) new server) (sym c.place_when-self.ensures)
          (heard_last old.heard (place_when c.args.replied) cfg (asker_in asking) old.lane new server (when_last c.args.replied) c.answer.ensures.ended s.heard);
      rests = λ rest. absurd (let both : false ≡ true = rest in cc both);
    }

pub returns-clause-goes_out : goal.returns-clause-goes_out
returns-clause-goes_out c =
    let old = c.args.self.now in
    let new : AnswerSide = record old { lane = c.answer.new.self; place = c.place_when-self.result; status = c.status_of-self.result; at_rest = false } in
    goes_out old new (place_when c.args.replied) c.requires.between c.place_when-self.ensures (when_last c.args.replied) (when_fits c.args.replied new c.answer.ensures.last c.answer.ensures.source) refl refl c.answer.ensures.sound
    c.answer.ensures.ended (ap (λ (b : Buffer ℕ). b.items) c.answer.ensures.window) c.answer.ensures.limits (ap (λ (b : Buffer ℕ). b.capacity) c.answer.ensures.window)
