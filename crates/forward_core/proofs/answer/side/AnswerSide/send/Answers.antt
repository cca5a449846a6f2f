use Rattle.std.proofs.Common.{◌≡◌, Bool, refl, sym, ap, ◌∙◌, ℕ, true, false, subst}
use Rattle.htx_view.specs.Lines.{status_in}
use Rattle.wire_buf.specs.Buffer.{Buffer}
use Rattle.http_model.specs.Head.{head_blocks}
use Rattle.http_model.specs.Finish.{response_framing}
use Rattle.session_model.specs.Answering.{finished_response}
use Rattle.forward_core.specs.Meaning.Product.{meaning_of, replaces}
use Rattle.session_core.specs.Sided.{asker_in}
use Rattle.lane.specs.Answering.{blocks_of}
use Rattle.forward_core.specs.Answer.HeadsRead.{ReadBefore}
use Rattle.forward_core.specs.Answer.Hearing.{IsBetween, HasHead, FinalHead}
use Rattle.forward_core.specs.Answer.Judging.{GoesOut}
use Rattle.forward_core.specs.declared.answer.place.Place.TheVariants as place
use Rattle.forward_core.specs.declared.answer.side.AnswerSide.{AnswerSide}
use Rattle.forward_core.proofs.AnswerLemmas.Events.{for_new}
use Rattle.forward_core.proofs.AnswerLemmas.HeardLemmas.{heard_last}
use Rattle.forward_core.proofs.AnswerLemmas.JudgeLemmas.{sends_response}
use Rattle.forward_core.proofs.AnswerLemmas.LastLemmas.{goes_out}
use Rattle.forward_core.proofs.AnswerLemmas.Statuses.{status_head}
use Rattle.forward_core.proofs.answer.side.AnswerSide.send.Goals as goal

pub send-requires-clause-sound : goal.send-requires-clause-sound
send-requires-clause-sound c = (subst IsBetween (sym c.head_status-self.ensures.same) c.requires.between).lane

pub send-requires-clause-head : goal.send-requires-clause-head
send-requires-clause-head c = (subst HasHead (sym c.head_status-self.ensures.same) c.requires.has).stage

pub returns-clause-leads : goal.returns-clause-leads
returns-clause-leads c = λ cfg asking server put now saying received head was edited fits stands replaced.
    let first = c.args.self.now in
    let old = c.head_status-self.new.self in
    let same : first ≡ old = sym c.head_status-self.ensures.same in
    let f = subst (λ (s : AnswerSide). FinalHead cfg s asking server put received) same was in
    let done = finished_response (meaning_of cfg) (asker_in asking) received head in
    let blocks = subst (λ (s : AnswerSide). blocks_of s.lane ≡ head_blocks done) same stands in
    let new = c.send.new.self in
    let status = c.head_status-self.ensures.status ∙ ap status_in stands ∙ status_head done in
    let framed = c.response_framing-framing.ensures ∙ ap (λ r. response_framing r first.asker.is_http_11 c.framing.result) replaced ∙ ap (λ x. response_framing (replaces cfg.res_filters) x c.framing.result) was.read.asks.is_http_11
    ∙ ap (λ x. response_framing (replaces cfg.res_filters) (asker_in asking).is_http_11 x) (c.framing.ensures ∙ was.read.framing) in
    record {
      asks = f.read.asks;
      for_it = for_new cfg old.lane new c.send.ensures.limits c.send.ensures.filters f.read.for_it;
      at = sends_response cfg old new asking server put now received head c.response_framing-framing.result c.head_status-self.result status f edited fits framed c.send.ensures.ended c.send.ensures.last
          (c.send.ensures.answers f.read.e cfg.res_filters done f.read.in_hand.answers f.read.for_it.filters blocks);
      heard = heard_last old.heard place.Response cfg (asker_in asking) old.lane new server refl c.send.ensures.ended
          (subst (λ (b : Bool). ReadBefore b cfg (asker_in asking) old.lane server) (sym f.read.is_heard) f.read.has_read);
      rests = λ rest. absurd (let both : false ≡ true = rest in cc both);
    }

pub returns-clause-goes_out : goal.returns-clause-goes_out
returns-clause-goes_out c =
    let old = c.head_status-self.new.self in
    let new : AnswerSide = record old { lane = c.send.new.self; place = place.Response; status = c.head_status-self.result; at_rest = false } in
    subst (λ (s : AnswerSide). GoesOut s new) c.head_status-self.ensures.same
    (goes_out old new place.Response (subst IsBetween (sym c.head_status-self.ensures.same) c.requires.between) refl refl c.send.ensures.last refl refl c.send.ensures.sound c.send.ensures.ended (ap (λ (b : Buffer ℕ). b.items) c.send.ensures.window) c.send.ensures.limits (ap (λ (b : Buffer ℕ). b.capacity) c.send.ensures.window))
