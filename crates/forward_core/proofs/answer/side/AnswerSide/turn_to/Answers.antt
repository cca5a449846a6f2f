use Rattle.std.proofs.Common.{ap, sym, ◌∙◌}
use Rattle.htx_view.specs.Lines.{status_in}
use Rattle.session_core.specs.Sided.{asker_in}
use Rattle.lane.specs.Answering.{replies}
use Rattle.forward_core.specs.Answer.Seen.{is_done}
use Rattle.forward_core.proofs.AnswerLemmas.Answering.{in_hand_at, begins_with}
use Rattle.forward_core.proofs.AnswerLemmas.Events.{for_new}
use Rattle.forward_core.proofs.AnswerLemmas.HeardLemmas.{heard_said}
use Rattle.forward_core.proofs.AnswerLemmas.Statuses.{status_front}
use Rattle.forward_core.proofs.AnswerLemmas.Saying.{turned, begins_said}
use Rattle.forward_core.proofs.answer.side.AnswerSide.turn_to.Goals as goal

pub returns-clause-leads : goal.returns-clause-leads
returns-clause-leads c = λ cfg asking server put now saying head body s is line.
    let old = c.args.self.now in
    let new = c.answer.new.self in
    let h = in_hand_at old.place old.status cfg asking old.lane server put now saying c.requires.serving s.at in
    let begins = begins_with cfg (asker_in asking) old.lane server put h.0 s.for_it h.1 (c.answer_promise.ensures old.lane h.0 h.1.answers) in
    let a = c.answer.ensures.answers h.0 head body h.1.answers is in
    let t = turned cfg (asker_in asking) old.lane new server put h.0 head body old.asker.head_asked line s.asks.head_asked h.1 c.answer.ensures.last a (c.answer_promise.ensures new (replies h.0 head body old.asker.head_asked) a) begins in
    record {
      left = t.left;
      stands = record {
        asks = s.asks;
        for_it = for_new cfg old.lane new c.answer.ensures.limits c.answer.ensures.filters s.for_it;
        at = (t.e, t.answers, record { shows = c.answer.ensures.last; told = c.status_of-self.ensures.status ∙ ap status_in is ∙ status_front head body ∙ sym t.last }, t.is_said, begins_said new t.e _ t.answers (c.answer_promise.ensures new t.e t.answers) t.is_said);
        heard = heard_said old.heard old.place cfg (asker_in asking) old.lane new server c.answer.ensures.ended s.heard;
        rests = λ _. tt;
      };
      heads = t.heads;
      begins = t.begins;
      said = t.said;
      starts = ap is_done c.answer.ensures.stage;
    }
