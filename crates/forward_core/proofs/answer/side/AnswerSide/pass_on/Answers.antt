use Rattle.std.proofs.Common.{◌≡◌, [], take, arith, sym, subst}
use Rattle.lane.specs.declared.response_lane.ResponseLane.{ResponseLane}
use Rattle.forward_core.specs.Answer.Said.{AnswerPuts}
use Rattle.lane.specs.Answering.{ended_of}
use Rattle.forward_core.proofs.AnswerLemmas.Events.{none_of}
use Rattle.forward_core.proofs.AnswerLemmas.PassLemmas.{passes, puts_none}
use Rattle.forward_core.proofs.answer.side.AnswerSide.pass_on.Goals as goal

pub returns-then-count-eq0-clause-leads : goal.returns-then-count-eq0-clause-leads
returns-then-count-eq0-clause-leads c =
    let old = c.args.self.now in
    let same : c.pass_data-count.new.self ≡ old.lane = c.pass_data-count.ensures.none c.if-count-eq0.true in
    subst (λ (lane : ResponseLane). AnswerPuts old (record old { lane = lane }) []) (sym same) (puts_none old)

pub returns-clause-leads : goal.returns-clause-leads
returns-clause-leads c = λ cfg asking server put now saying s.
    let old = c.args.self.now in
    let e = c.pass_data-count.ensures in
    passes cfg old c.pass_data-count.new.self (take c.pass_data-count.result c.args.bytes.now) c.requires.last (none_of (ended_of old.lane) c.requires.open) (e.as_if (omega arith))
    asking server put now saying s
