use Rattle.forward_core.proofs.AnswerLemmas.ReadLemmas.{hears_behind}
use Rattle.forward_core.proofs.answer.side.AnswerSide.hear.Goals as goal

pub returns-in-Interim-clause-leads : goal.returns-in-Interim-clause-leads
returns-in-Interim-clause-leads c = λ cfg asking server put now saying s.
    let x = c.in-Interim.ensures.leads cfg asking server put now saying s in
    hears_behind cfg c.args.self.now c.show_first.new.self c.read_heads.new.self asking server put x.put now saying c.read_heads.result x.window (c.read_heads.ensures.leads cfg asking server _ now saying x.tells)
