use Rattle.std.proofs.Common.{ap, ◌∙◌}
use Rattle.forward_core.specs.Answer.Stands.{is_serving}
use Rattle.forward_core.proofs.AnswerLemmas.StepLemmas.{steps_on}
use Rattle.forward_core.proofs.answer.side.AnswerSide.step_answer.Goals as goal

pub put_out-requires : goal.put_out-requires
put_out-requires c = record { sound = c.in_ok-decide.ensures.keeps.sound }

pub returns-clause-leads : goal.returns-clause-leads
returns-clause-leads c = λ cfg asking server put now saying s runs vars.
    let d = c.in_ok-decide.ensures.leads cfg asking server put now saying s runs vars in
    steps_on cfg c.args.self.now c.decide.new.self c.put_out.new.self asking server put saying c.decide.new.rules.vars c.in_ok-decide.ensures.keeps.serving d c.put_out.ensures.place c.put_out.ensures.rests
    (λ last. c.put_out.ensures.leads cfg asking server _ d.behind saying d.stands last)

pub returns-clause-serving : goal.returns-clause-serving
returns-clause-serving c = ap is_serving c.put_out.ensures.place ∙ c.in_ok-decide.ensures.keeps.serving

pub returns-clause-begun : goal.returns-clause-begun
returns-clause-begun c = λ was. c.put_out.ensures.begun (c.in_ok-decide.ensures.keeps.begun was)

pub returns-clause-heard : goal.returns-clause-heard
returns-clause-heard c = λ was. c.put_out.ensures.heard ∙ c.in_ok-decide.ensures.keeps.heard was

pub returns-clause-open : goal.returns-clause-open
returns-clause-open c = c.put_out.ensures.open ∙ c.in_ok-decide.ensures.keeps.is_open

pub returns-clause-size : goal.returns-clause-size
returns-clause-size c = c.put_out.ensures.size ∙ c.in_ok-decide.ensures.keeps.size

pub returns-clause-window_size : goal.returns-clause-window_size
returns-clause-window_size c = c.put_out.ensures.window_size ∙ c.in_ok-decide.ensures.keeps.window_size
