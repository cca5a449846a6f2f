use Rattle.std.proofs.Common.{◌++◌, refl, ◌∙◌}
use Rattle.forward_core.specs.declared.answer.hearing.Heard.TheVariants as heard
use Rattle.forward_core.proofs.AnswerLemmas.ReadLemmas.{hears_behind}
use Rattle.forward_core.proofs.answer.side.AnswerSide.read_heads.Goals as goal

pub heads-preserved : goal.heads-preserved
heads-preserved c = record {
  between = c.in-Interim.ensures.between;
  reading = c.in-Interim.ensures.there;
  leads = λ cfg asking server put now saying s.
      let x = c.heads.invariant.leads cfg asking server put now saying s in
      hears_behind cfg c.args.self.now c.heads.self c.read_on.new.self asking server put x.put now saying heard.Interim x.window (c.in-Interim.ensures.leads cfg asking server (put ++ x.put) now saying x.tells);
  is_open = c.in-Interim.ensures.open ∙ c.heads.invariant.is_open;
  heard_still = λ was. c.in-Interim.ensures.heard (c.heads.invariant.heard_still was);
  size = c.in-Interim.ensures.size ∙ c.heads.invariant.size;
  window_size = c.in-Interim.ensures.window_size ∙ c.heads.invariant.window_size;
}

pub heads-smaller : goal.heads-smaller
heads-smaller c = c.in-Interim.ensures.less refl

pub returns-in-More-clause-leads : goal.returns-in-More-clause-leads
returns-in-More-clause-leads c = λ cfg asking server put now saying s.
    let x = c.heads.invariant.leads cfg asking server put now saying s in
    hears_behind cfg c.args.self.now c.heads.self c.read_on.new.self asking server put x.put now saying heard.More x.window (c.in-More.ensures.leads cfg asking server (put ++ x.put) now saying x.tells)

pub returns-in-More-clause-open : goal.returns-in-More-clause-open
returns-in-More-clause-open c = c.in-More.ensures.open ∙ c.heads.invariant.is_open

pub returns-in-More-clause-heard : goal.returns-in-More-clause-heard
returns-in-More-clause-heard c = λ was. c.in-More.ensures.heard (c.heads.invariant.heard_still was)

pub returns-in-More-clause-size : goal.returns-in-More-clause-size
returns-in-More-clause-size c = c.in-More.ensures.size ∙ c.heads.invariant.size

pub returns-in-More-clause-window_size : goal.returns-in-More-clause-window_size
returns-in-More-clause-window_size c = c.in-More.ensures.window_size ∙ c.heads.invariant.window_size

pub returns-in-Final-clause-leads : goal.returns-in-Final-clause-leads
returns-in-Final-clause-leads c = λ cfg asking server put now saying s.
    let x = c.heads.invariant.leads cfg asking server put now saying s in
    hears_behind cfg c.args.self.now c.heads.self c.read_on.new.self asking server put x.put now saying heard.Final x.window (c.in-Final.ensures.leads cfg asking server (put ++ x.put) now saying x.tells)

pub returns-in-Final-clause-open : goal.returns-in-Final-clause-open
returns-in-Final-clause-open c = c.in-Final.ensures.open ∙ c.heads.invariant.is_open

pub returns-in-Final-clause-heard : goal.returns-in-Final-clause-heard
returns-in-Final-clause-heard c = λ was. c.in-Final.ensures.heard (c.heads.invariant.heard_still was)

pub returns-in-Final-clause-size : goal.returns-in-Final-clause-size
returns-in-Final-clause-size c = c.in-Final.ensures.size ∙ c.heads.invariant.size

pub returns-in-Final-clause-window_size : goal.returns-in-Final-clause-window_size
returns-in-Final-clause-window_size c = c.in-Final.ensures.window_size ∙ c.heads.invariant.window_size

pub returns-in-Refused-clause-leads : goal.returns-in-Refused-clause-leads
returns-in-Refused-clause-leads c = λ cfg asking server put now saying s.
    let x = c.heads.invariant.leads cfg asking server put now saying s in
    hears_behind cfg c.args.self.now c.heads.self c.read_on.new.self asking server put x.put now saying heard.Refused x.window (c.in-Refused.ensures.leads cfg asking server (put ++ x.put) now saying x.tells)

pub returns-in-Refused-clause-open : goal.returns-in-Refused-clause-open
returns-in-Refused-clause-open c = c.in-Refused.ensures.open ∙ c.heads.invariant.is_open

pub returns-in-Refused-clause-heard : goal.returns-in-Refused-clause-heard
returns-in-Refused-clause-heard c = λ was. c.in-Refused.ensures.heard (c.heads.invariant.heard_still was)

pub returns-in-Refused-clause-size : goal.returns-in-Refused-clause-size
returns-in-Refused-clause-size c = c.in-Refused.ensures.size ∙ c.heads.invariant.size

pub returns-in-Refused-clause-window_size : goal.returns-in-Refused-clause-window_size
returns-in-Refused-clause-window_size c = c.in-Refused.ensures.window_size ∙ c.heads.invariant.window_size
