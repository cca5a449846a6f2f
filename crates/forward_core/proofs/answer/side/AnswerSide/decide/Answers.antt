use Rattle.std.proofs.Common.{◌≡◌, false, ◌++◌, refl, sym, ap, ◌∙◌, subst}
use Rattle.px_sample.specs.Variables.{Variables}
use Rattle.http_rules.specs.Lives.{answering}
use Rattle.session_model.specs.Answering.{Final, Refuses}
use Rattle.session_core.specs.Sided.{asker_in}
use Rattle.std.proofs.lemmas.Result.{on_ok_weaker}
use Rattle.forward_core.specs.Answer.Judging.{Settles}
use Rattle.forward_core.specs.declared.answer.hearing.Heard.TheVariants as heard
use Rattle.forward_core.proofs.AnswerLemmas.ReadLemmas.{in_heads, hears_from, stirred, stirred_sound}
use Rattle.forward_core.proofs.AnswerLemmas.SettleLemmas.{settles_refused}
use Rattle.forward_core.proofs.AnswerLemmas.StepLemmas.{vars_heads, decides_none, decides_rested, decides_last, decides_more, keeps_out, keeps_more, on_ok_both}
use Rattle.forward_core.proofs.answer.side.AnswerSide.decide.Goals as goal

-- ---- no heads are read

pub returns-then-not-is_hearing-clause-leads : goal.returns-then-not-is_hearing-clause-leads
returns-then-not-is_hearing-clause-leads c = λ cfg asking server put now saying s runs vars.
    decides_none cfg c.args.self.now asking server put now saying c.args.rules.now.vars s vars (c.is_hearing.ensures.rests c.if-not-is_hearing.true)

pub returns-then-not-is_hearing-clause-keeps : goal.returns-then-not-is_hearing-clause-keeps
returns-then-not-is_hearing-clause-keeps c = record { serving = c.requires.serving; sound = c.requires.sound; begun = λ was. was; heard = λ was. was; is_open = refl; size = refl; window_size = refl }

-- ---- nothing came

pub returns-then-is_waiting-clause-leads : goal.returns-then-is_waiting-clause-leads
returns-then-is_waiting-clause-leads c = λ cfg asking server put now saying s runs vars.
    decides_rested cfg c.args.self.now asking server put now saying c.args.rules.now.vars s vars (c.is_hearing.ensures.heads c.if-not-is_hearing.false) (c.is_waiting.ensures.rests c.if-is_waiting.true) (c.is_waiting.ensures.room c.if-is_waiting.true)

pub returns-then-is_waiting-clause-keeps : goal.returns-then-is_waiting-clause-keeps
returns-then-is_waiting-clause-keeps c = record { serving = c.requires.serving; sound = c.requires.sound; begun = λ was. was; heard = λ was. was; is_open = refl; size = refl; window_size = refl }

-- ---- heads are read

pub hear-requires-clause-heads : goal.hear-requires-clause-heads
hear-requires-clause-heads c = c.is_hearing.ensures.heads c.if-not-is_hearing.false

pub hear-requires-clause-sound : goal.hear-requires-clause-sound
hear-requires-clause-sound c = stirred_sound c.args.self.now c.requires.sound

pub hear-requires-clause-stirs : goal.hear-requires-clause-stirs
hear-requires-clause-stirs c = refl

-- ---- more is wanted

pub returns-in-More-clause-leads : goal.returns-in-More-clause-leads
returns-in-More-clause-leads c = λ cfg asking server put now saying s runs vars.
    decides_more cfg c.args.self.now c.hear.new.self _ asking server put now saying c.args.rules.now.vars refl c.in-More.ensures.between.place (vars_heads c.args.self.now.place _ now c.args.rules.now.vars (c.is_hearing.ensures.heads c.if-not-is_hearing.false) vars)
    (hears_from cfg c.args.self.now (record c.args.self.now { at_rest = false }) c.hear.new.self asking server put now saying heard.More refl
    (c.in-More.ensures.leads cfg asking server put now saying (stirred cfg c.args.self.now asking server put now saying s)))

pub returns-in-More-clause-keeps : goal.returns-in-More-clause-keeps
returns-in-More-clause-keeps c =
    keeps_more c.args.self.now c.hear.new.self c.requires.sound (c.is_hearing.ensures.heads c.if-not-is_hearing.false) c.in-More.ensures.heard c.in-More.ensures.open c.in-More.ensures.size c.in-More.ensures.window_size c.in-More.ensures.between c.in-More.ensures.there

-- ---- interim heads are read on

pub returns-in-Interim-clause-leads : goal.returns-in-Interim-clause-leads
returns-in-Interim-clause-leads c = absurd (c.in-Interim.ensures.over refl)

pub returns-in-Interim-clause-keeps : goal.returns-in-Interim-clause-keeps
returns-in-Interim-clause-keeps c = absurd (c.in-Interim.ensures.over refl)

-- ---- a final head

pub judge-requires-clause-size : goal.judge-requires-clause-size
judge-requires-clause-size c = c.requires.size ∙ sym c.in-Final.ensures.size

pub returns-in-Final-clause-leads : goal.returns-in-Final-clause-leads
returns-in-Final-clause-leads c =
    on_ok_both c.judge.result
    (λ leads goes cfg asking server put now saying s runs vars.
    let x = c.in-Final.ensures.leads cfg asking server put now saying (stirred cfg c.args.self.now asking server put now saying s) in
    decides_last cfg c.args.self.now c.hear.new.self c.judge.new.self asking server put x.put saying c.judge.new.rules.vars x.window goes
    (leads cfg asking server _ saying x.tells.0 x.tells.1 x.tells.2 runs (vars_heads c.args.self.now.place _ now c.args.rules.now.vars (c.is_hearing.ensures.heads c.if-not-is_hearing.false) vars)))
    c.judge.ensures.leads c.judge.ensures.goes_out

pub returns-in-Final-clause-keeps : goal.returns-in-Final-clause-keeps
returns-in-Final-clause-keeps c =
    on_ok_weaker c.judge.result (keeps_out c.args.self.now c.hear.new.self c.judge.new.self c.requires.sound (c.is_hearing.ensures.heads c.if-not-is_hearing.false) c.in-Final.ensures.heard c.in-Final.ensures.open c.in-Final.ensures.size c.in-Final.ensures.window_size) c.judge.ensures.goes_out

-- ---- none

pub refuse-requires-clause-size : goal.refuse-requires-clause-size
refuse-requires-clause-size c = c.requires.size ∙ sym c.in-Refused.ensures.size

pub returns-in-Refused-clause-leads : goal.returns-in-Refused-clause-leads
returns-in-Refused-clause-leads c =
    on_ok_both c.refuse.result
    (λ leads goes cfg asking server put now saying s runs vars.
    let x = c.in-Refused.ensures.leads cfg asking server put now saying (stirred cfg c.args.self.now asking server put now saying s) in
    let same = vars_heads c.args.self.now.place _ now c.args.rules.now.vars (c.is_hearing.ensures.heads c.if-not-is_hearing.false) vars in
    let last : Refuses 502 (asker_in asking).method (answering asking.vars) ≡ Refuses 502 c.args.method.now c.args.rules.now.vars =
    ap (λ m. Refuses 502 m (answering asking.vars)) (sym runs.asked) ∙ ap (λ (v : Variables). Refuses 502 c.args.method.now v) (sym same) in
    decides_last cfg c.args.self.now c.hear.new.self c.refuse.new.self asking server put x.put saying c.refuse.new.rules.vars x.window goes
    (leads cfg asking server (put ++ x.put) saying
    (subst (λ (f : Final Variables). Settles cfg c.hear.new.self asking server (put ++ x.put) f) last
    (settles_refused cfg c.hear.new.self asking server (put ++ x.put) c.in-Refused.ensures.between c.in-Refused.ensures.there (in_heads cfg c.hear.new.self asking server (put ++ x.put) now saying c.in-Refused.ensures.between.place x.tells)))
    runs.config))
    c.refuse.ensures.leads c.refuse.ensures.goes_out

pub returns-in-Refused-clause-keeps : goal.returns-in-Refused-clause-keeps
returns-in-Refused-clause-keeps c =
    on_ok_weaker c.refuse.result (keeps_out c.args.self.now c.hear.new.self c.refuse.new.self c.requires.sound (c.is_hearing.ensures.heads c.if-not-is_hearing.false) c.in-Refused.ensures.heard c.in-Refused.ensures.open c.in-Refused.ensures.size c.in-Refused.ensures.window_size) c.refuse.ensures.goes_out
