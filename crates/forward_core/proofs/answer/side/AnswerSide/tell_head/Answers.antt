use Rattle.std.proofs.Common.{◌≡◌, ◌≤◌, refl, sym, ap, ◌∙◌, length, subst}
use Rattle.http_model.specs.Head.{head_blocks}
use Rattle.lane.specs.Answering.{blocks_of, input_of}
use Rattle.forward_core.specs.Answer.Seen.{seen, size_of, window_size_of}
use Rattle.forward_core.specs.Answer.Hearing.{IsBetween, HasHead, IsRead, Hears}
use Rattle.forward_core.specs.declared.answer.hearing.Heard.TheVariants as heard
use Rattle.forward_core.specs.declared.answer.side.AnswerSide.{AnswerSide}
use Rattle.forward_core.proofs.AnswerLemmas.ReadLemmas.{hears_none}
use Rattle.forward_core.proofs.answer.side.AnswerSide.tell_head.Goals as goal

pub pass_or_drop-requires-clause-between : goal.pass_or_drop-requires-clause-between
pass_or_drop-requires-clause-between c = subst IsBetween (sym c.has_interim.ensures.same) c.requires.between

pub pass_or_drop-requires-clause-has : goal.pass_or_drop-requires-clause-has
pass_or_drop-requires-clause-has c = subst HasHead (sym c.has_interim.ensures.same) c.requires.has

pub returns-then-has_interim-clause-leads : goal.returns-then-has_interim-clause-leads
returns-then-has_interim-clause-leads c = λ cfg asking server put now saying received r blocks.
    let same = c.has_interim.ensures.same in
    subst (λ (s : AnswerSide). Hears cfg s c.pass_or_drop.new.self asking server put now saying c.pass_or_drop.result) same
    (c.pass_or_drop.ensures.leads cfg asking server put now saying received (subst (λ (s : AnswerSide). IsRead cfg s asking server put received) (sym same) r)
    (sym (c.has_interim.ensures.tells received.head blocks) ∙ c.if-has_interim.true)
    (subst (λ (s : AnswerSide). blocks_of s.lane ≡ head_blocks received.head) (sym same) blocks))

pub returns-then-has_interim-clause-less : goal.returns-then-has_interim-clause-less
returns-then-has_interim-clause-less c = subst (λ (s : AnswerSide). length (input_of c.pass_or_drop.new.self.lane) ≤ length (input_of s.lane)) c.has_interim.ensures.same c.pass_or_drop.ensures.less

pub returns-then-has_interim-clause-open : goal.returns-then-has_interim-clause-open
returns-then-has_interim-clause-open c = c.pass_or_drop.ensures.open ∙ ap (λ (s : AnswerSide). (seen s).is_open) c.has_interim.ensures.same

pub returns-then-has_interim-clause-heard : goal.returns-then-has_interim-clause-heard
returns-then-has_interim-clause-heard c = c.pass_or_drop.ensures.heard ∙ ap (λ (s : AnswerSide). s.heard) c.has_interim.ensures.same

pub returns-then-has_interim-clause-size : goal.returns-then-has_interim-clause-size
returns-then-has_interim-clause-size c = c.pass_or_drop.ensures.size ∙ ap size_of c.has_interim.ensures.same

pub returns-then-has_interim-clause-window_size : goal.returns-then-has_interim-clause-window_size
returns-then-has_interim-clause-window_size c = c.pass_or_drop.ensures.window_size ∙ ap window_size_of c.has_interim.ensures.same

pub returns-clause-leads : goal.returns-clause-leads
returns-clause-leads c = λ cfg asking server put now saying received r blocks.
    let old = c.args.self.now in
    subst (λ (s : AnswerSide). Hears cfg old s asking server put now saying heard.Final) (sym c.has_interim.ensures.same)
    (hears_none cfg old old asking server put now saying heard.Final refl (received, record { read = r; is_final = sym (c.has_interim.ensures.tells received.head blocks) ∙ c.if-has_interim.false }, blocks))

pub returns-clause-between : goal.returns-clause-between
returns-clause-between c = subst IsBetween (sym c.has_interim.ensures.same) c.requires.between

pub returns-clause-there : goal.returns-clause-there
returns-clause-there c = subst HasHead (sym c.has_interim.ensures.same) c.requires.has
