use Rattle.std.proofs.Common.{inl, refl, ap}
use Rattle.std.specs.Prelude.{is_none}
use Rattle.http_model.specs.declared.Limits.{Limits}
use Rattle.forward_core.specs.declared.answer.hearing.Heard.TheVariants as heard
use Rattle.forward_core.specs.declared.answer.side.AnswerSide.{AnswerSide}
use Rattle.forward_core.proofs.AnswerLemmas.ReadLemmas.{InHeads, in_heads, puts_more, hears_more, between_on, fits_sending, reads_on, showing_whole, waits_on}
use Rattle.forward_core.proofs.AnswerLemmas.Saying.{waits_for}
use Rattle.forward_core.proofs.answer.side.AnswerSide.show_on.Goals as goal

pub step-requires-clause-sound : goal.step-requires-clause-sound
step-requires-clause-sound c = c.requires.between.lane

pub returns-then-is_showing-clause-leads : goal.returns-then-is_showing-clause-leads
returns-then-is_showing-clause-leads c = λ cfg asking server put now saying s.
    let old = c.args.self.now in
    let new : AnswerSide = record old { lane = c.step.new.self } in
    let p = c.step.ensures.answers in
    let h : InHeads cfg old asking server put = in_heads cfg old asking server put now saying c.requires.between.place s in
    hears_more cfg old new asking server put p.put now saying heard.More p.window c.requires.between.place c.requires.between.stirs
    (puts_more cfg old new asking server put p.put refl refl (record { answers = p.answers; ended = c.step.ensures.ended; last = c.step.ensures.last }) c.step.ensures.limits c.step.ensures.filters h)
    (λ stands.
    let sends = c.is_showing.ensures.shows c.if-is_showing.true in
    let goes = c.step.ensures.no_stall h.e h.in_hand.answers sends in
    let whole = showing_whole new.lane.phase new.lane (c.step.ensures.heads c.requires.between.first).first sends c.step.ensures.sound.at in
    (stands, waits_on new goes, inl (sends, waits_for new.lane whole goes)))

pub returns-clause-leads : goal.returns-clause-leads
returns-clause-leads c = λ cfg asking server put now saying s.
    let old = c.args.self.now in
    let new : AnswerSide = record old { lane = c.step.new.self } in
    let p = c.step.ensures.answers in
    hears_more cfg old new asking server put p.put now saying heard.Interim p.window c.requires.between.place c.requires.between.stirs
    (puts_more cfg old new asking server put p.put refl refl (record { answers = p.answers; ended = c.step.ensures.ended; last = c.step.ensures.last }) c.step.ensures.limits c.step.ensures.filters
    (in_heads cfg old asking server put now saying c.requires.between.place s))
    (λ stands. stands)

pub returns-then-is_showing-clause-between : goal.returns-then-is_showing-clause-between
returns-then-is_showing-clause-between c =
    between_on c.args.self.now (record c.args.self.now { lane = c.step.new.self }) c.requires.between refl refl refl c.step.ensures.ended c.step.ensures.sound (c.step.ensures.heads c.requires.between.first).first

pub returns-clause-between : goal.returns-clause-between
returns-clause-between c =
    between_on c.args.self.now (record c.args.self.now { lane = c.step.new.self }) c.requires.between refl refl refl c.step.ensures.ended c.step.ensures.sound (c.step.ensures.heads c.requires.between.first).first

pub returns-then-is_showing-clause-there : goal.returns-then-is_showing-clause-there
returns-then-is_showing-clause-there c =
    let new : AnswerSide = record c.args.self.now { lane = c.step.new.self } in
    fits_sending new (between_on c.args.self.now new c.requires.between refl refl refl c.step.ensures.ended c.step.ensures.sound (c.step.ensures.heads c.requires.between.first).first) (c.is_showing.ensures.shows c.if-is_showing.true)

pub returns-clause-there : goal.returns-clause-there
returns-clause-there c = reads_on c.step.new.self (c.step.ensures.heads c.requires.between.first) (c.is_showing.ensures.rests c.if-is_showing.false)

pub returns-then-is_showing-clause-open : goal.returns-then-is_showing-clause-open
returns-then-is_showing-clause-open c = ap is_none c.step.ensures.ended

pub returns-clause-open : goal.returns-clause-open
returns-clause-open c = ap is_none c.step.ensures.ended

pub returns-then-is_showing-clause-size : goal.returns-then-is_showing-clause-size
returns-then-is_showing-clause-size c = ap (λ (l : Limits). l.bufsize) c.step.ensures.limits

pub returns-clause-size : goal.returns-clause-size
returns-clause-size c = ap (λ (l : Limits). l.bufsize) c.step.ensures.limits
