use Rattle.std.proofs.Common.{◌≤◌, refl, ap, ◌∙◌, ℕ, length, subst}
use Rattle.std.specs.Prelude.{is_none}
use Rattle.http_model.specs.declared.Limits.{Limits}
use Rattle.wire_buf.specs.Buffer.{Buffer}
use Rattle.forward_core.specs.declared.answer.side.AnswerSide.{AnswerSide}
use Rattle.forward_core.proofs.AnswerLemmas.ReadLemmas.{stands_in, passes_on, drops_on, between_on, hears_none, hears_from}
use Rattle.forward_core.proofs.answer.side.AnswerSide.pass_or_drop.Goals as goal

pub pass-requires-clause-sound : goal.pass-requires-clause-sound
pass-requires-clause-sound c = c.requires.between.lane

pub pass-requires-clause-head : goal.pass-requires-clause-head
pass-requires-clause-head c = c.requires.has.stage

pub drop_head-requires-clause-sound : goal.drop_head-requires-clause-sound
drop_head-requires-clause-sound c = c.requires.between.lane

pub drop_head-requires-clause-head : goal.drop_head-requires-clause-head
drop_head-requires-clause-head c = c.requires.has.stage

pub show_on-requires-clause-between : goal.show_on-requires-clause-between
show_on-requires-clause-between c =
    between_on c.args.self.now (record c.args.self.now { lane = c.pass.new.self }) c.requires.between refl refl refl c.pass.ensures.ended c.pass.ensures.sound c.pass.ensures.last

pub returns-then-self-clause-leads : goal.returns-then-self-clause-leads
returns-then-self-clause-leads c = λ cfg asking server put now saying received r is blocks.
    let old = c.args.self.now in
    let mid : AnswerSide = record old { lane = c.pass.new.self } in
    let s = stands_in cfg mid asking server put now saying c.requires.between.place c.requires.between.stirs
    (passes_on cfg old mid asking server put received refl refl c.pass.ensures.ended c.pass.ensures.limits c.pass.ensures.filters c.if-self.true r (c.pass.ensures.answers r.e received r.in_hand.answers r.pending is blocks)) in
    hears_from cfg old mid c.show_on.new.self asking server put now saying c.show_on.result (ap (λ (b : Buffer ℕ). b.items) c.pass.ensures.window) (c.show_on.ensures.leads cfg asking server put now saying s)

pub returns-then-self-clause-less : goal.returns-then-self-clause-less
returns-then-self-clause-less c = subst (λ (b : Buffer ℕ). length c.show_on.new.self.lane.lane.input.items ≤ length b.items) c.pass.ensures.came c.show_on.ensures.less

pub returns-then-self-clause-open : goal.returns-then-self-clause-open
returns-then-self-clause-open c = c.show_on.ensures.open ∙ ap is_none c.pass.ensures.ended

pub returns-then-self-clause-size : goal.returns-then-self-clause-size
returns-then-self-clause-size c = c.show_on.ensures.size ∙ ap (λ (l : Limits). l.bufsize) c.pass.ensures.limits

pub returns-then-self-clause-window_size : goal.returns-then-self-clause-window_size
returns-then-self-clause-window_size c = c.show_on.ensures.window_size ∙ ap (λ (b : Buffer ℕ). b.capacity) c.pass.ensures.window

pub returns-clause-leads : goal.returns-clause-leads
returns-clause-leads c = λ cfg asking server put now saying received r is blocks.
    let old = c.args.self.now in
    let new : AnswerSide = record old { lane = c.drop_head.new.self } in
    let s = stands_in cfg new asking server put now saying c.requires.between.place c.requires.between.stirs
    (drops_on cfg old new asking server put received refl refl c.drop_head.ensures.ended c.drop_head.ensures.limits c.drop_head.ensures.filters c.if-self.false r (c.drop_head.ensures.answers r.e received r.in_hand.answers r.pending is)) in
    hears_none cfg old new asking server put now saying _ (ap (λ (b : Buffer ℕ). b.items) c.drop_head.ensures.window) s

pub returns-clause-between : goal.returns-clause-between
returns-clause-between c =
    between_on c.args.self.now (record c.args.self.now { lane = c.drop_head.new.self }) c.requires.between refl refl refl c.drop_head.ensures.ended c.drop_head.ensures.sound c.drop_head.ensures.last

pub returns-clause-open : goal.returns-clause-open
returns-clause-open c = ap is_none c.drop_head.ensures.ended

pub returns-clause-size : goal.returns-clause-size
returns-clause-size c = ap (λ (l : Limits). l.bufsize) c.drop_head.ensures.limits

pub returns-clause-window_size : goal.returns-clause-window_size
returns-clause-window_size c = ap (λ (b : Buffer ℕ). b.capacity) c.drop_head.ensures.window
