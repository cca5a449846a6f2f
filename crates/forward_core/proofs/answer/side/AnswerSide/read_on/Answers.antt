use Rattle.std.proofs.Common.{◌<◌, ◌≤◌, inr, refl, sym, ap, ◌∙◌, length, ℕ, Bool, true, false, arith, subst}
use Rattle.std.specs.Prelude.{is_none}
use Rattle.wire_buf.specs.Buffer.{Buffer}
use Rattle.http_model.specs.declared.Limits.{Limits}
use Rattle.h1_head.specs.Decides.{MayWait}
use Rattle.h1_head.specs.Kind.{response_heads}
use Rattle.lane.specs.Answering.{shows_last, limits_of, input_of}
use Rattle.forward_core.specs.declared.answer.hearing.Heard.TheVariants as heard
use Rattle.forward_core.specs.declared.answer.side.AnswerSide.{AnswerSide}
use Rattle.forward_core.proofs.AnswerLemmas.ReadLemmas.{InHeads, in_heads, stands_in, stands_by, between_on, fits_reading, hears_none, hears_from, is_read}
use Rattle.forward_core.proofs.answer.side.AnswerSide.read_on.Goals as goal

pub read_head-requires-clause-sound : goal.read_head-requires-clause-sound
read_head-requires-clause-sound c = c.requires.between.lane

-- ---- more is wanted

pub returns-in-More-clause-leads : goal.returns-in-More-clause-leads
returns-in-More-clause-leads c = λ cfg asking server put now saying s.
    let old = c.args.self.now in
    let new : AnswerSide = record old { lane = c.read_head.new.self } in
    let h : InHeads cfg old asking server put = in_heads cfg old asking server put now saying c.requires.between.place s in
    let x = c.in-More.ensures.comes h.e h.in_hand.answers (h.in_hand.asked ∙ sym h.asks.head_asked) in
    hears_none cfg old new asking server put now saying heard.More (ap (λ (b : Buffer ℕ). b.items) c.in-More.ensures.window) (
      stands_in cfg new asking server put now saying c.requires.between.place c.requires.between.stirs (stands_by cfg old new asking server put refl refl c.in-More.ensures.ended c.in-More.ensures.limits c.in-More.ensures.filters (λ e asked a. (c.in-More.ensures.comes e a (asked ∙ sym h.asks.head_asked)).0) h),
      inr (ap is_none x.2, omega (arith, x.3)),
      inr (x.1, x.2, subst (λ (b : Bool). MayWait (response_heads b) (limits_of new.lane) false (input_of new.lane)) h.in_hand.asked x.4),
    )

pub returns-in-More-clause-between : goal.returns-in-More-clause-between
returns-in-More-clause-between c =
    between_on c.args.self.now (record c.args.self.now { lane = c.read_head.new.self }) c.requires.between refl refl refl c.in-More.ensures.ended c.in-More.ensures.sound (ap shows_last c.in-More.ensures.phase ∙ c.requires.between.first)

pub returns-in-More-clause-there : goal.returns-in-More-clause-there
returns-in-More-clause-there c =
    let new : AnswerSide = record c.args.self.now { lane = c.read_head.new.self } in
    fits_reading new (between_on c.args.self.now new c.requires.between refl refl refl c.in-More.ensures.ended c.in-More.ensures.sound (ap shows_last c.in-More.ensures.phase ∙ c.requires.between.first)) c.in-More.ensures.stands

pub returns-in-More-clause-open : goal.returns-in-More-clause-open
returns-in-More-clause-open c = ap is_none c.in-More.ensures.ended

pub returns-in-More-clause-size : goal.returns-in-More-clause-size
returns-in-More-clause-size c = ap (λ (l : Limits). l.bufsize) c.in-More.ensures.limits

pub returns-in-More-clause-window_size : goal.returns-in-More-clause-window_size
returns-in-More-clause-window_size c = ap (λ (b : Buffer ℕ). b.capacity) c.in-More.ensures.window

-- ---- there is none

pub returns-in-Nothing-clause-leads : goal.returns-in-Nothing-clause-leads
returns-in-Nothing-clause-leads c = absurd c.in-Nothing.ensures.stands

pub returns-in-Nothing-clause-between : goal.returns-in-Nothing-clause-between
returns-in-Nothing-clause-between c = absurd c.in-Nothing.ensures.stands

pub returns-in-Nothing-clause-there : goal.returns-in-Nothing-clause-there
returns-in-Nothing-clause-there c = absurd c.in-Nothing.ensures.stands

pub returns-in-Nothing-clause-open : goal.returns-in-Nothing-clause-open
returns-in-Nothing-clause-open c = absurd c.in-Nothing.ensures.stands

pub returns-in-Nothing-clause-size : goal.returns-in-Nothing-clause-size
returns-in-Nothing-clause-size c = absurd c.in-Nothing.ensures.stands

pub returns-in-Nothing-clause-window_size : goal.returns-in-Nothing-clause-window_size
returns-in-Nothing-clause-window_size c = absurd c.in-Nothing.ensures.stands

pub returns-in-Refuse-clause-leads : goal.returns-in-Refuse-clause-leads
returns-in-Refuse-clause-leads c = λ cfg asking server put now saying s.
    let old = c.args.self.now in
    let new : AnswerSide = record old { lane = c.read_head.new.self } in
    let h : InHeads cfg old asking server put = in_heads cfg old asking server put now saying c.requires.between.place s in
    hears_none cfg old new asking server put now saying heard.Refused (ap (λ (b : Buffer ℕ). b.items) c.in-Refuse.ensures.window)
    (stands_in cfg new asking server put now saying c.requires.between.place c.requires.between.stirs (stands_by cfg old new asking server put refl refl c.in-Refuse.ensures.ended c.in-Refuse.ensures.limits c.in-Refuse.ensures.filters (λ e asked a. (c.in-Refuse.ensures.comes e a (asked ∙ sym h.asks.head_asked)).0) h))

pub returns-in-Refuse-clause-between : goal.returns-in-Refuse-clause-between
returns-in-Refuse-clause-between c =
    between_on c.args.self.now (record c.args.self.now { lane = c.read_head.new.self }) c.requires.between refl refl refl c.in-Refuse.ensures.ended c.in-Refuse.ensures.sound (ap shows_last c.in-Refuse.ensures.phase ∙ c.requires.between.first)

pub returns-in-Refuse-clause-open : goal.returns-in-Refuse-clause-open
returns-in-Refuse-clause-open c = ap is_none c.in-Refuse.ensures.ended

pub returns-in-Refuse-clause-size : goal.returns-in-Refuse-clause-size
returns-in-Refuse-clause-size c = ap (λ (l : Limits). l.bufsize) c.in-Refuse.ensures.limits

pub returns-in-Refuse-clause-window_size : goal.returns-in-Refuse-clause-window_size
returns-in-Refuse-clause-window_size c = ap (λ (b : Buffer ℕ). b.capacity) c.in-Refuse.ensures.window

-- ---- a head came

pub tell_head-requires-clause-between : goal.tell_head-requires-clause-between
tell_head-requires-clause-between c =
    between_on c.args.self.now (record c.args.self.now { lane = c.read_head.new.self; heard = true }) c.requires.between refl refl refl c.in-Head.ensures.ended c.in-Head.ensures.sound (ap shows_last c.in-Head.ensures.phase ∙ c.requires.between.first)

pub tell_head-requires-clause-has : goal.tell_head-requires-clause-has
tell_head-requires-clause-has c = let x = c.in-Head.ensures.stands in record { stage = x.0; head = x.1.0; blocks = x.1.1 }

pub returns-in-Head-clause-leads : goal.returns-in-Head-clause-leads
returns-in-Head-clause-leads c = λ cfg asking server put now saying s.
    let old = c.args.self.now in
    let mid : AnswerSide = record old { lane = c.read_head.new.self; heard = true } in
    let h : InHeads cfg old asking server put = in_heads cfg old asking server put now saying c.requires.between.place s in
    let x = c.in-Head.ensures.comes h.e h.in_hand.answers (h.in_hand.asked ∙ sym h.asks.head_asked) in
    hears_from cfg old mid c.tell_head.new.self asking server put now saying c.tell_head.result (ap (λ (b : Buffer ℕ). b.items) c.in-Head.ensures.window)
    (c.tell_head.ensures.leads cfg asking server put now saying x.0 (is_read cfg old mid asking server put x.0 refl c.in-Head.ensures.ended c.in-Head.ensures.limits c.in-Head.ensures.filters h x.1 c.in-Head.ensures.sound (ap shows_last c.in-Head.ensures.phase ∙ c.requires.between.first) x.2 refl x.4 x.5) x.3)

pub returns-in-Head-clause-less : goal.returns-in-Head-clause-less
returns-in-Head-clause-less c = λ interim.
    let one : length c.read_head.new.self.lane.input.items < length c.args.self.now.lane.lane.input.items = c.in-Head.ensures.takes refl in
    let more : length c.tell_head.new.self.lane.lane.input.items ≤ length c.read_head.new.self.lane.input.items = c.tell_head.ensures.less in
    omega (arith, one, more)

pub returns-in-Head-clause-open : goal.returns-in-Head-clause-open
returns-in-Head-clause-open c = c.tell_head.ensures.open ∙ ap is_none c.in-Head.ensures.ended

pub returns-in-Head-clause-heard : goal.returns-in-Head-clause-heard
returns-in-Head-clause-heard c = λ was. c.tell_head.ensures.heard

pub returns-in-Head-clause-size : goal.returns-in-Head-clause-size
returns-in-Head-clause-size c = c.tell_head.ensures.size ∙ ap (λ (l : Limits). l.bufsize) c.in-Head.ensures.limits

pub returns-in-Head-clause-window_size : goal.returns-in-Head-clause-window_size
returns-in-Head-clause-window_size c = c.tell_head.ensures.window_size ∙ ap (λ (b : Buffer ℕ). b.capacity) c.in-Head.ensures.window
