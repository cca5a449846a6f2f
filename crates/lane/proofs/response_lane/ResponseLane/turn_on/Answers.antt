use Rattle.std.proofs.Common.{◌≡◌, List, ℕ, ◌++◌, sym, ap, ◌∙◌, subst, append_assoc, length, arith}
use Rattle.wire_buf.specs.Buffer.{Buffer}
use Rattle.htx_model.specs.Blocks.{flow}
use Rattle.lane.specs.Answering.{Exchange, Answers, AnswersAt, with_put}
use Rattle.lane.specs.declared.direction.lane.Lane.{Lane}
use Rattle.lane.specs.declared.phase.Phase.{Phase}
use Rattle.lane.specs.declared.phase.Phase.TheVariants as phase
use Rattle.lane.proofs.AnswerLemmas.{made, at_turning, sound_turning, shows_more, put_twice}
use Rattle.lane.proofs.TurnLemmas.{turns_now}
use Rattle.lane.proofs.InterimLemmas.{came_same}
use Rattle.lane.proofs.response_lane.ResponseLane.turn_on.Goals as goal

pub returns-then-show_on-clause-answers : goal.returns-then-show_on-clause-answers
returns-then-show_on-clause-answers c =
    let g = c.show_on.ensures.shows in
    let n = c.answer_on.ensures.answers in
    let now = λ (p : Exchange) (a : Answers c.args.self.now p). turns_now c.args.self.now c.show_on.new.self c.hide.new.self c.say_msg.new.self p c.args.no_body c.requires.sound c.requires.at
    (record { goes = c.show_on.ensures.shows; same = c.show_on.ensures.same; sound = c.show_on.ensures.sound; done = sym c.show_on.ensures.done ∙ c.if-show_on.true })
    (record { same = c.hide.ensures.same; sound = c.hide.ensures.sound })
    (record {
      stands = c.say_msg.ensures.stands;
      sound = c.say_msg.ensures.sound;
      stage = c.say_msg.ensures.stage;
      ended = c.say_msg.ensures.ended;
      output = c.say_msg.ensures.output;
      dropped = c.say_msg.ensures.kept;
      limits = c.say_msg.ensures.limits;
    }) a in
    record {
      put = g.put ++ n.put;
      window = n.window ∙ ap (λ (b : Buffer ℕ). b.items ++ n.put) (c.say_msg.ensures.output ∙ ap (λ (l : Lane). l.output) c.hide.ensures.same) ∙ ap (λ (t : List ℕ). t ++ n.put) g.window ∙ append_assoc c.args.self.now.lane.output.items g.put n.put;
      answers = λ p a. subst (λ (q : Exchange). Answers c.answer_on.new.self q) (put_twice p g.put n.put) (n.answers (with_put p g.put) (now p a));
    }

pub returns-then-show_on-clause-no_stall : goal.returns-then-show_on-clause-no_stall
returns-then-show_on-clause-no_stall c = λ p a e.
    let now = turns_now c.args.self.now c.show_on.new.self c.hide.new.self c.say_msg.new.self p c.args.no_body c.requires.sound c.requires.at
    (record { goes = c.show_on.ensures.shows; same = c.show_on.ensures.same; sound = c.show_on.ensures.sound; done = sym c.show_on.ensures.done ∙ c.if-show_on.true })
    (record { same = c.hide.ensures.same; sound = c.hide.ensures.sound })
    (record {
      stands = c.say_msg.ensures.stands;
      sound = c.say_msg.ensures.sound;
      stage = c.say_msg.ensures.stage;
      ended = c.say_msg.ensures.ended;
      output = c.say_msg.ensures.output;
      dropped = c.say_msg.ensures.kept;
      limits = c.say_msg.ensures.limits;
    }) a in
    c.answer_on.ensures.no_stall (with_put p c.show_on.ensures.shows.put) now e

pub returns-then-show_on-clause-nothing_back : goal.returns-then-show_on-clause-nothing_back
returns-then-show_on-clause-nothing_back c = λ p a at none.
    let now = turns_now c.args.self.now c.show_on.new.self c.hide.new.self c.say_msg.new.self p c.args.no_body c.requires.sound c.requires.at
    (record { goes = c.show_on.ensures.shows; same = c.show_on.ensures.same; sound = c.show_on.ensures.sound; done = sym c.show_on.ensures.done ∙ c.if-show_on.true })
    (record { same = c.hide.ensures.same; sound = c.hide.ensures.sound })
    (record {
      stands = c.say_msg.ensures.stands;
      sound = c.say_msg.ensures.sound;
      stage = c.say_msg.ensures.stage;
      ended = c.say_msg.ensures.ended;
      output = c.say_msg.ensures.output;
      dropped = c.say_msg.ensures.kept;
      limits = c.say_msg.ensures.limits;
    }) a in
    c.answer_on.ensures.nothing_back (with_put p c.show_on.ensures.shows.put) now at none

pub returns-then-show_on-clause-no_cut : goal.returns-then-show_on-clause-no_cut
returns-then-show_on-clause-no_cut c = λ p a at none.
    let now = turns_now c.args.self.now c.show_on.new.self c.hide.new.self c.say_msg.new.self p c.args.no_body c.requires.sound c.requires.at
    (record { goes = c.show_on.ensures.shows; same = c.show_on.ensures.same; sound = c.show_on.ensures.sound; done = sym c.show_on.ensures.done ∙ c.if-show_on.true })
    (record { same = c.hide.ensures.same; sound = c.hide.ensures.sound })
    (record {
      stands = c.say_msg.ensures.stands;
      sound = c.say_msg.ensures.sound;
      stage = c.say_msg.ensures.stage;
      ended = c.say_msg.ensures.ended;
      output = c.say_msg.ensures.output;
      dropped = c.say_msg.ensures.kept;
      limits = c.say_msg.ensures.limits;
    }) a in
    c.answer_on.ensures.no_cut (with_put p c.show_on.ensures.shows.put) now at none

pub returns-else-show_on-clause-answers : goal.returns-else-show_on-clause-answers
returns-else-show_on-clause-answers c =
    let g = c.show_on.ensures.shows in
    let none = (sound_turning c.args.self.now c.args.no_body c.requires.sound c.requires.at).1 in
    let same = c.show_on.ensures.same in
    record {
      put = g.put;
      window = g.window;
      answers = λ p a.
          let h = at_turning c.args.self.now p c.args.no_body c.requires.at a in
          subst (λ (ph : Phase). AnswersAt ph (made c.show_on.new.self c.args.self.now.phase c.args.self.now.begun) (with_put p g.put)) (sym c.requires.at) (
            shows_more c.args.self.now.lane c.show_on.new.self p h.0 g same c.show_on.ensures.sound,
            none,
            (h.2.0, came_same c.args.self.now.lane c.show_on.new.self (record { limits = ap (λ (l : Lane). l.limits) same; ended = ap (λ (l : Lane). l.ended) same }) p.asked p.read p.bytes h.2.0 h.2.1),
            (h.3.0, h.3.1, h.3.2, ap (λ (l : Lane). flow l.msg.blocks) same ∙ h.3.3),
          );
    }

pub returns-then-show_on-clause-shrinks : goal.returns-then-show_on-clause-shrinks
returns-then-show_on-clause-shrinks c =
    let input = c.say_msg.ensures.input ∙ ap (λ (l : Lane). l.input) c.hide.ensures.same ∙ ap (λ (l : Lane). l.input) c.show_on.ensures.same in
    let e : length c.say_msg.new.self.input.items ≡ length c.args.self.now.lane.input.items = ap (λ (b : Buffer ℕ). length b.items) input in
    let less = c.answer_on.ensures.shrinks in
    omega arith

pub returns-else-show_on-clause-shrinks : goal.returns-else-show_on-clause-shrinks
returns-else-show_on-clause-shrinks c =
    let e : length c.show_on.new.self.input.items ≡ length c.args.self.now.lane.input.items = ap (λ (l : Lane). length l.input.items) c.show_on.ensures.same in
    omega arith

pub returns-else-show_on-clause-nothing_back : goal.returns-else-show_on-clause-nothing_back
returns-else-show_on-clause-nothing_back c = λ p a at none. absurd (let both : phase.Turning c.args.no_body ≡ phase.Answering = sym c.requires.at ∙ at in cc both)

pub returns-else-show_on-clause-no_cut : goal.returns-else-show_on-clause-no_cut
returns-else-show_on-clause-no_cut c = λ p a at none. absurd (let both : phase.Turning c.args.no_body ≡ phase.Answering = sym c.requires.at ∙ at in cc both)
