use Rattle.std.proofs.Common.{◌++◌, refl, sym, ap, ◌∙◌, subst}
use Rattle.h1_head.specs.declared.answer.Side.TheVariants.{Response}
use Rattle.lane.specs.Answering.{Answers, with_bytes}
use Rattle.lane.specs.Direction.Sends.{Stands, IsSound, IsReading}
use Rattle.lane.specs.declared.direction.lane.Lane.{Lane}
use Rattle.lane.proofs.AnswerLemmas.{made}
use Rattle.lane.proofs.TakeLemmas.{take_answers, sound_at}
use Rattle.lane.proofs.response_lane.ResponseLane.push.Goals as goal

pub returns-clause-answers : goal.returns-clause-answers
returns-clause-answers c = λ p a.
    subst (λ (l : Lane). Answers (made l c.args.self.now.phase c.args.self.now.begun) (with_bytes p c.args.bytes.now)) (sym c.push.ensures.same)
    (take_answers c.args.self.now.phase c.args.self.now c.push.new.self.input c.args.bytes.now p c.requires.open c.push.ensures.input
    (λ r. subst (λ (l : Lane). IsReading (Response p.asked) l) c.push.ensures.same (c.push.ensures.reading (Response p.asked) r))
    (λ s. subst IsSound c.push.ensures.same (c.push.ensures.sound s))
    (λ q s. subst (λ (l : Lane). Stands l (record q { bytes = q.bytes ++ c.args.bytes.now })) c.push.ensures.same (c.push.ensures.stands q s)) a)

pub returns-clause-sound : goal.returns-clause-sound
returns-clause-sound c = λ s.
    let same = c.push.ensures.same in
    record {
      sound = c.push.ensures.sound s.sound;
      kept = ap (λ (l : Lane). l.dropped) same ∙ s.kept;
      at = sound_at c.args.self.now.phase c.args.self.now (made c.push.new.self c.args.self.now.phase c.args.self.now.begun)
          (ap (λ (l : Lane). l.stage) same) (ap (λ (l : Lane). l.source) same) refl (ap (λ (l : Lane). l.out) same) (λ asked r. c.push.ensures.reading (Response asked) r) s.at;
    }
