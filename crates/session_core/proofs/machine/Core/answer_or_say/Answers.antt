use Rattle.std.proofs.lemmas.Bool.{false≢true}
use Rattle.std.proofs.Common.{◌≢◌, ◌++◌, Some, false, refl, rules}
use Rattle.session_core.proofs.Answering.{says_turned, answers_on, answers_of}
use Rattle.session_core.proofs.Events.{holds_at}
use Rattle.session_core.proofs.Stalls.{not_turned, waits_said, waits_unturned}
use Rattle.session_core.proofs.Placing.{placed_in, placed_at, says, said, serves, served}
use Rattle.session_core.specs.declared.Phase.TheVariants as phase
use Rattle.session_core.proofs.machine.Core.answer_or_say.Goals as goal

pub returns-then-is_turned-clause-keeps : goal.returns-then-is_turned-clause-keeps
returns-then-is_turned-clause-keeps g c = λ cfg past s.
    let M = g.S.Works.meaning cfg in
    let at = c.args.self.now.at in
    let q = g.S.Works.request c.args.self.now.sides in
    let a = g.S.Works.answer c.args.self.now.sides in
    let b = g.S.Works.answer c.say.new.self in
    let st = c.say.ensures.leads cfg s.sided s.stand in
    record {
      sided = record s.sided { to_client = s.sided.to_client ++ st.put; saying = record s.sided.saying { left = st.left } };
      stand = st.stands;
      holds = holds_at M at q (g.S.Works.request c.say.new.self) b b _ _ c.say.ensures.request refl
          (says_turned M _ at q a b s.sided past c.requires.phase (c.is_turned.ensures.0 c.if-is_turned.true) c.say.ensures.open st s.holds);
    }

pub returns-then-is_turned-clause-answered : goal.returns-then-is_turned-clause-answered
returns-then-is_turned-clause-answered g c =
    waits_said c.args.self.now.at.cut (g.S.Works.answer c.say.new.self) (c.is_turned.ensures.0 c.if-is_turned.true) c.say.ensures.waits

pub returns-clause-keeps : goal.returns-clause-keeps
returns-clause-keeps g c = λ cfg past s.
    let M = g.S.Works.meaning cfg in
    let at = c.args.self.now.at in
    let q = g.S.Works.request c.args.self.now.sides in
    let a = g.S.Works.answer c.args.self.now.sides in
    let b = g.S.Works.answer c.step_answer.new.self in
    let other : at.cut ≢ Some false = λ e. absurd (search (rules, c.is_turned.ensures.1 e, c.if-is_turned.false)) in
    let answers = answers_of M at q a s.sided past c.requires.phase other s.holds in
    let st = c.in_ok-step_answer.ensures.leads cfg s.sided s.stand answers in
    record {
      sided = record s.sided { to_client = s.sided.to_client ++ st.put; now = st.behind };
      stand = st.stands;
      holds = holds_at M at q (g.S.Works.request c.step_answer.new.self) b b _ _ c.step_answer.ensures.request refl
          (answers_on M _ at q a b s.sided past c.requires.phase other c.in_ok-step_answer.ensures.open st s.holds);
    }

pub returns-clause-answered : goal.returns-clause-answered
returns-clause-answered g c =
    let other : c.args.self.now.at.cut ≢ Some false = λ e. absurd (search (rules, c.is_turned.ensures.1 e, c.if-is_turned.false)) in
    waits_unturned c.args.self.now.at.cut (g.S.Works.answer c.step_answer.new.self) (not_turned c.args.self.now.at.cut other) c.in_ok-step_answer.ensures.waits

pub returns-in_err-step_answer-clause-succeeds : goal.returns-in_err-step_answer-clause-succeeds
returns-in_err-step_answer-clause-succeeds g c = λ cfg past s e. absurd (false≢true (c.in_err-step_answer.ensures.succeeds cfg s.sided s.stand e))

pub say-requires : goal.say-requires
say-requires g c = record { placed = (_, refl, says (g.S.Works.placed c.args.self.now.sides) c.args.self.now.at.cut (c.is_turned.ensures.0 c.if-is_turned.true) (placed_in (g.S.Works.placed c.args.self.now.sides) (g.S.Works.answer c.args.self.now.sides) c.args.self.now.at.phase phase.Serving c.args.self.now.at.cut c.requires.phase c.requires.placed)) }

pub returns-then-is_turned-clause-placed : goal.returns-then-is_turned-clause-placed
returns-then-is_turned-clause-placed g c =
    placed_at (g.S.Works.placed c.say.new.self) (g.S.Works.answer c.say.new.self) c.args.self.now.at.phase phase.Serving c.args.self.now.at.cut c.requires.phase
    (said (g.S.Works.placed c.say.new.self) c.args.self.now.at.cut (c.is_turned.ensures.0 c.if-is_turned.true) (c.say.ensures.placed _ refl (says (g.S.Works.placed c.args.self.now.sides) c.args.self.now.at.cut (c.is_turned.ensures.0 c.if-is_turned.true) (placed_in (g.S.Works.placed c.args.self.now.sides) (g.S.Works.answer c.args.self.now.sides) c.args.self.now.at.phase phase.Serving c.args.self.now.at.cut c.requires.phase c.requires.placed))))

pub step_answer-requires : goal.step_answer-requires
step_answer-requires g c =
    let other : c.args.self.now.at.cut ≢ Some false = λ e. absurd (search (rules, c.is_turned.ensures.1 e, c.if-is_turned.false)) in
    record { placed = serves (g.S.Works.placed c.args.self.now.sides) c.args.self.now.at.cut (not_turned c.args.self.now.at.cut other) (placed_in (g.S.Works.placed c.args.self.now.sides) (g.S.Works.answer c.args.self.now.sides) c.args.self.now.at.phase phase.Serving c.args.self.now.at.cut c.requires.phase c.requires.placed) }

pub returns-clause-placed : goal.returns-clause-placed
returns-clause-placed g c =
    let other : c.args.self.now.at.cut ≢ Some false = λ e. absurd (search (rules, c.is_turned.ensures.1 e, c.if-is_turned.false)) in
    placed_at (g.S.Works.placed c.step_answer.new.self) (g.S.Works.answer c.step_answer.new.self) c.args.self.now.at.phase phase.Serving c.args.self.now.at.cut c.requires.phase
    (served (g.S.Works.placed c.step_answer.new.self) c.args.self.now.at.cut (not_turned c.args.self.now.at.cut other) c.in_ok-step_answer.ensures.placed)
