use Rattle.std.proofs.Common.{◌≡◌, ◌++◌, Some, true, false, sym, ap, ◌∙◌, refl}
use Rattle.session_core.proofs.Working.{steps_on, steps_begun, steps_before, before_of, requests_of}
use Rattle.session_core.proofs.Events.{holds_at}
use Rattle.session_core.proofs.Placing.{is_somewhere, stay_somewhere, stay_placed, placed_in, placed_at, serves, at_server}
use Rattle.session_core.specs.declared.Phase.TheVariants as phase
use Rattle.session_core.specs.Place.{Serves}
use Rattle.session_core.specs.Waits.{is_turned}
use Rattle.session_core.specs.Sided.{AnswerSeen}
use Rattle.session_core.proofs.machine.Core.step_request.Goals as goal

pub returns-in-None-clause-keeps : goal.returns-in-None-clause-keeps
returns-in-None-clause-keeps g c = λ cfg past s.
    let M = g.S.Works.meaning cfg in
    let at = c.args.self.now.at in
    let q = g.S.Works.request c.args.self.now.sides in
    let a = g.S.Works.answer c.args.self.now.sides in
    let r = g.S.Works.request c.step_request.new.self in
    let requests = requests_of M at q a s.sided past c.requires.phase s.holds in
    let st = c.step_request.ensures.leads cfg s.sided s.stand requests in
    record {
      sided = record s.sided { to_server = s.sided.to_server ++ st.put };
      stand = st.stands;
      holds = holds_at M at r r a (g.S.Works.answer c.step_request.new.self) _ _ refl c.step_request.ensures.answer
          (steps_on M _ at q r a s.sided past c.requires.phase c.in-None.ensures c.step_request.ensures.keeps st s.holds);
    }

pub returns-then-is_begun-clause-keeps : goal.returns-then-is_begun-clause-keeps
returns-then-is_begun-clause-keeps g c = λ cfg past s.
    let M = g.S.Works.meaning cfg in
    let at = c.args.self.now.at in
    let q = g.S.Works.request c.args.self.now.sides in
    let a = g.S.Works.answer c.args.self.now.sides in
    let r = g.S.Works.request c.step_request.new.self in
    let requests = requests_of M at q a s.sided past c.requires.phase s.holds in
    let st = c.step_request.ensures.leads cfg s.sided s.stand requests in
    record {
      sided = record s.sided { to_server = s.sided.to_server ++ st.put };
      stand = st.stands;
      holds = holds_at M (record at { cut = Some true }) r r a (g.S.Works.answer c.step_request.new.self) _ _ refl c.step_request.ensures.answer
          (steps_begun M _ at q r a s.sided past c.in-Some.code c.requires.phase c.in-Some.ensures.0 c.in-Some.ensures.1 (ap (λ a. a.begun) (sym c.step_request.ensures.answer) ∙ sym c.is_begun.ensures ∙ c.if-is_begun.true) c.step_request.ensures.keeps st s.holds);
    }

pub returns-else-is_begun-clause-keeps : goal.returns-else-is_begun-clause-keeps
returns-else-is_begun-clause-keeps g c = λ cfg past s.
    let M = g.S.Works.meaning cfg in
    let at = c.args.self.now.at in
    let q = g.S.Works.request c.args.self.now.sides in
    let a = g.S.Works.answer c.args.self.now.sides in
    let r = g.S.Works.request c.step_request.new.self in
    let requests = requests_of M at q a s.sided past c.requires.phase s.holds in
    let st = c.step_request.ensures.leads cfg s.sided s.stand requests in
    let b = g.S.Works.answer c.turn.new.self in
    let begun : a.begun ≡ false = ap (λ a. a.begun) (sym c.step_request.ensures.answer) ∙ sym c.is_begun.ensures ∙ c.if-is_begun.false in
    let before = before_of M at q a s.sided past st.put c.requires.phase c.in-Some.ensures.0 begun s.holds in
    let tu = c.turn.ensures.leads cfg _ st.stands before in
    record {
      sided = record s.sided { to_server = s.sided.to_server ++ st.put; saying = tu.saying };
      stand = tu.stands;
      holds = holds_at M (record at { cut = Some false }) r (g.S.Works.request c.turn.new.self) b b _ _ c.turn.ensures.request refl
          (steps_before M _ _ at q r a b s.sided past c.in-Some.code c.requires.phase c.in-Some.ensures.0 c.in-Some.ensures.1 c.step_request.ensures.keeps st
          (c.turn.ensures.window ∙ ap (λ a. a.window) c.step_request.ensures.answer) (c.turn.ensures.open ∙ ap (λ a. a.is_open) c.step_request.ensures.answer) tu s.holds);
    }

pub step_request-requires : goal.step_request-requires
step_request-requires g c =
    let placed = g.S.Works.placed c.args.self.now.sides in
    let at = c.args.self.now.at in
    record { placed = at_server placed at.cut (placed_in placed (g.S.Works.answer c.args.self.now.sides) at.phase phase.Serving at.cut c.requires.phase c.requires.placed) }

pub newly_cut-requires : goal.newly_cut-requires
newly_cut-requires g c = record { placed = stay_somewhere (g.S.Works.placed c.args.self.now.sides) (g.S.Works.placed c.step_request.new.self) c.step_request.ensures.placed (is_somewhere (g.S.Works.placed c.args.self.now.sides) (g.S.Works.answer c.args.self.now.sides) c.args.self.now.at.phase c.args.self.now.at.cut c.requires.placed) }

pub is_begun-requires : goal.is_begun-requires
is_begun-requires g c = record { placed = stay_somewhere (g.S.Works.placed c.args.self.now.sides) (g.S.Works.placed c.step_request.new.self) c.step_request.ensures.placed (is_somewhere (g.S.Works.placed c.args.self.now.sides) (g.S.Works.answer c.args.self.now.sides) c.args.self.now.at.phase c.args.self.now.at.cut c.requires.placed) }

pub turn-requires-clause-placed : goal.turn-requires-clause-placed
turn-requires-clause-placed g c =
    let from : g.S.Works.placed c.args.self.now.sides Serves = serves (g.S.Works.placed c.args.self.now.sides) c.args.self.now.at.cut (ap is_turned c.in-Some.ensures.0) (placed_in (g.S.Works.placed c.args.self.now.sides) (g.S.Works.answer c.args.self.now.sides) c.args.self.now.at.phase phase.Serving c.args.self.now.at.cut c.requires.phase c.requires.placed) in
    c.step_request.ensures.placed Serves from

pub turn-requires-clause-begun : goal.turn-requires-clause-begun
turn-requires-clause-begun g c = sym c.is_begun.ensures ∙ c.if-is_begun.false

pub returns-in-None-clause-placed : goal.returns-in-None-clause-placed
returns-in-None-clause-placed g c = stay_placed (g.S.Works.placed c.args.self.now.sides) (g.S.Works.placed c.step_request.new.self) (g.S.Works.answer c.args.self.now.sides) (g.S.Works.answer c.step_request.new.self) c.args.self.now.at.phase c.args.self.now.at.cut c.step_request.ensures.placed (ap (λ (a : AnswerSeen). a.answered) c.step_request.ensures.answer) c.requires.placed

pub returns-then-is_begun-clause-placed : goal.returns-then-is_begun-clause-placed
returns-then-is_begun-clause-placed g c =
    let from : g.S.Works.placed c.args.self.now.sides Serves = serves (g.S.Works.placed c.args.self.now.sides) c.args.self.now.at.cut (ap is_turned c.in-Some.ensures.0) (placed_in (g.S.Works.placed c.args.self.now.sides) (g.S.Works.answer c.args.self.now.sides) c.args.self.now.at.phase phase.Serving c.args.self.now.at.cut c.requires.phase c.requires.placed) in
    placed_at (g.S.Works.placed c.step_request.new.self) (g.S.Works.answer c.step_request.new.self) c.args.self.now.at.phase phase.Serving (Some true) c.requires.phase (c.step_request.ensures.placed Serves from)

pub returns-else-is_begun-clause-placed : goal.returns-else-is_begun-clause-placed
returns-else-is_begun-clause-placed g c = placed_at (g.S.Works.placed c.turn.new.self) (g.S.Works.answer c.turn.new.self) c.args.self.now.at.phase phase.Serving (Some false) c.requires.phase c.turn.ensures.placed
