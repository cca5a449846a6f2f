use Rattle.std.proofs.Common.{false, take, drop, refl, ap}
use Rattle.session_core.specs.History.{taking}
use Rattle.session_core.specs.declared.Phase.TheVariants as phase
use Rattle.session_core.proofs.Events.{holds_at, holds_in, while_serving, server_takes}
use Rattle.session_core.proofs.Placing.{is_somewhere, stay_placed}
use Rattle.session_core.specs.Sided.{AnswerSeen}
use Rattle.session_core.proofs.machine.Core.server_took.Goals as goal

pub returns-clause-leads : goal.returns-clause-leads
returns-clause-leads g c = λ cfg past s.
    let M = g.S.Works.meaning cfg in
    let at = c.args.self.now.at in
    let q = g.S.Works.request c.args.self.now.sides in
    let a = g.S.Works.answer c.args.self.now.sides in
    record {
      sided = s.sided;
      stand = c.server_took.ensures.leads cfg s.sided s.stand;
      holds = holds_in M at phase.Serving _ _ _ _ c.requires.serving (holds_at M (record at { phase = phase.Serving }) (record q { window = drop c.args.n q.window; at_rest = false }) (g.S.Works.request c.server_took.new.self) a (g.S.Works.answer c.server_took.new.self) _ _ c.server_took.ensures.request c.server_took.ensures.answer
          (while_serving M at phase.Serving q (record q { window = drop c.args.n q.window; at_rest = false }) a a s.sided s.sided past (taking (take c.args.n q.window)) c.requires.serving refl refl refl refl refl
          (λ d now h n. server_takes M q a s.sided c.args.n at.cut d h) s.holds));
    }

pub server_took-requires-clause-placed : goal.server_took-requires-clause-placed
server_took-requires-clause-placed g c = is_somewhere (g.S.Works.placed c.args.self.now.sides) (g.S.Works.answer c.args.self.now.sides) c.args.self.now.at.phase c.args.self.now.at.cut c.requires.placed

pub returns-clause-placed : goal.returns-clause-placed
returns-clause-placed g c = stay_placed (g.S.Works.placed c.args.self.now.sides) (g.S.Works.placed c.server_took.new.self) (g.S.Works.answer c.args.self.now.sides) (g.S.Works.answer c.server_took.new.self) c.args.self.now.at.phase c.args.self.now.at.cut c.server_took.ensures.placed (ap (λ (a : AnswerSeen). a.answered) c.server_took.ensures.answer) c.requires.placed
