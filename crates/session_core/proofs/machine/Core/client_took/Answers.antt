use Rattle.std.proofs.Common.{false, drop, ap}
use Rattle.session_core.proofs.Events.{holds_at, client_takes}
use Rattle.session_core.proofs.Placing.{is_somewhere, stay_placed}
use Rattle.session_core.specs.Sided.{AnswerSeen}
use Rattle.session_core.proofs.machine.Core.client_took.Goals as goal

pub returns-clause-leads : goal.returns-clause-leads
returns-clause-leads g c = λ cfg past s.
    let M = g.S.Works.meaning cfg in
    let at = c.args.self.now.at in
    let q = g.S.Works.request c.args.self.now.sides in
    let a = g.S.Works.answer c.args.self.now.sides in
    record {
      sided = s.sided;
      stand = c.client_took.ensures.leads cfg s.sided s.stand;
      holds = holds_at M at q (g.S.Works.request c.client_took.new.self) (record a { window = drop c.args.n a.window; at_rest = false }) (g.S.Works.answer c.client_took.new.self) _ _ c.client_took.ensures.request c.client_took.ensures.answer
          (client_takes M at q a s.sided past c.args.n s.holds);
    }

pub client_took-requires-clause-placed : goal.client_took-requires-clause-placed
client_took-requires-clause-placed g c = is_somewhere (g.S.Works.placed c.args.self.now.sides) (g.S.Works.answer c.args.self.now.sides) c.args.self.now.at.phase c.args.self.now.at.cut c.requires.placed

pub returns-clause-placed : goal.returns-clause-placed
returns-clause-placed g c = stay_placed (g.S.Works.placed c.args.self.now.sides) (g.S.Works.placed c.client_took.new.self) (g.S.Works.answer c.args.self.now.sides) (g.S.Works.answer c.client_took.new.self) c.args.self.now.at.phase c.args.self.now.at.cut c.client_took.ensures.placed (ap (λ (a : AnswerSeen). a.answered) c.client_took.ensures.answer) c.requires.placed
