use Rattle.std.proofs.Common.{false, ap}
use Rattle.session_core.specs.History.{ends}
use Rattle.session_core.proofs.Events.{holds_at, client_ends}
use Rattle.session_core.proofs.Placing.{is_somewhere, stay_placed}
use Rattle.session_core.specs.Sided.{AnswerSeen}
use Rattle.session_core.proofs.machine.Core.client_ended.Goals as goal

pub returns-clause-leads : goal.returns-clause-leads
returns-clause-leads g c = λ cfg past s.
    let M = g.S.Works.meaning cfg in
    let at = c.args.self.now.at in
    let q = g.S.Works.request c.args.self.now.sides in
    let a = g.S.Works.answer c.args.self.now.sides in
    record {
      sided = record s.sided { came = ends s.sided.came c.args.how };
      stand = c.client_ended.ensures.leads cfg s.sided s.stand;
      holds = holds_at M at (record q { is_open = false; at_rest = false }) (g.S.Works.request c.client_ended.new.self) a (g.S.Works.answer c.client_ended.new.self) _ _ c.client_ended.ensures.request c.client_ended.ensures.answer
          (client_ends M at q a s.sided past c.args.how c.requires.open s.holds);
    }

pub client_ended-requires-clause-placed : goal.client_ended-requires-clause-placed
client_ended-requires-clause-placed g c = is_somewhere (g.S.Works.placed c.args.self.now.sides) (g.S.Works.answer c.args.self.now.sides) c.args.self.now.at.phase c.args.self.now.at.cut c.requires.placed

pub returns-clause-placed : goal.returns-clause-placed
returns-clause-placed g c = stay_placed (g.S.Works.placed c.args.self.now.sides) (g.S.Works.placed c.client_ended.new.self) (g.S.Works.answer c.args.self.now.sides) (g.S.Works.answer c.client_ended.new.self) c.args.self.now.at.phase c.args.self.now.at.cut c.client_ended.ensures.placed (ap (λ (a : AnswerSeen). a.answered) c.client_ended.ensures.answer) c.requires.placed
