use Rattle.std.proofs.Common.{◌-◌, length, false, ap}
use Rattle.session_core.specs.History.{gains}
use Rattle.session_core.proofs.Events.{holds_at, client_gives}
use Rattle.session_core.proofs.Placing.{is_somewhere, stay_placed}
use Rattle.session_core.specs.Sided.{AnswerSeen}
use Rattle.session_core.proofs.machine.Core.from_client.Goals as goal

pub returns-clause-leads : goal.returns-clause-leads
returns-clause-leads g c = λ cfg past s.
    let M = g.S.Works.meaning cfg in
    let at = c.args.self.now.at in
    let q = g.S.Works.request c.args.self.now.sides in
    let a = g.S.Works.answer c.args.self.now.sides in
    let r = c.from_client.ensures.request in
    record {
      sided = record s.sided { came = gains s.sided.came c.args.bytes.now };
      stand = c.from_client.ensures.leads cfg s.sided s.stand;
      holds = holds_at M at (record q { room = q.room - length c.args.bytes.now; unread = r.0; at_rest = false }) (g.S.Works.request c.from_client.new.self) a (g.S.Works.answer c.from_client.new.self) _ _ r.1 c.from_client.ensures.answer
          (client_gives M at q a s.sided past c.args.bytes.now (q.room - length c.args.bytes.now) r.0 c.requires.open s.holds);
    }

pub from_client-requires-clause-placed : goal.from_client-requires-clause-placed
from_client-requires-clause-placed g c = is_somewhere (g.S.Works.placed c.args.self.now.sides) (g.S.Works.answer c.args.self.now.sides) c.args.self.now.at.phase c.args.self.now.at.cut c.requires.placed

pub returns-clause-placed : goal.returns-clause-placed
returns-clause-placed g c = stay_placed (g.S.Works.placed c.args.self.now.sides) (g.S.Works.placed c.from_client.new.self) (g.S.Works.answer c.args.self.now.sides) (g.S.Works.answer c.from_client.new.self) c.args.self.now.at.phase c.args.self.now.at.cut c.from_client.ensures.placed (ap (λ (a : AnswerSeen). a.answered) c.from_client.ensures.answer) c.requires.placed
