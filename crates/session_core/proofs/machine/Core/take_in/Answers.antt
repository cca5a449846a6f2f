use Rattle.std.proofs.Common.{◌-◌, length, false, refl, ap}
use Rattle.session_core.specs.History.{gains, given_by}
use Rattle.session_core.specs.declared.Phase.TheVariants as phase
use Rattle.session_core.proofs.Events.{holds_at, holds_in, while_serving, server_gives}
use Rattle.session_core.proofs.Placing.{is_somewhere, stay_placed}
use Rattle.session_core.specs.Sided.{AnswerSeen}
use Rattle.session_core.proofs.machine.Core.take_in.Goals as goal

pub returns-clause-leads : goal.returns-clause-leads
returns-clause-leads g c = λ cfg past s.
    let M = g.S.Works.meaning cfg in
    let at = c.args.self.now.at in
    let q = g.S.Works.request c.args.self.now.sides in
    let a = g.S.Works.answer c.args.self.now.sides in
    let b : AnswerSeen = record a { room = a.room - length c.args.bytes.now; at_rest = false } in
    record {
      sided = record s.sided { server = gains s.sided.server c.args.bytes.now };
      stand = c.from_server.ensures.leads cfg s.sided s.stand;
      holds = holds_in M at phase.Serving _ _ _ _ c.requires.serving (holds_at M (record at { phase = phase.Serving }) q (g.S.Works.request c.from_server.new.self) b (g.S.Works.answer c.from_server.new.self) _ _ c.from_server.ensures.request c.from_server.ensures.answer
          (while_serving M at phase.Serving q q a b s.sided (record s.sided { server = gains s.sided.server c.args.bytes.now }) past (given_by c.args.bytes.now) c.requires.serving refl refl refl refl refl
          (λ d now h n. server_gives M q a s.sided c.args.bytes.now (a.room - length c.args.bytes.now) at.cut d c.requires.open h) s.holds));
    }

pub from_server-requires-clause-placed : goal.from_server-requires-clause-placed
from_server-requires-clause-placed g c = is_somewhere (g.S.Works.placed c.args.self.now.sides) (g.S.Works.answer c.args.self.now.sides) c.args.self.now.at.phase c.args.self.now.at.cut c.requires.placed

pub returns-clause-placed : goal.returns-clause-placed
returns-clause-placed g c = stay_placed (g.S.Works.placed c.args.self.now.sides) (g.S.Works.placed c.from_server.new.self) (g.S.Works.answer c.args.self.now.sides) (g.S.Works.answer c.from_server.new.self) c.args.self.now.at.phase c.args.self.now.at.cut c.from_server.ensures.placed (ap (λ (a : AnswerSeen). a.answered) c.from_server.ensures.answer) c.requires.placed
