use Rattle.std.proofs.Common.{[], ap}
use Rattle.session_core.specs.Sided.{RequestSeen}
use Rattle.session_core.specs.declared.Phase.TheVariants as phase
use Rattle.session_core.proofs.Events.{dropping, holds_at, holds_in, stops, connect_of}
use Rattle.session_core.proofs.Placing.{is_somewhere, stay_placed}
use Rattle.session_core.specs.Sided.{AnswerSeen}
use Rattle.session_core.proofs.machine.Core.server_stopped.Goals as goal

pub returns-clause-leads : goal.returns-clause-leads
returns-clause-leads g c = λ cfg past s.
    let M = g.S.Works.meaning cfg in
    let at = c.args.self.now.at in
    let q = g.S.Works.request c.args.self.now.sides in
    let a = g.S.Works.answer c.args.self.now.sides in
    let dropped = c.drop_request.ensures.request in
    let r : RequestSeen = dropping q [] in
    let k = connect_of M at q a s.sided past c.requires.serving s.holds in
    record {
      sided = record s.sided { to_server = k.connect.taken };
      stand = c.drop_request.ensures.leads cfg s.sided k.connect.taken s.stand k.taken;
      holds = holds_in M at phase.Serving _ _ _ _ c.requires.serving (holds_at M (record at { phase = phase.Serving }) r (g.S.Works.request c.drop_request.new.self) a (g.S.Works.answer c.drop_request.new.self) _ _ dropped c.drop_request.ensures.answer
          (stops M at q [] a s.sided past c.requires.serving c.requires.waits s.holds));
    }

pub drop_request-requires-clause-placed : goal.drop_request-requires-clause-placed
drop_request-requires-clause-placed g c = is_somewhere (g.S.Works.placed c.args.self.now.sides) (g.S.Works.answer c.args.self.now.sides) c.args.self.now.at.phase c.args.self.now.at.cut c.requires.placed

pub returns-clause-placed : goal.returns-clause-placed
returns-clause-placed g c = stay_placed (g.S.Works.placed c.args.self.now.sides) (g.S.Works.placed c.drop_request.new.self) (g.S.Works.answer c.args.self.now.sides) (g.S.Works.answer c.drop_request.new.self) c.args.self.now.at.phase c.args.self.now.at.cut c.drop_request.ensures.placed (ap (λ (a : AnswerSeen). a.answered) c.drop_request.ensures.answer) c.requires.placed

pub returns-clause-list : goal.returns-clause-list
returns-clause-list g c = ap (λ (q : RequestSeen). q.list) c.drop_request.ensures.request
