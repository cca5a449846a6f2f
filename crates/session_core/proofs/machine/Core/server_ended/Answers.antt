use Rattle.std.proofs.Common.{false, refl, ap}
use Rattle.session_core.specs.History.{ends, ended_by}
use Rattle.session_core.specs.declared.Phase.TheVariants as phase
use Rattle.session_core.proofs.Events.{holds_at, holds_in, while_serving, server_ends}
use Rattle.session_core.proofs.Placing.{is_somewhere, stay_placed}
use Rattle.session_core.specs.Sided.{AnswerSeen}
use Rattle.session_core.proofs.machine.Core.server_ended.Goals as goal

pub returns-clause-leads : goal.returns-clause-leads
returns-clause-leads g c = λ cfg past s.
    let M = g.S.Works.meaning cfg in
    let at = c.args.self.now.at in
    let q = g.S.Works.request c.args.self.now.sides in
    let a = g.S.Works.answer c.args.self.now.sides in
    record {
      sided = record s.sided { server = ends s.sided.server c.args.how };
      stand = c.server_ended.ensures.leads cfg s.sided s.stand;
      holds = holds_in M at phase.Serving _ _ _ _ c.requires.serving (holds_at M (record at { phase = phase.Serving }) q (g.S.Works.request c.server_ended.new.self) (record a { is_open = false; at_rest = false }) (g.S.Works.answer c.server_ended.new.self) _ _ c.server_ended.ensures.request c.server_ended.ensures.answer
          (while_serving M at phase.Serving q q a (record a { is_open = false; at_rest = false }) s.sided (record s.sided { server = ends s.sided.server c.args.how }) past (ended_by c.args.how) c.requires.serving refl refl refl refl refl
          (λ d now h n. server_ends M q a s.sided c.args.how at.cut d c.requires.open h) s.holds));
    }

pub server_ended-requires-clause-placed : goal.server_ended-requires-clause-placed
server_ended-requires-clause-placed g c = is_somewhere (g.S.Works.placed c.args.self.now.sides) (g.S.Works.answer c.args.self.now.sides) c.args.self.now.at.phase c.args.self.now.at.cut c.requires.placed

pub returns-clause-placed : goal.returns-clause-placed
returns-clause-placed g c = stay_placed (g.S.Works.placed c.args.self.now.sides) (g.S.Works.placed c.server_ended.new.self) (g.S.Works.answer c.args.self.now.sides) (g.S.Works.answer c.server_ended.new.self) c.args.self.now.at.phase c.args.self.now.at.cut c.server_ended.ensures.placed (ap (λ (a : AnswerSeen). a.answered) c.server_ended.ensures.answer) c.requires.placed
