use Rattle.std.proofs.Common.{refl}
use Rattle.session_core.specs.History.{closing_by}
use Rattle.session_core.specs.declared.Phase.TheVariants as phase
use Rattle.session_core.proofs.Events.{while_serving, server_closes}
use Rattle.session_core.proofs.Placing.{placed_in}
use Rattle.session_core.proofs.machine.Core.server_closed.Goals as goal

pub returns-clause-leads : goal.returns-clause-leads
returns-clause-leads g c = λ cfg past s.
    let M = g.S.Works.meaning cfg in
    let at = c.args.self.now.at in
    let q = g.S.Works.request c.args.self.now.sides in
    let a = g.S.Works.answer c.args.self.now.sides in
    record {
      sided = s.sided;
      stand = s.stand;
      holds = while_serving M at phase.Served q q a a s.sided s.sided past (closing_by past.note) c.requires.serving refl refl refl refl refl
          (λ d now h n. server_closes M q a s.sided past.note at.cut d c.requires.sent c.requires.taken c.requires.answered n h) s.holds;
    }

pub returns-clause-placed : goal.returns-clause-placed
returns-clause-placed g c = (placed_in (g.S.Works.placed c.args.self.now.sides) (g.S.Works.answer c.args.self.now.sides) c.args.self.now.at.phase phase.Serving c.args.self.now.at.cut c.requires.serving c.requires.placed, c.requires.answered)
