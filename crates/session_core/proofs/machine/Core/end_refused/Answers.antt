use Rattle.std.proofs.Common.{refl, sym, ◌∙◌}
use Rattle.session_core.proofs.Working.{still}
use Rattle.session_core.proofs.Turning.{ends_refusing}
use Rattle.session_core.proofs.Placing.{is_somewhere, placed_in}
use Rattle.session_core.specs.Place.{Says}
use Rattle.session_core.specs.declared.Phase.TheVariants as phase
use Rattle.session_core.proofs.machine.Core.end_refused.Goals as goal

pub returns-then-is_answered-clause-keeps : goal.returns-then-is_answered-clause-keeps
returns-then-is_answered-clause-keeps g c = λ cfg past s.
    let M = g.S.Works.meaning cfg in
    let at = c.args.self.now.at in
    let q = g.S.Works.request c.args.self.now.sides in
    let a = g.S.Works.answer c.args.self.now.sides in
    record { sided = s.sided; stand = s.stand; holds = ends_refusing M at q a s.sided past c.requires.phase (sym c.is_answered.ensures ∙ c.if-is_answered.true) s.holds }

pub returns-else-is_answered-clause-keeps : goal.returns-else-is_answered-clause-keeps
returns-else-is_answered-clause-keeps g c = λ cfg past s. still (g.S.Works.meaning cfg) g.S.Works.request g.S.Works.answer (g.S.Works.stands cfg) c.args.self.now.sides c.args.self.now.at past s

pub is_answered-requires : goal.is_answered-requires
is_answered-requires g c = record { placed = is_somewhere (g.S.Works.placed c.args.self.now.sides) (g.S.Works.answer c.args.self.now.sides) c.args.self.now.at.phase c.args.self.now.at.cut c.requires.placed }

pub returns-then-is_answered-clause-placed : goal.returns-then-is_answered-clause-placed
returns-then-is_answered-clause-placed g c = (Says, refl, placed_in (g.S.Works.placed c.args.self.now.sides) (g.S.Works.answer c.args.self.now.sides) c.args.self.now.at.phase phase.Refusing c.args.self.now.at.cut c.requires.phase c.requires.placed)
