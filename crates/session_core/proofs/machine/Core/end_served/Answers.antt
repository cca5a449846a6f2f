use Rattle.std.proofs.Common.{◌≢◌, Some, false, rules, ap, refl}
use Rattle.session_core.proofs.Served.{served_turned, served_ends, served_next, ready}
use Rattle.session_core.specs.Leads.{renewed_at}
use Rattle.session_core.proofs.Placing.{is_somewhere, placed_in, serves, serving_asked}
use Rattle.session_core.specs.declared.Phase.TheVariants as phase
use Rattle.session_core.specs.Waits.{is_turned}
use Rattle.session_core.specs.Place.{place_serving}
use Rattle.session_core.proofs.machine.Core.end_served.Goals as goal

pub returns-then-is_turned-clause-keeps : goal.returns-then-is_turned-clause-keeps
returns-then-is_turned-clause-keeps g c = λ cfg past s.
    let M = g.S.Works.meaning cfg in
    let at = c.args.self.now.at in
    let q = g.S.Works.request c.args.self.now.sides in
    let a = g.S.Works.answer c.args.self.now.sides in
    record { sided = s.sided; stand = s.stand; holds = served_turned M at q a s.sided past c.requires.phase (c.is_turned.ensures.0 c.if-is_turned.true) s.holds }

pub returns-in-Some-clause-keeps : goal.returns-in-Some-clause-keeps
returns-in-Some-clause-keeps g c = λ cfg past s.
    let M = g.S.Works.meaning cfg in
    let at = c.args.self.now.at in
    let q = g.S.Works.request c.args.self.now.sides in
    let a = g.S.Works.answer c.args.self.now.sides in
    let other : at.cut ≢ Some false = λ e. absurd (search (rules, c.is_turned.ensures.1 e, c.if-is_turned.false)) in
    record { sided = s.sided; stand = s.stand; holds = served_ends M at q a s.sided past c.in-Some.end c.requires.phase other (c.in-Some.ensures.follows cfg s.sided s.stand) s.holds }

pub returns-in-None-clause-keeps : goal.returns-in-None-clause-keeps
returns-in-None-clause-keeps g c = λ cfg past s.
    let M = g.S.Works.meaning cfg in
    let at = c.args.self.now.at in
    let q = g.S.Works.request c.args.self.now.sides in
    let a = g.S.Works.answer c.args.self.now.sides in
    let f = c.in-None.ensures.follows cfg s.sided s.stand in
    let y = ready M at q a s.sided past c.requires.phase f.1 s.holds in
    let re = c.next.ensures.leads cfg s.sided s.stand y.requests y.source y.sent in
    record {
      sided = renewed_at s.sided re.left;
      stand = re.stands;
      holds = served_next M _ at q (g.S.Works.request c.next.new.self) a (g.S.Works.answer c.next.new.self) s.sided past
          c.requires.phase f.1 f.0 f.2 c.next.ensures.request c.next.ensures.window c.next.ensures.answer re s.holds;
    }

pub returns-then-is_turned-clause-placed : goal.returns-then-is_turned-clause-placed
returns-then-is_turned-clause-placed g c = (place_serving c.args.self.now.at.cut, serving_asked c.args.self.now.at.cut, (placed_in (g.S.Works.placed c.args.self.now.sides) (g.S.Works.answer c.args.self.now.sides) c.args.self.now.at.phase phase.Served c.args.self.now.at.cut c.requires.phase c.requires.placed).0)

pub served_end-requires : goal.served_end-requires
served_end-requires g c = record { placed = is_somewhere (g.S.Works.placed c.args.self.now.sides) (g.S.Works.answer c.args.self.now.sides) c.args.self.now.at.phase c.args.self.now.at.cut c.requires.placed }

pub returns-in-Some-clause-placed : goal.returns-in-Some-clause-placed
returns-in-Some-clause-placed g c = (place_serving c.args.self.now.at.cut, serving_asked c.args.self.now.at.cut, (placed_in (g.S.Works.placed c.args.self.now.sides) (g.S.Works.answer c.args.self.now.sides) c.args.self.now.at.phase phase.Served c.args.self.now.at.cut c.requires.phase c.requires.placed).0)

pub next-requires-clause-placed : goal.next-requires-clause-placed
next-requires-clause-placed g c = serves (g.S.Works.placed c.args.self.now.sides) c.args.self.now.at.cut (ap is_turned (c.in-None.ensures.uncut refl)) (placed_in (g.S.Works.placed c.args.self.now.sides) (g.S.Works.answer c.args.self.now.sides) c.args.self.now.at.phase phase.Served c.args.self.now.at.cut c.requires.phase c.requires.placed).0

pub next-requires-clause-answered : goal.next-requires-clause-answered
next-requires-clause-answered g c = (placed_in (g.S.Works.placed c.args.self.now.sides) (g.S.Works.answer c.args.self.now.sides) c.args.self.now.at.phase phase.Served c.args.self.now.at.cut c.requires.phase c.requires.placed).1

pub returns-in-None-clause-placed : goal.returns-in-None-clause-placed
returns-in-None-clause-placed g c = (c.next.ensures.placed, c.in-None.ensures.uncut refl)
