use Rattle.std.proofs.Common.{true, false, refl}
use Rattle.session_core.specs.History.{no_stream, connected}
use Rattle.session_core.specs.Sided.{Sided}
use Rattle.session_core.specs.declared.Phase.TheVariants as phase
use Rattle.session_core.proofs.Events.{holds_at}
use Rattle.session_core.proofs.Opening.{connected_so, connects_now, opened_server, refused_server}
use Rattle.session_core.proofs.Placing.{placed_in, serves_uncut}
use Rattle.session_core.proofs.machine.Core.server_opened.Goals as goal

pub returns-then-yes-clause-leads : goal.returns-then-yes-clause-leads
returns-then-yes-clause-leads g c = λ cfg past s.
    let M = g.S.Works.meaning cfg in
    let at = c.args.self.now.at in
    let q = g.S.Works.request c.args.self.now.sides in
    let a = g.S.Works.answer c.args.self.now.sides in
    let b = g.S.Works.answer c.open_server.new.self in
    let p : Sided M = record s.sided { server = no_stream } in
    record {
      sided = p;
      stand = c.open_server.ensures.leads cfg s.sided s.stand;
      holds = connected_so M _ _ _ _ past c.args.yes true c.if-yes.true (holds_at M (record at { phase = phase.Serving }) q (g.S.Works.request c.open_server.new.self) b b _ _ c.open_server.ensures.request refl
          (connects_now M at phase.Serving q a b s.sided p past (connected true) c.requires.phase refl refl refl c.open_server.ensures.window
          (λ h. opened_server M q a b s.sided at.cut c.open_server.ensures.open (c.open_server.ensures.answers cfg s.sided s.stand h.2) h) s.holds));
    }

pub returns-else-yes-clause-leads : goal.returns-else-yes-clause-leads
returns-else-yes-clause-leads g c = λ cfg past s.
    let M = g.S.Works.meaning cfg in
    let at = c.args.self.now.at in
    let q = g.S.Works.request c.args.self.now.sides in
    let a = g.S.Works.answer c.args.self.now.sides in
    record {
      sided = s.sided;
      stand = s.stand;
      holds = connected_so M _ _ _ _ past c.args.yes false c.if-yes.false (connects_now M at phase.Unserved q a a s.sided s.sided past (connected false) c.requires.phase refl refl refl refl
          (λ h. refused_server M q a s.sided at.cut h) s.holds);
    }

pub open_server-requires : goal.open_server-requires
open_server-requires g c = record { placed = (placed_in (g.S.Works.placed c.args.self.now.sides) (g.S.Works.answer c.args.self.now.sides) c.args.self.now.at.phase phase.Opening c.args.self.now.at.cut c.requires.phase c.requires.placed).0 }

pub returns-then-yes-clause-placed : goal.returns-then-yes-clause-placed
returns-then-yes-clause-placed g c = serves_uncut (g.S.Works.placed c.open_server.new.self) c.args.self.now.at.cut (placed_in (g.S.Works.placed c.args.self.now.sides) (g.S.Works.answer c.args.self.now.sides) c.args.self.now.at.phase phase.Opening c.args.self.now.at.cut c.requires.phase c.requires.placed).1 c.open_server.ensures.placed

pub returns-else-yes-clause-placed : goal.returns-else-yes-clause-placed
returns-else-yes-clause-placed g c = (placed_in (g.S.Works.placed c.args.self.now.sides) (g.S.Works.answer c.args.self.now.sides) c.args.self.now.at.phase phase.Opening c.args.self.now.at.cut c.requires.phase c.requires.placed).0
