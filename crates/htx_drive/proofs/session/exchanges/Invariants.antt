use Rattle.std.proofs.Common.{◌≡◌, ◌+◌, ℕ, List, false, length}
use Rattle.session_core.specs.History.{Past}
use Rattle.px_link.specs.Net.{address_of}
use Rattle.px_link.specs.declared.turns.Turn.{Turn}
use Rattle.htx_drive.specs.Driven.{Idle, Rests}
use Rattle.htx_drive.specs.Turned.{StandsIn}
use Rattle.htx_drive.specs.Dialled.{Goes, Dials}
use Rattle.htx_drive.proofs.session.exchanges.Given as goal

abbrev pub invariant-steps : goal.invariant-steps
invariant-steps g l =
    record {
      goes : (cfg : g.row.C-Settings.Denot) (all : List Turn) (budget : ℕ) (first : g.row.L.Denot) (first_net : g.row.N.Denot) (past : Past)
          → Idle (Rests (StandsIn (g.C.Machine.stands cfg) g.C.Machine.seen all (g.T.Turns.left l.initial.turns) budget l.initial.resources.left l.initial.core)) g.L.Link.seen g.L.Link.wrote first l.initial.client false past → Dials (address_of l.to) (g.N.Net.seen first_net) (g.N.Net.seen l.initial.net) past.connects
          → Goes (Rests (StandsIn (g.C.Machine.stands cfg) g.C.Machine.seen all (g.T.Turns.left l.turns) budget l.resources.left l.core)) g.L.Link.seen g.L.Link.wrote first l.client false (address_of l.to) (g.N.Net.seen first_net) (g.N.Net.seen l.net) past l.initial.resources.left l.resources.left;
      sound : g.C.Machine.sound l.core;
      serving : (g.C.Machine.seen l.core).serving ≡ false;
    }

abbrev pub decreases-steps : goal.decreases-steps
decreases-steps g l = l.resources.left + length (g.T.Turns.left l.turns)
