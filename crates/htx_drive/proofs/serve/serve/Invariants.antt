use Rattle.std.proofs.Common.{◌≡◌, ◌+◌, ◌≤◌, ℕ, List, true, false, length}
use Rattle.session_core.specs.History.{Past, Connect}
use Rattle.px_link.specs.declared.turns.Turn.{Turn}
use Rattle.htx_drive.specs.Driven.{Hand, HandGoes}
use Rattle.htx_drive.specs.Turned.{StandsIn}
use Rattle.htx_drive.proofs.serve.serve.Given as goal

abbrev pub invariant-turns : goal.invariant-turns
invariant-turns g l =
    record {
      goes : (cfg : g.row.C-Settings.Denot) (all : List Turn) (budget : ℕ) (first first_link : g.row.L.Denot) (before : List Connect) (past : Past) (c : Connect)
          → Hand (StandsIn (g.C.Machine.stands cfg) g.C.Machine.seen all (g.T.Turns.left l.initial.turns) budget l.initial.resources.left l.initial.core) g.L.Link.seen g.L.Link.wrote first l.initial.client first_link l.initial.link false before past c
          → HandGoes (StandsIn (g.C.Machine.stands cfg) g.C.Machine.seen all (g.T.Turns.left l.turns) budget l.resources.left l.core) g.L.Link.seen g.L.Link.wrote first l.client first_link l.link false before past l.initial.resources.left l.resources.left;
      sound : g.C.Machine.sound l.core;
      serving : (g.C.Machine.seen l.core).serving ≡ true;
      fewer : length (g.T.Turns.left l.turns) ≤ length (g.T.Turns.left l.initial.turns);
      spends : l.resources.left ≤ l.initial.resources.left;
    }

abbrev pub decreases-turns : goal.decreases-turns
decreases-turns g l = l.resources.left + length (g.T.Turns.left l.turns)
