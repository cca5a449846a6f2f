use Rattle.std.proofs.Common.{◌≡◌, ◌<◌, ◌≤◌, ◌+◌, ◌*◌, ℕ, List, true, is_some, if◌then◌else◌}
use Rattle.px_link.specs.Net.{address_of}
use Rattle.px_link.specs.declared.turns.Turn.{Turn}
use Rattle.px_link.specs.Turns.{first_of}
use Rattle.htx_drive.specs.Weave.Woven.{Pays, Going}
use Rattle.htx_drive.proofs.weave.moves.moves.Given as goal

abbrev pub invariant-steps : goal.invariant-steps
invariant-steps g l =
    record {
      goes : (cfg : g.row.C-Settings.Denot) (all ahead : List Turn) (total : ℕ) (first : g.row.L.Denot) (first_net : g.row.N.Denot) → l.turn ≡ first_of ahead
          → Pays total l.initial.resources.left (Going (g.C.Machine.stands cfg) g.C.Machine.seen all ahead l.initial.core g.L.Link.seen g.L.Link.wrote first l.initial.conn.client l.initial.conn.server (address_of l.to) (g.N.Net.seen first_net) (g.N.Net.seen l.initial.conn.net))
          → Pays total l.resources.left (Going (g.C.Machine.stands cfg) g.C.Machine.seen all ahead l.core g.L.Link.seen g.L.Link.wrote first l.conn.client l.conn.server (address_of l.to) (g.N.Net.seen first_net) (g.N.Net.seen l.conn.net));
      sound : g.C.Machine.sound l.core;
      serving : (g.C.Machine.seen l.core).serving ≡ is_some l.conn.server;
      lent : is_some l.conn.server ≡ true → 0 < (g.N.Net.seen l.conn.net).lent;
      ran : l.conn.ran ≡ l.initial.conn.ran;
      no_more : l.resources.left ≤ l.initial.resources.left;
    }

abbrev pub decreases-steps : goal.decreases-steps
decreases-steps g l = 2 * l.resources.left + (if is_some l.conn.server then 1 else 0)
