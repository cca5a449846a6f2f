use Rattle.px_link.specs.Net.{address_of}
use Rattle.px_run.specs.Course.{GoesOn, MayStep}
use Rattle.px_run.specs.Log.{Logs}
use Rattle.px_run.proofs.connection.moves.Given as goal

abbrev pub invariant-loop-taken : goal.invariant-loop-taken
invariant-loop-taken g l =
    record {
      goes : (cfg : g.row.C-Settings.Denot) (first : g.row.L.Denot) (first_net : g.row.N.Denot)
          → GoesOn (g.C.Machine.stands cfg) g.C.Machine.seen l.initial.core g.L.Link.seen g.L.Link.wrote first l.initial.conn.client l.initial.conn.server (address_of l.to) (g.N.Net.seen first_net) (g.N.Net.seen l.initial.conn.net)
          → GoesOn (g.C.Machine.stands cfg) g.C.Machine.seen l.core g.L.Link.seen g.L.Link.wrote first l.conn.client l.conn.server (address_of l.to) (g.N.Net.seen first_net) (g.N.Net.seen l.conn.net);
      logs : (cfg : g.row.C-Settings.Denot) (first : g.row.L.Denot) (first_net : g.row.N.Denot)
          → GoesOn (g.C.Machine.stands cfg) g.C.Machine.seen l.initial.core g.L.Link.seen g.L.Link.wrote first l.initial.conn.client l.initial.conn.server (address_of l.to) (g.N.Net.seen first_net) (g.N.Net.seen l.initial.conn.net)
          → Logs g.C.Machine.meaning g.C.Machine.stands cfg g.C.Machine.seen g.L.Link.seen g.L.Link.wrote g.N.Net.seen first (address_of l.to) first_net l.initial.tools.log l.tools.log;
      may : MayStep g.C.Machine.seen g.C.Machine.sound l.core l.conn.server (g.N.Net.seen l.conn.net) l.conn.ran;
    }
