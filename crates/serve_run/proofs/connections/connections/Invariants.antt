use Rattle.std.proofs.Common.{◌≡◌, List, length}
use Rattle.px_link.specs.Told.{Gains}
use Rattle.serve_run.specs.Lines.{lines_from}
use Rattle.serve_run.specs.Served.{ServedOne, Serves}
use Rattle.serve_run.specs.Visits.{Leaves}
use Rattle.serve_run.specs.declared.outcome.Outcome.{Outcome}
use Rattle.serve_run.proofs.connections.connections.Given as goal

abbrev pub invariant-loop-served : goal.invariant-loop-served
invariant-loop-served g l =
    let settings = g.S.Sessions.settings l.initial.sessions in
    record {
      served : (outcomes : List Outcome) × (length outcomes ≡ l.served)
          × Serves (ServedOne g.N.Link.Link.seen g.N.Link.Link.wrote g.N.Net.seen (g.S.Sessions.session settings) (g.S.Sessions.to settings)) l.initial.net outcomes l.net
          × Gains (g.K.Sink.written l.initial.out) (g.K.Sink.written l.out) (lines_from 1 outcomes);
      quiet : g.K.Sink.faults l.out ≡ g.K.Sink.faults l.initial.out;
      binds : (g.N.Net.seen l.net).bind_faults ≡ (g.N.Net.seen l.initial.net).bind_faults;
      leaves : Leaves (g.S.Sessions.to settings) (g.N.Net.seen l.initial.net) (g.N.Net.seen l.net);
      settings : g.S.Sessions.settings l.sessions ≡ settings;
    }
