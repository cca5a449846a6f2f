use Rattle.std.proofs.Common.{List, ◌++◌, drop, map}
use Rattle.std.specs.List.{AllZip}
use Rattle.session_model.specs.Session.{Out}
use Rattle.rec_format.specs.ReportParts.{out_of}
use Rattle.htx_drive.specs.Weave.Memory.{ComesTo}
use Rattle.htx_drive.proofs.weave.record.reports.reports_for.Given as goal

-- whatever the later connections come to, the reports so far stand in front of it
abbrev pub invariant-loop-conn : goal.invariant-loop-conn
invariant-loop-conn l =
    (later : List Out) → AllZip ComesTo (drop l.conn-index l.conns) later → AllZip ComesTo l.conns (map out_of l.reports.items ++ later)
