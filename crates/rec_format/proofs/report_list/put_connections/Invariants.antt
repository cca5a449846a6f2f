use Rattle.std.proofs.Common.{◌≡◌, ◌+◌, ◌++◌, drop, map}
use Rattle.rec_format.specs.ReportParts.{out_of}
use Rattle.rec_format.specs.Reports.{connections_text}
use Rattle.rec_format.proofs.report_list.put_connections.Given as goal

abbrev pub invariant-loop-at : goal.invariant-loop-at
invariant-loop-at l =
    l.text.items ++ connections_text (l.at + 1) (map out_of (drop l.at l.reports)) ≡ l.initial.text.items ++ connections_text 1 (map out_of l.reports)
