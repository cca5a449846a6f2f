use Rattle.std.proofs.Common.{◌≡◌, ◌+◌, ◌++◌, drop}
use Rattle.rec_format.specs.Lines.{text_of_lines}
use Rattle.rec_format.specs.Report.{server_lines}
use Rattle.rec_format.specs.ReportParts.{servers_of}
use Rattle.rec_format.proofs.report.put_servers.Given as goal

abbrev pub invariant-loop-at : goal.invariant-loop-at
invariant-loop-at l =
    l.text.items ++ text_of_lines (server_lines (l.at + 1) (servers_of (drop l.at l.servers))) ≡ l.initial.text.items ++ text_of_lines (server_lines 1 (servers_of l.servers))
