use Rattle.std.proofs.Common.{◌≡◌, ◌+◌, drop}
use Rattle.rec_format.specs.ReportParts.{servers_of}
use Rattle.htx_drive.specs.Drill.Lines.{sent_total}
use Rattle.htx_drive.proofs.drill.lines.sent_total.Given as goal

abbrev pub invariant-loop-server : goal.invariant-loop-server
invariant-loop-server l = l.total + sent_total (servers_of (drop l.server-index l.servers)) ≡ sent_total (servers_of l.servers)
