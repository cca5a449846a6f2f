use Rattle.std.proofs.Common.{◌≤◌, drop, length, map, arith}
use Rattle.std.proofs.Math.ListN.{drop_of_length-le}
use Rattle.rec_format.specs.ReportParts.{out_of}
use Rattle.htx_drive.specs.Weave.Memory.{ComesTo}
use Rattle.htx_drive.proofs.RecordLemmas.Zips.{zip_done}
use Rattle.htx_drive.proofs.weave.record.reports.reports_for.Goals as goal

pub returns : goal.returns
returns c =
    let all = c.args.conns.now in
    let at = c.loop-conn.conn-index in
    let past : length all ≤ at = omega (arith, c.loop-conn-test.false) in
    zip_done ComesTo all (drop at all) (map out_of c.loop-conn.reports.items) (drop_of_length-le all past) c.loop-conn.invariant
