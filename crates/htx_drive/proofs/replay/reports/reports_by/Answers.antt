use Rattle.std.proofs.Common.{◌≤◌, ◌+◌, drop, length, map, ap, arith}
use Rattle.std.proofs.lemmas.Grind.{common_steps}
use Rattle.std.proofs.Math.ListN.{drop_of_length-le}
use Rattle.rec_format.specs.Read.{visits}
use Rattle.rec_format.specs.ReportParts.{out_of}
use Rattle.htx_drive.proofs.ReplayLemmas.Reported.{reports_done}
use Rattle.htx_drive.proofs.replay.reports.reports_by.Goals as goal

pub returns : goal.returns
returns g c =
    let recorded = c.args.recorded.now in
    let all = recorded.conns.items in
    let at = c.loop-conn.conn-index in
    let past : length all ≤ at = omega (arith, c.loop-conn-test.false, c.deref-conn-items.ensures.len) in
    reports_done (g.R.Replayer.comes_to c.args.replayer.now) recorded.turns.items (c.loop-conn.owner + 1) (visits all) (visits (drop at all)) (map out_of c.loop-conn.reports.items) (ap visits (drop_of_length-le all past)) c.loop-conn.invariant.1

pub loop-conn-preserved : goal.loop-conn-preserved
loop-conn-preserved g c = grind (arith, common_steps)
