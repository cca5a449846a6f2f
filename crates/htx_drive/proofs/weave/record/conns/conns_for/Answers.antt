use Rattle.std.proofs.Common.{◌≤◌, drop, length, ap, arith}
use Rattle.std.proofs.Math.ListN.{drop_of_length-le}
use Rattle.rec_format.specs.Read.{visits}
use Rattle.htx_drive.specs.Weave.Memory.{IsFreshConn}
use Rattle.htx_drive.proofs.RecordLemmas.Zips.{zip_done}
use Rattle.htx_drive.proofs.weave.record.conns.conns_for.Goals as goal

pub returns : goal.returns
returns c =
    let all = c.args.conns.now in
    let at = c.loop-conn.conn-index in
    let past : length all ≤ at = omega (arith, c.loop-conn-test.false) in
    zip_done IsFreshConn (visits all) (visits (drop at all)) c.loop-conn.all.items (ap visits (drop_of_length-le all past)) c.loop-conn.invariant
