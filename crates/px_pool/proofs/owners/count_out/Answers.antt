use Rattle.std.proofs.Common.{arith}
use Rattle.px_pool.proofs.Places.{count_passes, one_small}
use Rattle.px_pool.proofs.owners.count_out.Goals as goal

pub loop-owner-preserved : goal.loop-owner-preserved
loop-owner-preserved c =
    let one = one_small _ _ c.one_out-count.ensures in
    record {
      sum = count_passes c.args.owners.now c.loop-owner.owner-index c.loop-owner.count _ _ c.loop-owner-test.true c.one_out-count.ensures c.loop-owner.invariant.sum;
      within = omega (arith, one, c.loop-owner.invariant.within);
    }
