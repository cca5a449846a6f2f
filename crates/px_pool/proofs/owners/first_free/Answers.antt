use Rattle.std.proofs.Common.{arith, ◌+◌, ◌∙◌, sym, ap}
use Rattle.px_pool.proofs.Places.{free_passes, out_passes, free_found, out_found}
use Rattle.px_pool.proofs.owners.first_free.Goals as goal

pub loop-owner-preserved : goal.loop-owner-preserved
loop-owner-preserved c =
    let os = c.args.owners.now in
    let i = c.loop-owner.owner-index in
    let e = sym c.is_free.ensures ∙ c.if-is_free.false in
    record {
      at = ap (λ n. n + 1) c.loop-owner.invariant.at;
      passed = free_passes os i _ c.loop-owner-test.true e c.loop-owner.invariant.passed;
      out = out_passes os i _ c.loop-owner-test.true e c.loop-owner.invariant.out;
    }

pub returns-then-is_free-clause-some : goal.returns-then-is_free-clause-some
returns-then-is_free-clause-some c =
    let os = c.args.owners.now in
    let i = c.loop-owner.owner-index in
    let at = c.loop-owner.invariant.at in
    let e = sym c.is_free.ensures ∙ c.if-is_free.true in
    (at ∙ free_found os i _ c.loop-owner-test.true e c.loop-owner.invariant.passed, out_found os i _ c.loop-owner-test.true e c.loop-owner.invariant.out, omega (arith, at, c.loop-owner-test.true))
