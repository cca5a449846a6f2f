use Rattle.std.proofs.Common.{arith, ◌+◌, ◌∙◌, sym, ap}
use Rattle.px_pool.proofs.Places.{place_passes, has_passes, place_found, has_found}
use Rattle.px_pool.proofs.owners.place_of.Goals as goal

pub loop-owner-preserved : goal.loop-owner-preserved
loop-owner-preserved c =
    let os = c.args.owners.now in
    let i = c.loop-owner.owner-index in
    let e = sym c.is_of.ensures ∙ c.if-is_of.false in
    record {
      at = ap (λ n. n + 1) c.loop-owner.invariant.at;
      passed = place_passes c.args.conn os i _ c.loop-owner-test.true e c.loop-owner.invariant.passed;
      has = has_passes c.args.conn os i _ c.loop-owner-test.true e c.loop-owner.invariant.has;
    }

pub returns-then-is_of-clause-some : goal.returns-then-is_of-clause-some
returns-then-is_of-clause-some c =
    let os = c.args.owners.now in
    let i = c.loop-owner.owner-index in
    let at = c.loop-owner.invariant.at in
    let e = sym c.is_of.ensures ∙ c.if-is_of.true in
    (at ∙ place_found c.args.conn os i _ c.loop-owner-test.true e c.loop-owner.invariant.passed, has_found c.args.conn os i _ c.loop-owner-test.true e c.loop-owner.invariant.has, omega (arith, at, c.loop-owner-test.true))
