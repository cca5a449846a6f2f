use Rattle.std.proofs.Common.{◌≡◌, ◌+◌, take, sum_by, min, arith}
use Rattle.cfg_expr.specs.Condition.Conditions.{tests_in, most_count}
use Rattle.cfg_expr.proofs.ConditionLemmas.Listed.{sum-here}
use Rattle.cfg_expr.proofs.condition.counts.count_in_group.Goals as goal

pub each-preserved : goal.each-preserved
each-preserved c =
    let so_far : c.each.count ≡ min (sum_by tests_in (take c.each.at c.args.terms.now)) most_count = c.each.invariant in
    let next = sum-here tests_in c.args.terms.now c.each.at c.get.result.now c.get.ensures in
    let counted : c.saturating_add-count.result ≡ min (sum_by tests_in (take (c.each.at + 1) c.args.terms.now)) most_count =
    omega (arith, so_far, next, c.len.ensures, c.from.ensures, c.saturating_add-count.ensures) in
    counted
