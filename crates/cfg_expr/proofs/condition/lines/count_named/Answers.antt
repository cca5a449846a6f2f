use Rattle.std.proofs.Common.{◌∙◌, sym, arith}
use Rattle.cfg_expr.specs.Condition.Lines.{is_named}
use Rattle.cfg_expr.proofs.ConditionLemmas.Listed.{count-next, count-here}
use Rattle.cfg_expr.proofs.condition.lines.count_named.Goals as goal

pub each-preserved-then-not-is_named : goal.each-preserved-then-not-is_named
each-preserved-then-not-is_named c =
    let h = c.each.invariant in
    let same = count-next (is_named c.args.name.now) c.args.lines.now c.each.at c.get.result.now c.get.ensures (sym c.is_named.ensures ∙ c.if-not-is_named.true) in
    record { few = omega arith; counted = h.counted ∙ sym same }

pub each-preserved : goal.each-preserved
each-preserved c =
    let h = c.each.invariant in
    let more = count-here (is_named c.args.name.now) c.args.lines.now c.each.at c.get.result.now c.get.ensures (sym c.is_named.ensures ∙ c.if-not-is_named.false) in
    record { few = omega arith; counted = omega (arith, more, h.counted) }
