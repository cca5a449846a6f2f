use Rattle.std.proofs.Common.{◌≡◌, ◌+◌, ◌++◌, ◌∷◌, [], ◌∙◌, sym, ap, take, rules}
use Rattle.cfg_expr.proofs.ConditionLemmas.Listed.{take-slice_get}
use Rattle.cfg_expr.proofs.condition.copies.copy_values.Goals as goal

pub each-preserved : goal.each-preserved
each-preserved c =
    let all = c.args.values.now in
    let one = c.in_ok-copy_value.field-0 in
    let same : one ≡ c.get.result.now = c.in_ok-copy_value.ensures in
    let pushed : c.push.new.self ≡ c.each.copied ++ one ∷ [] = search rules in
    let so_far : c.each.copied ≡ take c.each.at all = c.each.invariant in
    let taken : c.push.new.self ≡ take (c.each.at + 1) all =
    pushed ∙ ap (λ front. front ++ one ∷ []) so_far ∙ ap (λ x. take c.each.at all ++ x ∷ []) same ∙ sym (take-slice_get all c.each.at c.get.result.now c.get.ensures) in
    taken
