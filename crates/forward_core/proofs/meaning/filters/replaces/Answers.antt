use Rattle.std.proofs.Common.{◌||◌, sym, ap, ◌∙◌, Bool}
use Rattle.forward_core.specs.Meaning.Product.{replaces}
use Rattle.forward_core.proofs.MeaningLemmas.Lists.{first_replaces}
use Rattle.std.proofs.Common.{drop, ◌+◌}
use Rattle.forward_core.proofs.meaning.filters.replaces.Goals as goal

pub returns-then-is_replace : goal.returns-then-is_replace
returns-then-is_replace c =
    let rest = replaces (drop (c.loop-at.at + 1) c.args.filters.now) in
    sym (first_replaces c.args.filters.now c.loop-at.at c.get.result.now c.get.ensures c.loop-at.invariant
    ∙ ap (λ (b : Bool). b || rest) (sym c.is_replace.ensures ∙ c.if-is_replace.true))

pub loop-at-preserved : goal.loop-at-preserved
loop-at-preserved c =
    let rest = replaces (drop (c.loop-at.at + 1) c.args.filters.now) in
    sym (first_replaces c.args.filters.now c.loop-at.at c.get.result.now c.get.ensures c.loop-at.invariant
    ∙ ap (λ (b : Bool). b || rest) (sym c.is_replace.ensures ∙ c.if-is_replace.false))
