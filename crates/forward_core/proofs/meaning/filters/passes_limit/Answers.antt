use Rattle.std.proofs.Common.{rules, ◌+◌, sym, ap, ◌∙◌, Bool, drop}
use Rattle.std.specs.Prelude.{Option}
use Rattle.forward_core.specs.Meaning.Product.{or_else, passes_limit}
use Rattle.forward_core.proofs.MeaningLemmas.Lists.{first_decides, none_decides}
use Rattle.forward_core.proofs.meaning.filters.passes_limit.Goals as goal

pub returns-in-Some : goal.returns-in-Some
returns-in-Some c =
    let rest = passes_limit (drop (c.loop-at.at + 1) c.args.filters.now) c.args.length in
    sym (first_decides c.args.filters.now c.args.length c.loop-at.at c.get.result.now c.get.ensures c.loop-at.invariant
    ∙ ap (λ (o : Option Bool). or_else o rest) (sym c.decided_by.ensures ∙ c.in-Some.is))

pub loop-at-preserved : goal.loop-at-preserved
loop-at-preserved c =
    let rest = passes_limit (drop (c.loop-at.at + 1) c.args.filters.now) c.args.length in
    sym (first_decides c.args.filters.now c.args.length c.loop-at.at c.get.result.now c.get.ensures c.loop-at.invariant
    ∙ ap (λ (o : Option Bool). or_else o rest) (sym c.decided_by.ensures ∙ c.in_default.is))

pub returns : goal.returns
returns c = sym (none_decides c.args.filters.now c.args.length c.loop-at.at (search rules) c.loop-at.invariant)
