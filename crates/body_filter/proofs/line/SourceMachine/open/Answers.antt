use Rattle.std.proofs.Common.{◌∙◌, ap, arith}
use Rattle.body_filter.specs.Feeding.{Meaning}
use Rattle.body_filter.proofs.Chains.{one_filter, no_filter}
use Rattle.body_filter.proofs.line.SourceMachine.open.Goals as goal

pub returns-clause-meaning : goal.returns-clause-meaning
returns-clause-meaning c = λ whole rest.
    ap (λ m. m whole rest) c.new-2.ensures.meaning ∙ c.in_ok-stage.ensures.meaning whole rest
    ∙ one_filter c.args.filters.now c.index-filters-0.result c.index-filters-0.is (omega (arith, c.requires.few)) whole rest

pub returns-clause-fresh : goal.returns-clause-fresh
returns-clause-fresh c = λ whole rest.
    ap (λ m. m whole rest) (c.new-2.ensures.fresh ∙ c.in_ok-stage.ensures.fresh)
    ∙ one_filter c.args.filters.now c.index-filters-0.result c.index-filters-0.is (omega (arith, c.requires.few)) whole rest

pub returns-then-filters-eq0-clause-meaning : goal.returns-then-filters-eq0-clause-meaning
returns-then-filters-eq0-clause-meaning c = λ whole rest.
    ap (λ (m : Meaning). m whole rest) (c.new-then-filters-eq0.ensures.meaning ∙ c.new.ensures) ∙ no_filter c.args.filters.now c.if-filters-eq0.true whole rest

pub returns-then-filters-eq0-clause-fresh : goal.returns-then-filters-eq0-clause-fresh
returns-then-filters-eq0-clause-fresh c = λ whole rest. ap (λ (m : Meaning). m whole rest) c.new-then-filters-eq0.ensures.fresh ∙ no_filter c.args.filters.now c.if-filters-eq0.true whole rest
