use Rattle.std.proofs.Common.{◌∙◌, ap, arith}
use Rattle.body_filter.proofs.Chains.{more_filters}
use Rattle.body_filter.specs.Sources.{source_meaning, source_fresh}
use Rattle.body_filter.specs.Pairs.{paired}
use Rattle.body_filter.proofs.line.LineMachine.open.Goals as goal

pub returns-clause-meaning : goal.returns-clause-meaning
returns-clause-meaning g c = λ whole rest.
    let n = g.B.Machine.meaning c.in_ok-next.next in
    let m = source_meaning c.new-2.result in
    ap (λ xs. paired m xs n whole rest) c.in_ok-mid.ensures.0
    ∙ more_filters c.args.filters.now c.index-filters-0.result m n c.index-filters-0.is (omega arith) (λ w r. ap (λ k. k w r) c.new-2.ensures.meaning ∙ c.in_ok-stage.ensures.meaning w r) c.in_ok-next.ensures.meaning whole rest

pub returns-clause-fresh : goal.returns-clause-fresh
returns-clause-fresh g c = λ whole rest.
    let n = g.B.Machine.fresh c.in_ok-next.next in
    let m = source_fresh c.new-2.result in
    more_filters c.args.filters.now c.index-filters-0.result m n c.index-filters-0.is (omega arith) (λ w r. ap (λ k. k w r) (c.new-2.ensures.fresh ∙ c.in_ok-stage.ensures.fresh)) c.in_ok-next.ensures.fresh whole rest
