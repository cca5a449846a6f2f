use Rattle.std.proofs.Common.{◌≡◌, sym, subst, []}
use Rattle.body_filter.specs.Sources.{source_meaning, source_fresh}
use Rattle.body_filter.specs.Pairs.{lined}
use Rattle.body_filter.proofs.line.LineMachine.reset.Goals as goal

pub returns-in-None-clause-meaning : goal.returns-in-None-clause-meaning
returns-in-None-clause-meaning g c = λ whole rest.
    subst (λ n. lined g.B.Machine.meaning (source_meaning c.reset.new.self) c.clear.new.self.items n whole rest ≡ lined g.B.Machine.fresh (source_fresh c.args.self.now.source) [] n whole rest)
    (sym c.in-None.is) (c.reset.ensures.meaning whole rest)
