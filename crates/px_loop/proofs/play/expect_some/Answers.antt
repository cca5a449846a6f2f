use Rattle.std.proofs.Common.{rules}
use Rattle.px_loop.proofs.Pieces.{given}
use Rattle.px_loop.proofs.play.expect_some.Goals as goal

pub returns-clause-came : goal.returns-clause-came
returns-clause-came g c = λ coming told. given _ _ _ c.args.bytes.now coming _ c.in-Ok.ensures.reads.gives told (search rules)
