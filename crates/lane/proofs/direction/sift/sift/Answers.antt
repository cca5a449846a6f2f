use Rattle.std.proofs.Common.{refl, sym, subst}
use Rattle.std.specs.Prelude.{Option, Some}
use Rattle.lane.specs.declared.sieve.sieve.Sieve.{Sieve}
use Rattle.lane.specs.Direction.Coming.{ComesBy}
use Rattle.lane.proofs.direction.sift.sift.Goals as goal

pub returns-in-Some-clause-comes : goal.returns-in-Some-clause-comes
returns-in-Some-clause-comes c =
    subst (λ (o : Option Sieve). ComesBy c.sift_into.result c.args.to.now.size o (Some c.sift_into.new.sieve) c.sift_into.new.to.blocks) (sym c.in-Some.is) (c.sift_into.new.sieve, refl, c.sift_into.ensures.comes)
