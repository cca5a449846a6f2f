use Rattle.std.proofs.Common.{refl, sym, subst}
use Rattle.std.specs.Prelude.{Option, Some}
use Rattle.lane.specs.declared.sieve.sieve.Sieve.{Sieve}
use Rattle.lane.specs.Direction.Holding.{HoldsBy}
use Rattle.lane.proofs.direction.hold.hold.Goals as goal

pub returns-in-Some-clause-holds : goal.returns-in-Some-clause-holds
returns-in-Some-clause-holds c =
    subst (λ (o : Option Sieve). HoldsBy c.args.ended c.args.reader.now c.hold_next.new.reader c.args.input.now.items c.hold_next.new.input.items o (Some c.hold_next.new.sieve) c.hold_next.result) (sym c.in-Some.is)
    (c.hold_next.new.sieve, refl, c.hold_next.ensures.holds)
