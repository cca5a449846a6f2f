use Rattle.lane.proofs.DirectionLemmas.StallLemmas.{stands_ended}
use Rattle.lane.specs.Direction.State.{LaneState}
use Rattle.lane.specs.contracts.direction.lane.Lane.{the_view}
use Rattle.std.specs.Prelude.{None}
use Rattle.std.proofs.Common.{◌≡◌, sym, subst}
use Rattle.lane.proofs.direction.lane.Lane.end.Goals as goal

pub returns-clause-stands : goal.returns-clause-stands
returns-clause-stands c =
    let l = the_view c.self.inside in
    let was = subst (λ (s : LaneState). s.ended ≡ None) (sym c.self.view_is) c.requires in
    rw (← c.self.view_is) (λ p s. stands_ended l p c.args.how was s)
