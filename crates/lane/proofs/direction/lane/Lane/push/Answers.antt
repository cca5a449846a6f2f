use Rattle.lane.proofs.DirectionLemmas.StallLemmas.{stands_open}
use Rattle.lane.specs.Direction.State.{LaneState}
use Rattle.lane.specs.contracts.direction.lane.Lane.{the_view}
use Rattle.std.specs.Prelude.{None}
use Rattle.std.proofs.Common.{◌≡◌, sym, subst}
use Rattle.lane.proofs.direction.lane.Lane.push.Goals as goal

pub returns-clause-stands : goal.returns-clause-stands
returns-clause-stands c =
    let l = the_view c.self.inside in
    let was_open = subst (λ (s : LaneState). s.ended ≡ None) (sym c.self.view_is) c.requires.open in
    rw (← c.self.view_is) (λ p s. stands_open l p c.push.new.self l.ended c.args.bytes.now was_open c.push.ensures.items c.push.ensures.capacity s)
