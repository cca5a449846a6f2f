use Rattle.std.proofs.Common.{◌≡◌, sym, ◌∙◌, subst}
use Rattle.lane.specs.Direction.Sends.{GoesOn, Stands}
use Rattle.lane.specs.Direction.State.{LaneState}
use Rattle.lane.specs.declared.direction.stage.Stage.TheVariants as stage
use Rattle.lane.proofs.DirectionLemmas.StallLemmas.{goes_on, at_rest, stands_at}
use Rattle.lane.proofs.direction.lane.Lane.put_out.Goals as goal

pub returns-clause-goes_on : goal.returns-clause-goes_on
returns-clause-goes_on c = λ p s sending.
    subst GoesOn (sym c.settle.ensures.same)
    (goes_on c.carry.new.self p (c.carry.ensures.leads p s) (c.carry.ensures.rests p s)
    (λ rest over. let both : stage.Done ≡ stage.Sending = sym (c.settle.ensures.rests rest over) ∙ sending in absurd (cc both)))

pub returns-clause-all : goal.returns-clause-all
returns-clause-all c = λ p s none.
    at_rest c.carry.new.self c.settle.new.self.stage c.settle.new.self p (c.carry.ensures.leads p s) (c.carry.ensures.rests p s) c.settle.ensures.same none

pub returns-clause-stands : goal.returns-clause-stands
returns-clause-stands c = λ p s.
    subst (λ (l : LaneState). Stands l p) (sym c.settle.ensures.same) (stands_at c.carry.new.self c.settle.new.self.stage p (c.carry.ensures.leads p s) c.settle.ensures.done)
