use Rattle.std.proofs.Common.{◌≡◌, true, sym, ◌∙◌, subst}
use Rattle.lane.specs.Direction.State.{LaneState}
use Rattle.lane.specs.Direction.Sends.{Sends}
use Rattle.lane.specs.contracts.direction.lane.Lane.{the_view}
use Rattle.lane.proofs.DirectionLemmas.StallLemmas.{sends_cleared}
use Rattle.lane.proofs.direction.lane.Lane.drop_sifted.Goals as goal

pub returns-clause-leads : goal.returns-clause-leads
returns-clause-leads c = λ d p s.
    sends_cleared (the_view c.self.inside) p c.clear.new.self (subst (λ (l : LaneState). l.dropped ≡ true) (sym c.self.view_is) (c.sift.ensures.keeps.dropped ∙ d)) c.clear.ensures.size
    (subst (λ (l : LaneState). Sends l p) (sym c.self.view_is) (c.sift.ensures.leads p s))
