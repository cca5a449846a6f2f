use Rattle.std.proofs.Common.{◌≡◌, true, false, sym, ◌∙◌, subst, rules}
use Rattle.lane.specs.Direction.State.{LaneState}
use Rattle.lane.specs.Direction.Sends.{Sends}
use Rattle.lane.specs.contracts.direction.lane.Lane.{the_view}
use Rattle.lane.proofs.DirectionLemmas.StallLemmas.{sends_cleared}
use Rattle.lane.proofs.direction.lane.Lane.drop_part.Goals as goal

pub returns-then-not-read_body-clause-rests : goal.returns-then-not-read_body-clause-rests
returns-then-not-read_body-clause-rests c = λ p d s _.
    let no_more : c.read_body.result ≡ false = search rules in
    (c.read_body.ensures.waits p (c.drop_held.ensures.leads d p s) no_more).2

pub returns-clause-leads : goal.returns-clause-leads
returns-clause-leads c = λ d p s.
    sends_cleared (the_view c.self.inside) p c.clear.new.self (subst (λ (l : LaneState). l.dropped ≡ true) (sym c.self.view_is) (c.read_body.ensures.keeps.dropped ∙ c.drop_held.ensures.keeps.dropped ∙ d)) c.clear.ensures.size
    (subst (λ (l : LaneState). Sends l p) (sym c.self.view_is) (c.read_body.ensures.leads p (c.drop_held.ensures.leads d p s)))
