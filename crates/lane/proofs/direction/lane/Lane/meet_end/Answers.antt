use Rattle.std.proofs.Common.{rules}
use Rattle.lane.proofs.DirectionLemmas.SendLemmas.{sends_cut, sends_source}
use Rattle.http_model.specs.declared.Ending.TheVariants as ending
use Rattle.lane.specs.contracts.direction.lane.Lane.{the_view}
use Rattle.lane.proofs.direction.lane.Lane.meet_end.Goals as goal

pub returns-in-Some-Closed-clause-leads : goal.returns-in-Some-Closed-clause-leads
returns-in-Some-Closed-clause-leads c =
    let l = the_view c.self.inside in
    rw (← c.self.view_is) (λ p s is none waits more.
    sends_source l p c.source_at_close-self-inside.result c.source_at_close-self-inside.ensures.whole c.source_at_close-self-inside.ensures.cut s is none (search rules) waits more)

pub returns-in-Some-Broke-clause-leads : goal.returns-in-Some-Broke-clause-leads
returns-in-Some-Broke-clause-leads c =
    let l = the_view c.self.inside in
    rw (← c.self.view_is) (λ p s is none waits more.
    sends_cut l p ending.Broke s is none (search rules) waits more (λ e. absurd (cc)))
