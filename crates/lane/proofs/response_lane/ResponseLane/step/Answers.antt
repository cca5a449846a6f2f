use Rattle.std.proofs.Common.{◌≡◌, true, false, inl, sym, ap, ◌∙◌}
use Rattle.lane.specs.Answering.{shows_last}
use Rattle.lane.specs.declared.phase.Phase.TheVariants as phase
use Rattle.lane.proofs.response_lane.ResponseLane.step.Goals as goal

pub returns-in-Heads-clause-heads : goal.returns-in-Heads-clause-heads
returns-in-Heads-clause-heads c = λ first. record { first = first; stage = inl c.requires.sending }

pub returns-in-Turning-clause-heads : goal.returns-in-Turning-clause-heads
returns-in-Turning-clause-heads c = λ first. absurd (let both : true ≡ false = sym (ap shows_last c.in-Turning.is) ∙ first in cc both)

pub returns-in-Answering-clause-heads : goal.returns-in-Answering-clause-heads
returns-in-Answering-clause-heads c = λ first. absurd (let both : true ≡ false = sym (ap shows_last c.in-Answering.is) ∙ first in cc both)

pub returns-in-Heads-clause-nothing_back : goal.returns-in-Heads-clause-nothing_back
returns-in-Heads-clause-nothing_back c = λ p a at none. absurd (let both : phase.Heads ≡ phase.Answering = sym c.in-Heads.is ∙ at in cc both)

pub returns-in-Heads-clause-no_cut : goal.returns-in-Heads-clause-no_cut
returns-in-Heads-clause-no_cut c = λ p a at none. absurd (let both : phase.Heads ≡ phase.Answering = sym c.in-Heads.is ∙ at in cc both)
