use Rattle.std.proofs.Common.{◌≡◌, true, false, sym, ◌∙◌, inl, inr, ◌⊎◌, []}
use Rattle.lane.specs.Direction.Sends.{RestsFor, IsAtRest}
use Rattle.lane.specs.Direction.State.{LaneState}
use Rattle.lane.proofs.direction.lane.Lane.step.Goals as goal

pub returns-then-is_dropping-clause-stands : goal.returns-then-is_dropping-clause-stands
returns-then-is_dropping-clause-stands c = λ p s. c.read_out.ensures.stands p s.sends

pub returns-then-is_dropping-clause-no_stall : goal.returns-then-is_dropping-clause-no_stall
returns-then-is_dropping-clause-no_stall c = λ p s. c.read_out.ensures.goes_on p s.sends

pub returns-then-is_dropping-clause-no_cut : goal.returns-then-is_dropping-clause-no_cut
returns-then-is_dropping-clause-no_cut c = λ p s _. c.read_out.ensures.rests p s.sends

pub returns-clause-stands : goal.returns-clause-stands
returns-clause-stands c = λ p s. c.put_out.ensures.stands p s.sends

pub returns-clause-no_stall : goal.returns-clause-no_stall
returns-clause-no_stall c = λ p s. c.put_out.ensures.goes_on p s.sends

pub returns-clause-all : goal.returns-clause-all
returns-clause-all c = λ p s none _. c.put_out.ensures.all p s.sends none

rests_of : (l : LaneState) → (l.output.items ≡ [] → IsAtRest l) → l.dropped ≡ false → (l.output.items ≡ []) ⊎ (l.dropped ≡ true) → RestsFor l
rests_of l all kept (inl none) = (all none).for
rests_of l all kept (inr dropped) = let both : true ≡ false = sym dropped ∙ kept in absurd (cc both)

pub returns-clause-no_cut : goal.returns-clause-no_cut
returns-clause-no_cut c = λ p s. rests_of c.put_out.new.self (c.put_out.ensures.all p s.sends) c.put_out.ensures.kept
