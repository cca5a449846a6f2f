-- What is seen of an answer direction.
use Rattle.std.proofs.Common.{◌≡◌, ◌⊎◌, ℕ, ◌+◌, ◌-◌, arith, inl, true, false, sym, ap, ◌∙◌, subst}
use Rattle.session_core.specs.Sided.{AnswerSeen}
use Rattle.lane.specs.declared.direction.stage.Stage.{Stage}
use Rattle.lane.specs.declared.direction.stage.Stage.TheVariants as stage
use Rattle.lane.specs.Answering.{IsSoundAt, stage_of, source_of, phase_of, has_begun, shows_last}
use Rattle.lane.specs.declared.phase.Phase.{Phase}
use Rattle.lane.specs.declared.phase.Phase.TheVariants as phase
use Rattle.lane.specs.declared.response_lane.ResponseLane.{ResponseLane}
use Rattle.forward_core.specs.Answer.Seen.{answered_at}
use Rattle.forward_core.specs.Answer.Stands.{FitsAt}
use Rattle.forward_core.specs.declared.answer.place.Place.{Place}
use Rattle.forward_core.specs.declared.answer.place.Place.TheVariants as place
use Rattle.forward_core.specs.declared.answer.side.AnswerSide.{AnswerSide}
use Rattle.forward_core.proofs.AnswerLemmas.Bodies.{done_is}

pub seen_same : (a b : AnswerSeen) → a.is_open ≡ b.is_open → a.room ≡ b.room → a.window ≡ b.window → a.told ≡ b.told → a.answered ≡ b.answered → a.begun ≡ b.begun → a.heard ≡ b.heard → a.status ≡ b.status → a.at_rest ≡ b.at_rest → a ≡ b
seen_same a b is_open room window told answered begun heard status at_rest = λ i. record {
  is_open = is_open i;
  room = room i;
  window = window i;
  told = told i;
  answered = answered i;
  begun = begun i;
  heard = heard i;
  status = status i;
  at_rest = at_rest i;
}

-- what came takes as much of the room
pub room_less : (most most' held held' came : ℕ) → most' ≡ most → held' ≡ held + came → most' - held' ≡ (most - held) - came
room_less most most' held held' came same more = omega arith

-- ---- its place

-- a lane that keeps where it stands fits the same place
pub fits_same : (at : Place) (old new : AnswerSide) → new.heard ≡ old.heard → stage_of new.lane ≡ stage_of old.lane → has_begun new.lane ≡ has_begun old.lane → phase_of new.lane ≡ phase_of old.lane → source_of new.lane ≡ source_of old.lane
    → FitsAt at old → FitsAt at new
fits_same place.Idle old new heard st begun ph src f = (st ∙ f.0, begun ∙ f.1, heard ∙ f.2)
fits_same place.Heads old new heard st begun ph src f = (begun ∙ f.0, ap shows_last ph ∙ f.1, (λ done. f.2 (sym st ∙ done)), (λ head. f.3 (sym st ∙ head)))
fits_same place.Response old new heard st begun ph src f = ap shows_last ph ∙ f
fits_same place.Closing old new heard st begun ph src f = (ap shows_last ph ∙ f.0, src ∙ f.1)
fits_same place.Keeping old new heard st begun ph src f = (ap shows_last ph ∙ f.0, src ∙ f.1)
fits_same place.Saying old new heard st begun ph src f = (ap shows_last ph ∙ f.0, src ∙ f.1)

-- what is answered is done
pub answered_done : (at : Place) (st : Stage) → answered_at at st ≡ true → st ≡ stage.Done
answered_done place.Idle st e = absurd (let both : false ≡ true = e in cc both)
answered_done place.Heads st e = absurd (let both : false ≡ true = e in cc both)
answered_done place.Response st e = done_is st e
answered_done place.Closing st e = done_is st e
answered_done place.Keeping st e = done_is st e
answered_done place.Saying st e = done_is st e

-- where the last that answers is put out, the lane sends or is done
pub last_stage : (ph : Phase) (lane : ResponseLane) → shows_last ph ≡ true → IsSoundAt ph lane → (stage_of lane ≡ stage.Sending) ⊎ (stage_of lane ≡ stage.Done)
last_stage phase.Heads lane e s = absurd (let both : false ≡ true = e in cc both)
last_stage phase.Passing lane e s = absurd (let both : false ≡ true = e in cc both)
last_stage (phase.Turning no_body) lane e s = inl s.0
last_stage phase.Answering lane e s = s

pub at_place : (at : Place) (side : AnswerSide) → side.place ≡ at → FitsAt side.place side → FitsAt at side
at_place at side e f = subst (λ (p : Place). FitsAt p side) e f
