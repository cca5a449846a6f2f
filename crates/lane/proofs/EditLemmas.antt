-- A lane whose array was edited.
use Rattle.std.proofs.Common.{◌≡◌, ◌≢◌, ◌⊎◌, inl, inr, sym, ◌∙◌, subst}
use Rattle.htx_arena.specs.Layout.Contents.{Contents}
use Rattle.lane.specs.Direction.Lending.{with_msg}
use Rattle.lane.specs.Direction.Sends.{IsSound, IsReady}
use Rattle.lane.specs.declared.direction.stage.Stage.{Stage}
use Rattle.lane.specs.declared.direction.stage.Stage.TheVariants as stage
use Rattle.lane.specs.declared.direction.lane.Lane.{Lane}
use Rattle.lane.specs.Answering.{Exchange, HeadsAt, AnswersAt, Answers, IsSoundAt, IsSoundAnswer}
use Rattle.lane.specs.Lending.{with_answer_head}
use Rattle.lane.specs.declared.phase.Phase.{Phase}
use Rattle.lane.specs.declared.phase.Phase.TheVariants as phase
use Rattle.lane.specs.declared.response_lane.ResponseLane.{ResponseLane}

pub edited_sound : (lane : Lane) (msg : Contents) → msg.size ≡ lane.msg.size → IsSound lane → IsSound (with_msg lane msg)
edited_sound lane msg same s = record {
  sized = record { least = s.sized.least; msg = same ∙ s.sized.msg; out = s.sized.out; input = s.sized.input; output = s.sized.output; sieve = s.sized.sieve; filters = s.sized.filters };
  most = s.most;
  reserve = s.reserve;
  held = s.held;
}

pub edited_ready : (lane : Lane) (msg : Contents) → msg.size ≡ lane.msg.size → IsReady lane → IsReady (with_msg lane msg)
edited_ready lane msg same r = record { sound = edited_sound lane msg same r.sound; out = r.out; kept = r.kept }

-- ---- a lane of answers, where a head stands in the array

not_head : (st : Stage) → st ≡ stage.Head → st ≢ stage.Sending
not_head st e f = let both : stage.Head ≡ stage.Sending = sym e ∙ f in absurd (cc both)

not_done : (st : Stage) → st ≡ stage.Head → st ≢ stage.Done
not_done st e f = let both : stage.Head ≡ stage.Done = sym e ∙ f in absurd (cc both)

not_reading : (st : Stage) → st ≡ stage.Head → st ≢ stage.Reading
not_reading st e f = let both : stage.Head ≡ stage.Reading = sym e ∙ f in absurd (cc both)

edited_at : (ph : Phase) (lane : ResponseLane) (msg : Contents) (p : Exchange) → lane.lane.stage ≡ stage.Head → AnswersAt ph lane p → AnswersAt ph (with_answer_head lane msg) p
edited_at phase.Heads lane msg p e a =
    let at : HeadsAt stage.Head lane.lane p = subst (λ (st : Stage). HeadsAt st lane.lane p) e a.2 in
    (a.0, a.1, subst (λ (st : Stage). HeadsAt st (with_msg lane.lane msg) p) (sym e) at)
edited_at phase.Passing lane msg p e a = absurd (not_head lane.lane.stage e a.0.stage)
edited_at (phase.Turning no_body) lane msg p e a = absurd (not_head lane.lane.stage e a.0.stage)
edited_at phase.Answering lane msg p e a = absurd (by a.sent)
  where
    by : (lane.lane.stage ≡ stage.Sending) ⊎ (lane.lane.stage ≡ stage.Done) → ⊥
    by (inl f) = not_head lane.lane.stage e f
    by (inr f) = not_done lane.lane.stage e f

pub edited_answers : (lane : ResponseLane) (msg : Contents) (p : Exchange) → lane.lane.stage ≡ stage.Head → Answers lane p → Answers (with_answer_head lane msg) p
edited_answers lane msg p e a = edited_at lane.phase lane msg p e a

sound_edited_at : (ph : Phase) (lane : ResponseLane) (msg : Contents) → lane.lane.stage ≡ stage.Head → IsSoundAt ph lane → IsSoundAt ph (with_answer_head lane msg)
sound_edited_at phase.Heads lane msg e s = ((λ f. absurd (not_reading lane.lane.stage e f)), s.1, s.2, s.3)
sound_edited_at phase.Passing lane msg e s = s
sound_edited_at (phase.Turning no_body) lane msg e s = s
sound_edited_at phase.Answering lane msg e s = s

pub edited_answer_sound : (lane : ResponseLane) (msg : Contents) → msg.size ≡ lane.lane.msg.size → lane.lane.stage ≡ stage.Head → IsSoundAnswer lane → IsSoundAnswer (with_answer_head lane msg)
edited_answer_sound lane msg same e s = record {
  sound = edited_sound lane.lane msg same s.sound;
  kept = s.kept;
  at = sound_edited_at lane.phase lane msg e s.at;
}
