-- The last that answers, at rest.
use Rattle.std.proofs.Common.{◌≡◌, ◌≢◌, ◌⊎◌, inl, inr, ℕ, List, [], Option, true, false, refl, sym, ap, ◌∙◌, length, arith}
use Rattle.px_sample.specs.Variables.{Variables}
use Rattle.http_rules.specs.declared.config.Config.{Config}
use Rattle.session_model.specs.Asking.{Asker}
use Rattle.session_core.specs.History.{Coming}
use Rattle.session_core.specs.Sided.{Saying}
use Rattle.http_model.specs.declared.Source.{Source}
use Rattle.http_model.specs.declared.Source.TheVariants as source
use Rattle.lane.specs.declared.direction.stage.Stage.TheVariants as stage
use Rattle.lane.specs.Answering.{HoldsNothingBack, MayGoOn, phase_of, source_of, stage_of, output_of}
use Rattle.lane.specs.declared.phase.Phase.TheVariants as phase
use Rattle.lane.specs.declared.response_lane.ResponseLane.{ResponseLane}
use Rattle.forward_core.specs.Answer.Seen.{is_last}
use Rattle.forward_core.specs.Answer.Stands.{StandsAt, IsPutOut, RestsAt, FitsAt}
use Rattle.forward_core.specs.declared.answer.place.Place.{Place}
use Rattle.forward_core.specs.declared.answer.place.Place.TheVariants as place
use Rattle.forward_core.specs.declared.answer.side.AnswerSide.{AnswerSide}
use Rattle.forward_core.proofs.AnswerLemmas.Answering.{answering_at}

-- a lane whose body is over and whose output is empty has put out all
done_by : (lane : ResponseLane) → source_of lane ≢ source.Going → (stage_of lane ≡ stage.Sending) ⊎ (stage_of lane ≡ stage.Done) → (stage_of lane ≡ stage.Sending → MayGoOn lane) → output_of lane ≡ [] → stage_of lane ≡ stage.Done
done_by lane off (inr done) goes none = done
done_by lane off (inl sends) goes none = by (goes sends)
  where
    by : MayGoOn lane → stage_of lane ≡ stage.Done
    by (inl some) = absurd (let e : length (output_of lane) ≡ 0 = ap length none in omega (arith, some, e))
    by (inr waits) = absurd (off waits.0)

put_out_by : (src : Source) (lane : ResponseLane) → source_of lane ≡ src → (stage_of lane ≡ stage.Sending) ⊎ (stage_of lane ≡ stage.Done) → (stage_of lane ≡ stage.Sending → MayGoOn lane) → HoldsNothingBack lane → output_of lane ≡ [] → IsPutOut src lane
put_out_by source.Going lane e at goes rest none = rest
put_out_by source.Whole lane e at goes rest none = done_by lane (λ going. (let both : source.Whole ≡ source.Going = sym e ∙ going in cc both)) at goes none
put_out_by (source.Cut code) lane e at goes rest none = done_by lane (λ going. (let both : source.Cut code ≡ source.Going = sym e ∙ going in cc both)) at goes none

whole_done : (lane : ResponseLane) → source_of lane ≡ source.Whole → (stage_of lane ≡ stage.Sending) ⊎ (stage_of lane ≡ stage.Done) → (stage_of lane ≡ stage.Sending → MayGoOn lane) → output_of lane ≡ [] → stage_of lane ≡ stage.Done
whole_done lane whole at goes none = done_by lane (λ going. (let both : source.Whole ≡ source.Going = sym whole ∙ going in cc both)) at goes none

-- a step of the last that answers leaves nothing undone
pub last_rests : (at : Place) (side : AnswerSide) (cfg : Config) (asker : Asker) (before : Variables) (server : Coming) (put : List ℕ) (now : Variables) (saying : Saying) → is_last at ≡ true → FitsAt at side
    → StandsAt at side.status cfg asker before side.lane server put now saying → (stage_of side.lane ≡ stage.Sending) ⊎ (stage_of side.lane ≡ stage.Done) → (stage_of side.lane ≡ stage.Sending → MayGoOn side.lane)
    → (phase_of side.lane ≡ phase.Answering → output_of side.lane ≡ [] → HoldsNothingBack side.lane) → RestsAt at asker.head_asked side.lane
last_rests place.Idle side cfg asker before server put now saying last f s at goes back = absurd (let both : false ≡ true = last in cc both)
last_rests place.Heads side cfg asker before server put now saying last f s at goes back = absurd (let both : false ≡ true = last in cc both)
last_rests place.Saying side cfg asker before server put now saying last f s at goes back = absurd (let both : false ≡ true = last in cc both)
last_rests place.Response side cfg asker before server put now saying last f s at goes back = λ none.
    let a = answering_at side.lane.phase side.lane s.0 _ _ _ _ refl s.2.shows s.3.last s.1.answers in
    put_out_by (source_of side.lane) side.lane refl at goes (back a.0 none) none
last_rests place.Closing side cfg asker before server put now saying last f s at goes back = λ none. whole_done side.lane f.1 at goes none
last_rests place.Keeping side cfg asker before server put now saying last f s at goes back = λ none. whole_done side.lane f.1 at goes none

put_out_done : (src : Source) (lane : ResponseLane) → src ≢ source.Going → stage_of lane ≡ stage.Done → IsPutOut src lane
put_out_done source.Going lane off done = absurd (off refl)
put_out_done source.Whole lane off done = done
put_out_done (source.Cut code) lane off done = done

-- and so it is where all was put out before
pub done_rests : (at : Place) (status : Option ℕ) (cfg : Config) (asker : Asker) (before : Variables) (lane : ResponseLane) (server : Coming) (put : List ℕ) (now : Variables) (saying : Saying) → is_last at ≡ true → stage_of lane ≡ stage.Done
    → StandsAt at status cfg asker before lane server put now saying → RestsAt at asker.head_asked lane
done_rests place.Idle status cfg asker before lane server put now saying last done s = absurd (let both : false ≡ true = last in cc both)
done_rests place.Heads status cfg asker before lane server put now saying last done s = absurd (let both : false ≡ true = last in cc both)
done_rests place.Saying status cfg asker before lane server put now saying last done s = absurd (let both : false ≡ true = last in cc both)
done_rests place.Response status cfg asker before lane server put now saying last done s = λ none.
    let a = answering_at lane.phase lane s.0 _ _ _ _ refl s.2.shows s.3.last s.1.answers in
    put_out_done (source_of lane) lane (a.1.stands.done done) done
done_rests place.Closing status cfg asker before lane server put now saying last done s = λ none. done
done_rests place.Keeping status cfg asker before lane server put now saying last done s = λ none. done
