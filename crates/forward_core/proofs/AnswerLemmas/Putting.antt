-- More of the last that answers is put out.
use Rattle.std.proofs.Common.{◌≡◌, ◌≢◌, ◌⊎◌, inl, inr, ℕ, ◌<◌, List, [], ◌++◌, true, false, refl, sym, ap, ◌∙◌, length, arith}
use Rattle.std.specs.Prelude.{is_none, Option, None}
use Rattle.http_model.specs.declared.Ending.{Ending}
use Rattle.px_sample.specs.Variables.{Variables}
use Rattle.http_rules.specs.declared.config.Config.{Config}
use Rattle.session_model.specs.Asking.{Asker}
use Rattle.session_core.specs.History.{Coming}
use Rattle.session_core.specs.declared.Told.TheVariants as told
use Rattle.session_core.specs.Sided.{Saying}
use Rattle.lane.specs.declared.direction.stage.Stage.{Stage}
use Rattle.http_model.specs.declared.Source.{Source}
use Rattle.http_model.specs.declared.Source.TheVariants as source
use Rattle.lane.specs.Answering.{Exchange, Answers, MayGoOn, with_put, ended_of, phase_of, source_of, output_of, shows_last}
use Rattle.lane.specs.declared.response_lane.ResponseLane.{ResponseLane}
use Rattle.forward_core.specs.Answer.Seen.{told_at, answered_at, is_done, is_last, told_by, seen}
use Rattle.forward_core.specs.Answer.Stands.{IsInHand, StandsAt, FitsAt}
use Rattle.forward_core.specs.declared.answer.place.Place.{Place}
use Rattle.forward_core.specs.declared.answer.place.Place.TheVariants as place
use Rattle.forward_core.specs.declared.answer.side.AnswerSide.{AnswerSide}
use Rattle.forward_core.proofs.AnswerLemmas.Events.{response_of, instead_of}

-- what a lane that puts out more keeps
pub record Puts (old new : ResponseLane) (more : List ℕ) : Type 0 where
  pub answers : (e : Exchange) → Answers old e → Answers new (with_put e more)
  pub ended : ended_of new ≡ ended_of old
  pub last : shows_last (phase_of old) ≡ true → shows_last (phase_of new) ≡ true

pub in_hand_puts : (asker : Asker) (old new : ResponseLane) (server : Coming) (put : List ℕ) (e : Exchange) (more : List ℕ) → Puts old new more → IsInHand asker old server put e → IsInHand asker new server (put ++ more) (with_put e more)
in_hand_puts asker old new server put e more t h =
    record { answers = t.answers e h.answers; asked = h.asked; bytes = h.bytes; ending = t.ended ∙ h.ending; passed = h.passed; put_is = ap (λ xs. xs ++ more) h.put_is }

pub puts_at : (at : Place) (status : Option ℕ) (cfg : Config) (asker : Asker) (before : Variables) (old new : ResponseLane) (server : Coming) (put : List ℕ) (now : Variables) (saying : Saying) (more : List ℕ) → is_last at ≡ true → Puts old new more
    → StandsAt at status cfg asker before old server put now saying → StandsAt at status cfg asker before new server (put ++ more) now saying
puts_at place.Idle status cfg asker before old new server put now saying more last t s = absurd (let both : false ≡ true = last in cc both)
puts_at place.Heads status cfg asker before old new server put now saying more last t s = absurd (let both : false ≡ true = last in cc both)
puts_at place.Saying status cfg asker before old new server put now saying more last t s = absurd (let both : false ≡ true = last in cc both)
puts_at place.Response status cfg asker before old new server put now saying more last t s =
    (with_put s.0 more, in_hand_puts asker old new server put s.0 more t s.1, record { shows = t.last s.2.shows; told = s.2.told }, response_of cfg asker before now s.0 (with_put s.0 more) refl refl s.3)
puts_at place.Closing status cfg asker before old new server put now saying more last t s =
    (with_put s.0 more, in_hand_puts asker old new server put s.0 more t s.1, record { shows = t.last s.2.shows; told = s.2.told }, instead_of cfg asker before server _ now s.0 (with_put s.0 more) refl refl refl s.3)
puts_at place.Keeping status cfg asker before old new server put now saying more last t s =
    (with_put s.0 more, in_hand_puts asker old new server put s.0 more t s.1, record { shows = t.last s.2.shows; told = s.2.told }, instead_of cfg asker before server _ now s.0 (with_put s.0 more) refl refl refl s.3)

pub last_shows : (at : Place) (side : AnswerSide) → is_last at ≡ true → FitsAt at side → shows_last (phase_of side.lane) ≡ true
last_shows place.Idle side last f = absurd (let both : false ≡ true = last in cc both)
last_shows place.Heads side last f = absurd (let both : false ≡ true = last in cc both)
last_shows place.Saying side last f = absurd (let both : false ≡ true = last in cc both)
last_shows place.Response side last f = f
last_shows place.Closing side last f = f.0
last_shows place.Keeping side last f = f.0

pub last_fits : (at : Place) (old new : AnswerSide) → is_last at ≡ true → (shows_last (phase_of old.lane) ≡ true → shows_last (phase_of new.lane) ≡ true)
    → (shows_last (phase_of old.lane) ≡ true → source_of old.lane ≡ source.Whole → source_of new.lane ≡ source.Whole) → FitsAt at old → FitsAt at new
last_fits place.Idle old new last shows whole f = absurd (let both : false ≡ true = last in cc both)
last_fits place.Heads old new last shows whole f = absurd (let both : false ≡ true = last in cc both)
last_fits place.Saying old new last shows whole f = absurd (let both : false ≡ true = last in cc both)
last_fits place.Response old new last shows whole f = shows f
last_fits place.Closing old new last shows whole f = (shows f.0, whole f.0 f.1)
last_fits place.Keeping old new last shows whole f = (shows f.0, whole f.0 f.1)

pub last_answered : (at : Place) (st : Stage) → is_last at ≡ true → answered_at at st ≡ is_done st
last_answered place.Idle st last = absurd (let both : false ≡ true = last in cc both)
last_answered place.Heads st last = absurd (let both : false ≡ true = last in cc both)
last_answered place.Saying st last = absurd (let both : false ≡ true = last in cc both)
last_answered place.Response st last = refl
last_answered place.Closing st last = refl
last_answered place.Keeping st last = refl

some_output : (lane : ResponseLane) → 0 < length (output_of lane) → output_of lane ≢ []
some_output lane some = λ none. (let e : length (output_of lane) ≡ 0 = ap length none in omega (arith, some, e))

none_open : (o : Option Ending) → o ≡ None → is_none o ≡ true
none_open o e = ap is_none e

whole_not : (src : Source) → src ≡ source.Whole → src ≡ source.Going → ⊥
whole_not src w g = let both : source.Whole ≡ source.Going = sym w ∙ g in cc both

-- it waits for the client, or for the server, which may give more
pub last_waits : (at : Place) (side : AnswerSide) → is_last at ≡ true → FitsAt at side → MayGoOn side.lane
    → (output_of side.lane ≢ []) ⊎ ((told_at at (source_of side.lane) ≡ told.Going) × ((seen side).is_open ≡ true) × (0 < (seen side).room))
last_waits place.Idle side last f g = absurd (let both : false ≡ true = last in cc both)
last_waits place.Heads side last f g = absurd (let both : false ≡ true = last in cc both)
last_waits place.Saying side last f g = absurd (let both : false ≡ true = last in cc both)
last_waits place.Response side last f (inl some) = inl (some_output side.lane some)
last_waits place.Response side last f (inr (going, room, open_)) = inr (ap told_by going, none_open side.lane.lane.ended open_, omega (arith, room))
last_waits place.Closing side last f (inl some) = inl (some_output side.lane some)
last_waits place.Closing side last f (inr (going, room, open_)) = absurd (whole_not side.lane.lane.source f.1 going)
last_waits place.Keeping side last f (inl some) = inl (some_output side.lane some)
last_waits place.Keeping side last f (inr (going, room, open_)) = absurd (whole_not side.lane.lane.source f.1 going)
