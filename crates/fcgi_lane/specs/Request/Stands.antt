-- What a translator of requests stands for.
use Rattle.std.specs.Prelude.{◌≡◌, ℕ, List, [], ◌++◌, if◌then◌else◌}
use Rattle.fcgi_lane.specs.declared.request.state.RequestState.{RequestState}
use Rattle.fcgi_lane.specs.declared.request.state.RequestState.TheVariants as state
use Rattle.fcgi_model.specs.Application.{Application}
use Rattle.fcgi_model.specs.Body.{Place, is_going, is_whole}
use Rattle.fcgi_model.specs.declared.refusal.Refusal.{Refusal}
use Rattle.fcgi_model.specs.Flow.{Asked, InHead, Behind, Refused, asked_of, IsSent}

-- how far a translator has come with a request
pub data Reading : Type 0 where
  -- the head isn't whole behind these bytes of it
  AtHead : (text : List ℕ) → Reading
  AtBody : (place : Place) → Reading
  Stopped : Refusal → Reading

-- how far one has come that knows what is asked
abbrev pub reading_of : Asked → Reading
reading_of (InHead text) = AtHead text
reading_of (Behind front body place) = AtBody place
reading_of (Refused why) = Stopped why

-- so far one has come, and these are records of what is asked
abbrev pub IsNow : Asked → (at : Reading) → (sent : List ℕ) → Type 0
IsNow asked at sent = (reading_of asked ≡ at) × IsSent asked sent

-- the application, how far it has come, and what is left to give
pub record Translating : Type 0 where
  pub application : Application
  pub at : Reading
  pub left : List ℕ

-- It stands for these bytes of a request, of which so much was given: what was given and what is left to give are records of what these bytes ask.
pub record Stands (t : Translating) (given bytes : List ℕ) : Type 0 where
  pub now : IsNow (asked_of t.application bytes) t.at (given ++ t.left)

-- one that was fed nothing
abbrev pub starting : Application → Translating
starting application = record { application = application; at = AtHead []; left = [] }

-- ---- what may come

-- behind a body that stands there
abbrev pub state_in : Place → RequestState
state_in place = if is_going place then state.Going else if is_whole place then state.Whole else state.Broken

abbrev pub state_at : Reading → RequestState
state_at (AtHead text) = state.Going
state_at (AtBody place) = state_in place
state_at (Stopped why) = state.Refused why
