-- What the two directions of a session stand for together, with the rules between them.
use Rattle.std.specs.Prelude.{◌≡◌, ◌≢◌, ℕ, List, true, ⊤}
use Rattle.px_sample.specs.Variables.{Variables}
use Rattle.http_rules.specs.declared.config.Config.{Config}
use Rattle.http_rules.specs.Lives.{answering}
use Rattle.forward_core.specs.Meaning.Product.{meaning_of}
use Rattle.forward_core.specs.Rules.Ruling.{config_of, IsReady}
use Rattle.session_core.specs.Consequences.{IsTotal}
use Rattle.session_core.specs.Place.{Place}
use Rattle.session_core.specs.Place as at
use Rattle.session_core.specs.Sided.{Sided, RequestSeen, AnswerSeen, asker_in}
use Rattle.forward_core.specs.Request.Seen as requests
use Rattle.forward_core.specs.Request.Stands.{IsSound, RequestStands}
use Rattle.forward_core.specs.declared.request.place.Place.{Place as Asked}
use Rattle.forward_core.specs.declared.request.place.Place.TheVariants as asked
use Rattle.forward_core.specs.Answer.Seen as answers
use Rattle.forward_core.specs.Answer.Stands.{IsSoundSide, AnswerStands, TellsStatuses, is_serving}
use Rattle.forward_core.specs.declared.answer.place.Place.{Place as Answered}
use Rattle.forward_core.specs.declared.answer.place.Place.TheVariants as answered
use Rattle.forward_core.specs.declared.joined.directions.Directions.{Directions}

-- ---- what a core sees of them

abbrev pub request_of : Directions → RequestSeen
request_of d = requests.seen d.request

abbrev pub answer_of : Directions → AnswerSeen
answer_of d = answers.seen d.answer

-- so many bytes can stand in the output window to the server, and in that to the client
abbrev pub HasWindows : (size : ℕ) → Directions → Type 0
HasWindows size d = (requests.window_size_of d.request ≡ size) × (answers.window_size_of d.answer ≡ size)

-- as many bytes can stand in the output windows as could before
abbrev pub KeepsWindows : Directions → Directions → Type 0
KeepsWindows old new = (size : ℕ) → HasWindows size old → HasWindows size new

-- the configuration of their rules
abbrev pub settings_of : Directions → Config
settings_of d = config_of d.rules

-- ---- at any moment

-- both are sound, and have the sizes of the configuration
pub record IsSoundPair (d : Directions) : Type 0 where
  pub request : IsSound d.request
  pub answer : IsSoundSide d.answer
  pub rules : IsReady d.rules
  pub request_limits : requests.limits_of d.request ≡ (settings_of d).limits
  pub answer_size : answers.size_of d.answer ≡ (settings_of d).limits.bufsize
  pub method : d.method.cap ≡ (settings_of d).limits.bufsize

-- where each of them stands, by the place of both
abbrev pub StandAt : Place → Asked → Answered → Type 0
StandAt at.Reads r a = (r ≡ asked.Reading) × (a ≡ answered.Idle)
StandAt at.Opens r a = (r ≡ asked.Sending) × (a ≡ answered.Idle)
StandAt at.Serves r a = (r ≡ asked.Sending) × (is_serving a ≡ true)
StandAt at.Says r a = (r ≢ asked.Reading) × (a ≡ answered.Saying)
StandAt at.Replies r a = (r ≡ asked.Replied) × (a ≡ answered.Saying)
StandAt at.Ends r a = (r ≡ asked.Idle) × (a ≡ answered.Idle)

-- they are sound, and stand at this place
pub record IsAt (d : Directions) (at : Place) : Type 0 where
  pub sound : IsSoundPair d
  pub stand : StandAt at (requests.place_of d.request) (answers.place_of d.answer)

-- ---- for a past

-- the variables that the rules hold: those in front of the exchange, behind the request's rules, in front of the rules on the answer, or behind
-- the last that answers
abbrev pub Holds : Asked → Answered → (held before asking now : Variables) → Type 0
Holds asked.Reading a held before asking now = held ≡ before
Holds asked.Sending answered.Idle held before asking now = held ≡ asking
Holds asked.Sending answered.Heads held before asking now = held ≡ answering asking
Holds asked.Sending answered.Response held before asking now = held ≡ now
Holds asked.Sending answered.Closing held before asking now = held ≡ now
Holds asked.Sending answered.Keeping held before asking now = held ≡ now
Holds asked.Sending answered.Saying held before asking now = ⊤
Holds asked.Idle a held before asking now = ⊤
Holds asked.Replied a held before asking now = held ≡ now

-- the method that is kept, where a request goes to a server
abbrev pub KeepsMethod : Asked → (kept method : List ℕ) → Type 0
KeepsMethod asked.Reading kept method = ⊤
KeepsMethod asked.Sending kept method = kept ≡ method
KeepsMethod asked.Idle kept method = ⊤
KeepsMethod asked.Replied kept method = ⊤

-- What holds of a configuration, whatever came: each stream of a client has a head's reading, and while a server answers the status of its
-- answer is told.
pub record IsLawful (cfg : Config) : Type 0 where
  pub total : IsTotal (meaning_of cfg)
  pub statuses : TellsStatuses cfg

-- They stand for this past, under this configuration.
pub record DirectionsStand (cfg : Config) (d : Directions) (p : Sided (meaning_of cfg)) : Type 0 where
  pub config : settings_of d ≡ cfg
  pub laws : IsLawful cfg
  pub request : RequestStands cfg d.request p.vars p.came p.asking p.to_server p.reply
  pub answer : AnswerStands cfg d.answer p.asking p.server p.to_client p.now p.saying
  pub vars : Holds (requests.place_of d.request) (answers.place_of d.answer) d.rules.vars p.vars p.asking.vars p.now
  pub method : KeepsMethod (requests.place_of d.request) d.method.bytes (asker_in p.asking).method

-- And their output windows have the size of the session.
pub record SessionStands (settings : Config × ℕ) (d : Directions) (p : Sided (meaning_of settings.0)) : Type 0 where
  pub directions : DirectionsStand settings.0 d p
  pub windows : HasWindows settings.1 d

-- they stand for some past
abbrev pub HasPast : Directions → Type 0
HasPast d = (cfg : Config) × (p : Sided (meaning_of cfg)) × DirectionsStand cfg d p

-- they are sound, stand at this place, and stand for some past
pub record Placed (d : Directions) (at : Place) : Type 0 where
  pub is_at : IsAt d at
  pub past : HasPast d
