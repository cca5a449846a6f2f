-- What a driver sees of a core.
use Rattle.std.specs.Prelude.{◌≡◌, ℕ, ◌<◌, List, [], length, Bool, true, false, Option, None}
use Rattle.session_model.specs.Meaning.{Meaning}
use Rattle.session_core.specs.History.{Event, Past, after}
use Rattle.session_core.specs.Consequences.{IsFront}
use Rattle.session_core.specs.Statuses.{TellsExchange}
use Rattle.session_core.specs.declared.machine.Wants.{Wants}

-- its wants; whether a server is open; the bytes that wait for each peer; the room for bytes of each; how a request was met as
-- cut, and whether the answer in hand has begun; how many exchanges were begun; of the exchange in hand the words of its request
-- line, the status that the client is sent, and whether all text of its answer was put out; whether the core is lost
pub record CoreSeen : Type 0 where
  pub wants : Wants
  pub serving : Bool
  pub to_client : List ℕ
  pub to_server : List ℕ
  pub client_room : ℕ
  pub server_room : ℕ
  pub cut : Option Bool
  pub begun : Bool
  pub exchanges : ℕ
  pub line : List ℕ
  pub status : Option ℕ
  pub whole : Bool
  pub lost : Bool

-- What wants say of windows and rooms, and of whether a server is open.
pub record WantsMean (core : CoreSeen) : Type 0 where
  pub client_read : core.wants.client_read ≡ true → 0 < core.client_room
  pub client_write : core.wants.client_write ≡ true → 0 < length core.to_client
  pub server_read : core.wants.server_read ≡ true → 0 < core.server_room
  pub server_write : core.wants.server_write ≡ true → 0 < length core.to_server
  pub idle : core.serving ≡ false → (core.wants.server_read ≡ false) × (core.wants.server_write ≡ false) × (core.wants.server_close ≡ None)
  pub serving : core.serving ≡ true → (core.wants.server_open ≡ false) × (core.wants.over ≡ None)

-- a call leads from a core that stands for a history to one that stands for it and then this event
abbrev pub Leads : {Settings Core : Type 0} → (stands : Settings → Core → Past → Type 0) → (old new : Core) → Event → Type 0
Leads {Settings} stands old new event = (cfg : Settings) (past : Past) → stands cfg old past → stands cfg new (after past event)

-- What was taken is a front of what a session puts out in which each stream without an ending breaks off here and each further
-- connect is refused.
abbrev pub TookFront : (M : Meaning) → Past → Type 0
TookFront M past = (begun : Bool) × IsFront M past [] [] begun

-- what is seen of the exchange in hand is so, of this past
abbrev pub TellsSo : (M : Meaning) → Past → CoreSeen → Type 0
TellsSo M past core = TellsExchange M past core.to_client core.whole core.exchanges core.line core.status
