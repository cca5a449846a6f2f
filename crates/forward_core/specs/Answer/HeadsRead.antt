-- Whether a response head of the server was read, and what that says of its stream.
use Rattle.std.specs.Prelude.{◌≡◌, ◌⊎◌, ℕ, List, [], Bool, true, false, ⊤}
use Rattle.http_model.specs.Reading.{Received, Begins, Refused, Nothing}
use Rattle.http_rules.specs.declared.config.Config.{Config}
use Rattle.forward_core.specs.Meaning.Product.{meaning_of}
use Rattle.session_model.specs.Stream.{Stream}
use Rattle.session_model.specs.Asking.{Asker}
use Rattle.session_core.specs.History.{Coming, Continues}
use Rattle.lane.specs.Answering.{Exchange, Answers, ended_of}
use Rattle.lane.specs.declared.response_lane.ResponseLane.{ResponseLane}
use Rattle.forward_core.specs.declared.answer.place.Place.{Place}
use Rattle.forward_core.specs.declared.answer.place.Place.TheVariants as place

-- these bytes of a server begin with a response head, interim or final
abbrev pub BeginsWithHead : Config → Asker → List ℕ → Type 0
BeginsWithHead cfg asker bytes = (received : Received) × (rest : List ℕ) × (meaning_of cfg).reads_response asker.head_asked bytes (Begins received rest)

-- they are refused where a head is to stand, or there are none
abbrev pub BeginsWithNone : Config → Asker → List ℕ → Type 0
BeginsWithNone cfg asker bytes = (meaning_of cfg).reads_response asker.head_asked bytes (Refused 502) ⊎ (meaning_of cfg).reads_response asker.head_asked bytes Nothing

-- the server's stream begins with a response head, however it goes on
abbrev pub HeadBegins : Config → Asker → Coming → Type 0
HeadBegins cfg asker server = (stream : Stream) → Continues server stream → BeginsWithHead cfg asker stream.bytes

-- or with none
abbrev pub NoneBegins : Config → Asker → Coming → Type 0
NoneBegins cfg asker server = (stream : Stream) → Continues server stream → BeginsWithNone cfg asker stream.bytes

-- ---- by the lane

-- a head of the server's stream was read
pub record HasRead (cfg : Config) (asker : Asker) (lane : ResponseLane) (server : Coming) : Type 0 where
  pub ending : ended_of lane ≡ server.ending
  pub begins : HeadBegins cfg asker server

-- none was read, and none is to be had
pub record ReadsNone (cfg : Config) (asker : Asker) (lane : ResponseLane) (server : Coming) : Type 0 where
  pub ending : ended_of lane ≡ server.ending
  pub none : NoneBegins cfg asker server

-- none was read yet: the lane stands for an exchange of this stream in which none was
pub record IsUnread (asker : Asker) (lane : ResponseLane) (server : Coming) : Type 0 where
  pub e : Exchange
  pub answers : Answers lane e
  pub asked : e.asked ≡ asker.head_asked
  pub bytes : e.bytes ≡ server.bytes
  pub ending : ended_of lane ≡ server.ending
  pub read : e.read ≡ []
  pub passed : e.passed ≡ []

-- Whether a head was read, where the last that answers goes out.
abbrev pub ReadBefore : (heard : Bool) → Config → Asker → ResponseLane → Coming → Type 0
ReadBefore true cfg asker lane server = HasRead cfg asker lane server
ReadBefore false cfg asker lane server = ReadsNone cfg asker lane server

-- Whether a head was read, by the place. What is said in place of an answer leaves the rest of the server's stream unread.
abbrev pub HeardAt : (heard : Bool) → Place → Config → Asker → ResponseLane → Coming → Type 0
HeardAt true at cfg asker lane server = HasRead cfg asker lane server
HeardAt false place.Idle cfg asker lane server = ⊤
HeardAt false place.Heads cfg asker lane server = IsUnread asker lane server
HeardAt false place.Response cfg asker lane server = ReadsNone cfg asker lane server
HeardAt false place.Closing cfg asker lane server = ReadsNone cfg asker lane server
HeardAt false place.Keeping cfg asker lane server = ReadsNone cfg asker lane server
HeardAt false place.Saying cfg asker lane server = ⊤
