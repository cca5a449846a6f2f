-- What the request direction stands for: its part of the past of the exchange in hand.
use Rattle.std.specs.Prelude.{◌≡◌, ◌≢◌, ◌⊎◌, ℕ, List, [], ◌++◌, Bool, true, false, ⊤}
use Rattle.http_model.specs.Finish.{finish_request, request_framing}
use Rattle.session_model.specs.Stream.{Stream}
use Rattle.session_model.specs.Env.{Env, Pass, request_env}
use Rattle.session_model.specs.Meaning.{declares_too_much}
use Rattle.session_model.specs.Asking.{Asks, request_fits}
use Rattle.session_core.specs.History.{Coming, Continues, prepend, prepended}
use Rattle.session_core.specs.Sided.{Asking, Reply, replied_to}
use Rattle.session_core.specs.Lanes.{HeadCame}
use Rattle.session_core.specs.Lines.{HasLine, ShowsLine}
use Rattle.px_sample.specs.Variables.{Variables}
use Rattle.http_rules.specs.declared.config.Config.{Config}
use Rattle.forward_core.specs.Meaning.Product.{meaning_of, replaces}
use Rattle.lane.specs.Direction.Sent.{Sent, IsFrontOf}
use Rattle.lane.specs.Direction.Sends.{Past, IsSound as IsWell, IsReading, Stands}
use Rattle.lane.specs.Direction.Promise.{OnEachBody, body_sent, finish_of}
use Rattle.lane.specs.declared.direction.stage.Stage.TheVariants as stage
use Rattle.lane.specs.Direction.Filtering.{AreThese}
use Rattle.h1_head.specs.declared.answer.Side.TheVariants.{Request}
use Rattle.lane.specs.Answering.{SameLines}
use Rattle.lane.specs.Direction.State.{LaneState}
use Rattle.forward_core.specs.declared.request.place.Place.{Place}
use Rattle.forward_core.specs.declared.request.place.Place.TheVariants as place
use Rattle.forward_core.specs.declared.request.side.RequestSide.{RequestSide}
use Rattle.forward_core.specs.Request.Rests.{RestsAt}

-- ---- at any moment

-- a request goes out, or has gone out; nothing waits for a server that stopped
pub record GoesSoundly (lane : LaneState) : Type 0 where
  pub past : Past
  pub sends : Stands lane past
  pub stage : (lane.stage ≡ stage.Sending) ⊎ (lane.stage ≡ stage.Done)
  pub drops : lane.dropped ≡ true → lane.output.items ≡ []

-- where the lane stands, by what is made of the next request
abbrev pub SoundAt : Place → LaneState → Type 0
SoundAt place.Reading lane = IsReading Request lane × (lane.output.items ≡ [])
SoundAt place.Sending lane = GoesSoundly lane
SoundAt place.Idle lane = lane.output.items ≡ []
SoundAt place.Replied lane = lane.output.items ≡ []

-- its lane has the sizes that it was made with, and stands where the place says; at rest it has left nothing undone; a request line has room
pub record IsSound (side : RequestSide) : Type 0 where
  pub well : IsWell side.lane
  pub at : SoundAt side.place side.lane
  pub rests : side.at_rest ≡ true → RestsAt side.place side.lane
  pub line : side.line.cap ≡ side.lane.limits.bufsize

-- ---- for a past

-- the lane is for this configuration
pub record IsFor (cfg : Config) (lane : LaneState) : Type 0 where
  pub limits : lane.limits ≡ cfg.limits
  pub filters : AreThese lane.sieve cfg.req_filters

-- these bytes, and the ending that the lane has
abbrev pub coming : LaneState → List ℕ → Coming
coming lane bytes = record { bytes = bytes; ending = lane.ended }

-- what is left of the client's stream
abbrev pub left_of : RequestSide → Coming
left_of side = coming side.lane side.lane.input.items

-- what came stands in the window, but for empty lines in front
pub record ReadsOn (lane : LaneState) (came : Coming) : Type 0 where
  pub ending : came.ending ≡ lane.ended
  pub lines : SameLines came.bytes lane.input.items

-- the message that goes to the server, as its head tells
abbrev pub message_to : Config → Asking Variables → Sent
message_to cfg asking =
    record {
      head = finish_request asking.head (request_framing (replaces cfg.req_filters) asking.received.framing);
      given = [];
      framing = request_framing (replaces cfg.req_filters) asking.received.framing;
      no_body = false;
      before = [];
    }

-- behind what the server took some text more is a front of whatever the request comes to
pub record Lacks (lane : LaneState) (past : Past) : Type 0 where
  pub text : List ℕ
  pub some : text ≢ []
  pub front : OnEachBody lane past (λ read. IsFrontOf past.sent (body_sent past read) (finish_of past.filters read) (past.took ++ text))

-- what was put out: taken or in the window; once text is dropped, what the server took, which is not all
abbrev pub HasPut : (dropped : Bool) → LaneState → Past → (to_server : List ℕ) → Type 0
HasPut false lane past to_server = to_server ≡ past.took ++ lane.output.items
HasPut true lane past to_server = (to_server ≡ past.took) × Lacks lane past

-- a head came, the rules let it pass, its length is within the limits and its finished list fits, and the lane sends it
pub record GoesOut (cfg : Config) (lane : LaneState) (vars : Variables) (came : Coming) (asking : Asking Variables) (to_server : List ℕ) : Type 0 where
  pub past : Past
  pub sends : Stands lane past
  pub used : List ℕ
  pub env : Env Variables
  pub head : HeadCame (meaning_of cfg) came asking.received used (coming lane past.bytes)
  pub rules : (meaning_of cfg).request_rules (request_env vars asking.received.head) ≡ Pass env
  pub asks : asking ≡ record { received = asking.received; head = env.head; vars = env.vars }
  pub short : declares_too_much (meaning_of cfg).request_filters asking.received.declared ≡ false
  pub fits : request_fits (meaning_of cfg) asking.received env.head ≡ true
  pub message : past.sent ≡ message_to cfg asking
  pub filters : past.filters ≡ cfg.req_filters
  pub reads : past.reads ≡ asking.received.framing
  pub put : HasPut lane.dropped lane past to_server

-- a head came, and the rules reply to it
pub record IsReplied (cfg : Config) (vars : Variables) (came : Coming) (reply : Reply Variables) (left : Coming) : Type 0 where
  pub used : List ℕ
  pub came_is : came ≡ prepended used left
  pub asks : (rest : Stream) → Continues left rest → Asks (meaning_of cfg) vars (prepend used rest) (replied_to reply rest)

abbrev pub StandsAt : Place → Config → LaneState → (vars : Variables) → (came : Coming) → Asking Variables → (to_server : List ℕ) → Reply Variables → Type 0
StandsAt place.Reading cfg lane vars came asking to_server reply = ReadsOn lane came
StandsAt place.Sending cfg lane vars came asking to_server reply = GoesOut cfg lane vars came asking to_server
StandsAt place.Idle cfg lane vars came asking to_server reply = ⊤
StandsAt place.Replied cfg lane vars came asking to_server reply = IsReplied cfg vars came reply (coming lane lane.input.items)

-- The line that is told, by what is made of the next request: nothing in front of its head; behind that the words of the head that came, and nothing
-- only where none comes.
abbrev pub TellsLine : Place → Config → (came : Coming) → (line : List ℕ) → Type 0
TellsLine place.Reading cfg came line = line ≡ []
TellsLine place.Sending cfg came line = HasLine (meaning_of cfg) came line
TellsLine place.Idle cfg came line = ShowsLine (meaning_of cfg) came line
TellsLine place.Replied cfg came line = HasLine (meaning_of cfg) came line

-- in front of a head: where no byte has come since the exchange before, none has
abbrev pub IsUntouchedAt : Place → (untouched : Bool) → Coming → Type 0
IsUntouchedAt at untouched came = at ≡ place.Reading → untouched ≡ true → came.bytes ≡ []

-- The request direction of this configuration stands for this past: the variables in front of the exchange, the client's stream
-- from there on, the request that goes to a server and its text so far, and the reply of its rules.
pub record RequestStands (cfg : Config) (side : RequestSide) (vars : Variables) (came : Coming) (asking : Asking Variables) (to_server : List ℕ) (reply : Reply Variables) : Type 0 where
  pub is_for : IsFor cfg side.lane
  pub at : StandsAt side.place cfg side.lane vars came asking to_server reply
  -- what came has ended as the lane's stream has
  pub ending : came.ending ≡ side.lane.ended
  pub line : TellsLine side.place cfg came side.line.bytes
  pub untouched : IsUntouchedAt side.place side.untouched came

-- ---- from one side to another

-- each past is led to another by a call
abbrev pub Leads : RequestSide → RequestSide → (Coming → Coming) → (List ℕ → List ℕ) → Type 0
Leads old new comes puts =
    (cfg : Config) (vars : Variables) (came : Coming) (asking : Asking Variables) (to_server : List ℕ) (reply : Reply Variables)
    → RequestStands cfg old vars came asking to_server reply → RequestStands cfg new vars (comes came) asking (puts to_server) reply
