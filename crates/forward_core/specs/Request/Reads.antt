-- What reading the head of the client's next request comes to.
use Rattle.std.specs.Prelude.{◌≡◌, ℕ, ◌<◌, List, [], true, false, ◌&&◌, ⊤}
use Rattle.http_model.specs.declared.Framing.{Framing}
use Rattle.http_model.specs.Finish.{finish_request, request_framing}
use Rattle.http_model.specs.Head.{Message, head_blocks}
use Rattle.http_model.specs.Reading.{Received}
use Rattle.h1_head.specs.Lines.{IsRequestLine}
use Rattle.session_model.specs.Stream.{Stream}
use Rattle.session_model.specs.Env.{Env, Pass, request_env, method_in}
use Rattle.session_model.specs.Env as verdict
use Rattle.session_model.specs.Meaning.{keeps, is_head_request, is_bodiless, declares_too_much}
use Rattle.session_model.specs.Asking.{Asked, Nothing, Refused, Asks, request_fits}
use Rattle.session_core.specs.History.{Coming, Continues}
use Rattle.session_core.specs.Sided.{Asking, Reply}
use Rattle.session_core.specs.Lanes.{HeadCame}
use Rattle.session_core.specs.Lines.{HasLine}
use Rattle.px_sample.specs.Variables.{Variables}
use Rattle.http_rules.specs.declared.config.Config.{Config}
use Rattle.forward_core.specs.Meaning.Product.{meaning_of, replaces}
use Rattle.lane.specs.declared.direction.stage.LaneHead.{LaneHead}
use Rattle.lane.specs.declared.direction.stage.LaneHead.TheVariants as says
use Rattle.lane.specs.declared.direction.stage.Stage.TheVariants as stage
use Rattle.lane.specs.Direction.Sends.{IsReady}
use Rattle.forward_core.specs.declared.request.place.Place.TheVariants as place
use Rattle.forward_core.specs.declared.request.side.RequestSide.{RequestSide}
use Rattle.forward_core.specs.Request.Seen.{seen, place_of, is_open, room_of, input_size_of}
use Rattle.forward_core.specs.Request.Stands.{IsFor, RequestStands, Leads, left_of}

-- a head stands in the array, for rules to run on; nothing of it goes out yet
pub record HasHead (side : RequestSide) : Type 0 where
  pub ready : IsReady side.lane
  pub stage : side.lane.stage ≡ stage.Head

-- the array and what is kept beside it are this head
pub record Holds (side : RequestSide) (received : Received) : Type 0 where
  pub blocks : side.lane.msg.blocks ≡ head_blocks received.head
  pub framing : side.lane.framing ≡ received.framing
  pub declared : side.lane.declared ≡ received.declared
  pub close : side.lane.close ≡ received.close

-- the client's stream begins with this head, and then comes what is left; the line of a head that came is kept
pub record HeadRead (cfg : Config) (side : RequestSide) (came : Coming) (received : Received) : Type 0 where
  pub is_for : IsFor cfg side.lane
  pub used : List ℕ
  pub head : HeadCame (meaning_of cfg) came received used (left_of side)
  pub line : HasLine (meaning_of cfg) came side.line.bytes

-- however the client's stream goes on, it asks for this
abbrev pub AsksAlways : RequestSide → (Variables → Asked Variables) → Type 0
AsksAlways side asked =
    (cfg : Config) (vars : Variables) (came : Coming) (asking : Asking Variables) (to_server : List ℕ) (reply : Reply Variables)
    → RequestStands cfg side vars came asking to_server reply → (stream : Stream) → Continues came stream → Asks (meaning_of cfg) vars stream (asked vars)

-- no head came, and it is at rest: the stream goes on, and there is room for more of it
pub record HeadWaits (old new : RequestSide) : Type 0 where
  pub place : place_of new ≡ place.Reading
  pub is_open : is_open new ≡ true
  pub room : 0 < room_of new
  pub rests : (seen new).at_rest ≡ true
  pub leads : Leads old new (λ came. came) (λ put. put)

-- no head comes: this is what the client asks for, with no rule
pub record NoHead (old new : RequestSide) (asked : Variables → Asked Variables) : Type 0 where
  pub place : place_of new ≡ place.Idle
  pub leads : Leads old new (λ came. came) (λ put. put)
  pub asks : AsksAlways old asked

-- a head came, with what is left behind it
pub record HeadComes (old new : RequestSide) : Type 0 where
  pub place : place_of new ≡ place.Idle
  pub received : Received
  pub has : HasHead new
  pub holds : Holds new received
  pub is_request : IsRequestLine received.head.line
  pub came : (cfg : Config) (vars : Variables) (came : Coming) (asking : Asking Variables) (to_server : List ℕ) (reply : Reply Variables)
      → RequestStands cfg old vars came asking to_server reply → HeadRead cfg new came received

-- More: the stream goes on, there is room, and no head came. Nothing: the client asks for nothing more. Head: it came. Refuse: it
-- is refused, with its body, before any rule.
abbrev pub HeadTells : RequestSide → RequestSide → LaneHead → Type 0
HeadTells old new says.More = HeadWaits old new
HeadTells old new says.Nothing = NoHead old new (λ vars. Nothing)
HeadTells old new says.Head = HeadComes old new
HeadTells old new (says.Refuse code) = NoHead old new (λ vars. Refused code false [] vars)

-- what is refused is at least one byte, and a head takes some
abbrev pub UsesBytes : RequestSide → RequestSide → LaneHead → Type 0
UsesBytes old new says.More = ⊤
UsesBytes old new says.Nothing = ⊤
UsesBytes old new says.Head = input_size_of new < input_size_of old
UsesBytes old new (says.Refuse code) = 0 < input_size_of old

-- ---- what is made of a head

-- Rules let the head pass, its length is within the limits, and what stands in the array is the finished head, which fits: the
-- lane sends it.
abbrev pub SendsOn : RequestSide → RequestSide → Framing → Type 0
SendsOn old new framed =
    (cfg : Config) (vars : Variables) (came : Coming) (received : Received) (env : Env Variables) (reply : Reply Variables)
    → HeadRead cfg old came received → old.lane.framing ≡ received.framing → (meaning_of cfg).request_rules (request_env vars received.head) ≡ Pass env
    → declares_too_much (meaning_of cfg).request_filters received.declared ≡ false → request_fits (meaning_of cfg) received env.head ≡ true
    → framed ≡ request_framing (replaces cfg.req_filters) received.framing → old.lane.msg.blocks ≡ head_blocks (finish_request env.head framed)
    → RequestStands cfg new vars came (record { received = received; head = env.head; vars = env.vars }) [] reply

-- the reply of rules to this head
abbrev pub reply_to : Received → Message → Env Variables → Reply Variables
reply_to received m left =
    record {
      message = m;
      no_body = is_head_request received.head;
      keep = keeps received && is_bodiless received.framing;
      method = method_in left;
      vars = left.vars;
    }

-- rules reply to the head
abbrev pub RepliesTo : RequestSide → RequestSide → Type 0
RepliesTo old new =
    (cfg : Config) (vars : Variables) (came : Coming) (received : Received) (m : Message) (left : Env Variables) (asking : Asking Variables) (to_server : List ℕ)
    → HeadRead cfg old came received → (meaning_of cfg).request_rules (request_env vars received.head) ≡ verdict.Reply m left
    → RequestStands cfg new vars came asking to_server (reply_to received m left)
