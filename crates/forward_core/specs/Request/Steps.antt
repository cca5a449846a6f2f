-- What the calls of the request direction come to.
use Rattle.std.specs.Prelude.{◌≡◌, ℕ, List, ◌++◌, not, ◌&&◌, None}
use Rattle.session_model.specs.Stream.{Stream}
use Rattle.session_core.specs.History.{Coming, Continues, prepend, prepended}
use Rattle.session_core.specs.Sided.{Asking, Reply, RequestGoes, request_to}
use Rattle.px_sample.specs.Variables.{Variables}
use Rattle.http_rules.specs.declared.config.Config.{Config}
use Rattle.forward_core.specs.Meaning.Product.{meaning_of}
use Rattle.forward_core.specs.Request.Seen.{source_of, sent_at, window_of}
use Rattle.forward_core.specs.Request.Stands.{RequestStands, left_of}
use Rattle.forward_core.specs.declared.request.side.RequestSide.{RequestSide}

-- however the client's stream goes on, what was put out to the server is a front of the request that it brings, or all of it
abbrev pub RequestsSo : Config → RequestSide → (vars : Variables) → (came : Coming) → Asking Variables → (to_server : List ℕ) → Type 0
RequestsSo cfg side vars came asking to_server =
    (stream : Stream) → Continues came stream
    → RequestGoes (meaning_of cfg) (source_of side) (sent_at side.place side.lane.stage && not side.lane.dropped) side.lane.dropped vars asking to_server stream

-- The request has come whole: the exchange used these bytes, and this is left.
pub record WholeCame (cfg : Config) (side : RequestSide) (vars : Variables) (came : Coming) (asking : Asking Variables) (to_server : List ℕ) (left : Coming) : Type 0 where
  pub used : List ℕ
  pub came_is : came ≡ prepended used left
  pub goes : (rest : Stream) → Continues left rest
      → (g : RequestGoes (meaning_of cfg) (source_of side) (sent_at side.place side.lane.stage && not side.lane.dropped) side.lane.dropped vars asking to_server (prepend used rest))
      × ((request_to (meaning_of cfg) asking g.rest g.goes.body).cut ≡ None) × ((request_to (meaning_of cfg) asking g.rest g.goes.body).rest ≡ rest)

-- a step puts text out to the server
pub record Puts (old new : RequestSide) : Type 0 where
  pub put : List ℕ
  pub window : window_of new ≡ window_of old ++ put
  pub stands : (cfg : Config) (vars : Variables) (came : Coming) (asking : Asking Variables) (to_server : List ℕ) (reply : Reply Variables)
      → RequestStands cfg old vars came asking to_server reply → RequestStands cfg new vars came asking (to_server ++ put) reply

-- the next exchange is read from what is left
abbrev pub ReadsNext : RequestSide → RequestSide → Type 0
ReadsNext old new =
    (cfg : Config) (vars next : Variables) (came : Coming) (asking now : Asking Variables) (to_server text : List ℕ) (reply other : Reply Variables)
    → RequestStands cfg old vars came asking to_server reply → RequestStands cfg new next (left_of old) now text other
