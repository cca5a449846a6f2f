-- What a lane of answers that waits says of the exchange in hand.
use Rattle.std.specs.Prelude.{◌≡◌, ℕ, ◌⊎◌, List, [], ◌++◌, Bool, false, Some, None}
use Rattle.http_model.specs.declared.Framing.{Framing}
use Rattle.http_model.specs.Head.{Head}
use Rattle.http_model.specs.Reading.{Received, Begins}
use Rattle.h1_body.specs.BodyOf.{BodyRead, More, IsBodyOf}
use Rattle.body_filter.specs.declared.filter_spec.FilterSpec.{FilterSpec}
use Rattle.body_filter.specs.declared.filter_spec.FedState.TheVariants.{Going}
use Rattle.body_filter.specs.Filter.{filtered}
use Rattle.lane.specs.Direction.Promise.{EndsInSection, body_in}
use Rattle.lane.specs.Direction.Sent.{Sent, Cut, SpellsAs}
use Rattle.lane.specs.Answering.{Exchange, HeadsCame, Reads, interim_text, limits_of, ended_of}
use Rattle.lane.specs.declared.response_lane.ResponseLane.{ResponseLane}

-- the bytes that came behind the server's final head, however its stream goes on
pub record FollowsHead (lane : ResponseLane) (p : Exchange) (got : Received) (bytes : List ℕ) : Type 0 where
  pub pending : p.pending ≡ Some got
  pub left : List ℕ
  pub came : HeadsCame p.asked (limits_of lane) (ended_of lane) p.read p.bytes left
  pub reads : Reads p.asked (limits_of lane) (ended_of lane) left (λ more. Begins got (bytes ++ more))

-- a head that goes out with a body in this framing, and nothing in front of it
abbrev pub served : Head → Framing → (no_body : Bool) → Sent
served head framed no_body = record { head = head; given = []; framing = framed; no_body = no_body; before = [] }

-- All that came of the server's response was put out, but what filters keep back: behind the interim heads the text spells its head as rules
-- left it, and the body so far.
pub record IsAllServed (lane : ResponseLane) (p : Exchange) (filters : List FilterSpec) (head : Head) (framed : Framing) (no_body : Bool) : Type 0 where
  pub got : Received
  pub bytes : List ℕ
  pub follows : FollowsHead lane p got bytes
  pub text : List ℕ
  pub put : p.put ≡ interim_text p.passed ++ text
  pub spells : (read : BodyRead) → IsBodyOf (limits_of lane) got.framing bytes (ended_of lane) read
      → SpellsAs (served head framed no_body) (filtered filters false (body_in read)).output Cut text

-- The server's stream hasn't ended, the filters refused nothing of the body, and its bytes show no cut of it: it is still to be whole, or they
-- end in a trailer section that is not whole and not past its limit.
pub record ServesUncut (lane : ResponseLane) (p : Exchange) (filters : List FilterSpec) : Type 0 where
  pub got : Received
  pub bytes : List ℕ
  pub follows : FollowsHead lane p got bytes
  pub ended : ended_of lane ≡ None
  pub still : (read : BodyRead) → IsBodyOf (limits_of lane) got.framing bytes (ended_of lane) read → (read ≡ More (body_in read)) ⊎ EndsInSection (limits_of lane) got.framing bytes
  pub accepted : (read : BodyRead) → IsBodyOf (limits_of lane) got.framing bytes (ended_of lane) read → (filtered filters false (body_in read)).state ≡ Going
