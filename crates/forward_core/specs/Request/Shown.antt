-- What a direction at rest shows of the client's stream, and of the text for the server.
use Rattle.std.specs.Prelude.{◌≡◌, ℕ, ◌⊎◌, List, false, None}
use Rattle.h1_head.specs.Decides.{MayWait}
use Rattle.h1_head.specs.Kind.{request_heads}
use Rattle.h1_body.specs.BodyOf.{BodyRead, More, IsBodyOf}
use Rattle.body_filter.specs.declared.filter_spec.FedState.TheVariants.{Going}
use Rattle.body_filter.specs.Filter.{filtered}
use Rattle.session_core.specs.History.{Coming}
use Rattle.session_core.specs.Sided.{Asking}
use Rattle.session_core.specs.Lanes.{HeadCame}
use Rattle.px_sample.specs.Variables.{Variables}
use Rattle.http_rules.specs.declared.config.Config.{Config}
use Rattle.forward_core.specs.Meaning.Product.{meaning_of}
use Rattle.lane.specs.Direction.Sent.{Cut, SpellsAs}
use Rattle.lane.specs.Direction.Promise.{EndsInSection, body_in}
use Rattle.forward_core.specs.Request.Stands.{message_to}

-- the bytes so far behind the head come to this body, by how the head frames it
abbrev pub ReadsSoFar : Config → Asking Variables → (left : Coming) → BodyRead → Type 0
ReadsSoFar cfg asking left read = IsBodyOf cfg.limits asking.received.framing left.bytes None read

-- The client's bytes and ending so far show no cut of the request: no ending came behind the head, the body is still to be whole or they
-- end in a trailer section that is not whole and not past its limit, and the filters refuse nothing of it.
pub record ShowsNoCut (cfg : Config) (came : Coming) (asking : Asking Variables) : Type 0 where
  pub used : List ℕ
  pub left : Coming
  pub head : HeadCame (meaning_of cfg) came asking.received used left
  pub ended : left.ending ≡ None
  pub still : (read : BodyRead) → ReadsSoFar cfg asking left read → (read ≡ More (body_in read)) ⊎ EndsInSection cfg.limits asking.received.framing left.bytes
  pub accepted : (read : BodyRead) → ReadsSoFar cfg asking left read → (filtered cfg.req_filters false (body_in read)).state ≡ Going

-- What was put out to the server is the head and all of the body so far, but for what the filters keep back.
pub record PutsAll (cfg : Config) (came : Coming) (asking : Asking Variables) (to_server : List ℕ) : Type 0 where
  pub used : List ℕ
  pub left : Coming
  pub head : HeadCame (meaning_of cfg) came asking.received used left
  pub ended : left.ending ≡ None
  pub spelled : (read : BodyRead) → ReadsSoFar cfg asking left read → SpellsAs (message_to cfg asking) (filtered cfg.req_filters false (body_in read)).output Cut to_server

-- No head of the next request came: the client's stream hasn't ended, and none stands behind its empty lines, where more may be asked for.
pub record NoHeadCame (cfg : Config) (came : Coming) : Type 0 where
  pub ended : came.ending ≡ None
  pub waits : MayWait request_heads cfg.limits false came.bytes
