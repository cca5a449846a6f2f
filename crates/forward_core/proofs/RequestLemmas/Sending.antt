-- From a head that was read to a request that goes out, or to a reply of the rules.
use Rattle.std.proofs.Common.{◌≡◌, ℕ, inl, List, [], ◌++◌, Bool, true, false, refl, ap, sym, ◌∙◌, subst}
use Rattle.std.specs.Prelude.{Option}
use Rattle.http_model.specs.declared.Ending.{Ending}
use Rattle.http_model.specs.declared.Framing.{Framing}
use Rattle.http_model.specs.Finish.{finish_request, request_framing}
use Rattle.http_model.specs.Head.{Head, Message, head_blocks}
use Rattle.http_model.specs.Reading.{Received, Begins}
use Rattle.session_model.specs.Stream.{Stream}
use Rattle.session_model.specs.Meaning.{Meaning, declares_too_much}
use Rattle.session_model.specs.Asking.{Asks, asked_by, request_fits}
use Rattle.session_model.specs.Env.{Env, Verdict, Pass, Reply, request_env}
use Rattle.session_core.specs.History.{Coming, prepend}
use Rattle.session_core.specs.Sided.{Asking}
use Rattle.session_core.specs.Lanes.{HeadCame}
use Rattle.px_sample.specs.Variables.{Variables}
use Rattle.http_rules.specs.declared.config.Config.{Config}
use Rattle.forward_core.specs.Meaning.Product.{meaning_of, replaces}
use Rattle.body_filter.specs.declared.filter_spec.FilterSpec.{FilterSpec}
use Rattle.lane.specs.Direction.Sent.{Sent}
use Rattle.lane.specs.Direction.Sends.{Past, IsSound as IsWell, Stands, begun}
use Rattle.lane.specs.declared.direction.stage.Stage.TheVariants as stage
use Rattle.lane.specs.Direction.Filtering.{AreThese}
use Rattle.lane.specs.Direction.State.{LaneState}
use Rattle.forward_core.specs.Request.Stands.{IsFor, GoesSoundly, GoesOut, HasPut, IsReplied, coming}
use Rattle.forward_core.specs.Request.Reads.{reply_to}
use Rattle.forward_core.proofs.RequestLemmas.Events.{Keeps}

-- what the lane says where it begun to send
pub record IsBegun (old new : LaneState) (framed : Framing) : Type 0 where
  pub keeps : Keeps old new
  pub input : new.input.items ≡ old.input.items
  pub output : new.output.items ≡ old.output.items
  pub kept : new.dropped ≡ false
  pub sends : (filters : List FilterSpec) (head : Head) → AreThese old.sieve filters → old.msg.blocks ≡ head_blocks head → Stands new (begun old filters head framed false)

pub sends_sound : (old new : LaneState) (framed : Framing) (head : Head) → IsBegun old new framed → IsWell old → old.output.items ≡ [] → new.stage ≡ stage.Sending → old.msg.blocks ≡ head_blocks head → GoesSoundly new
sends_sound old new framed head b well none at blocks =
    let filters = well.sized.filters in
    record { past = begun old filters.0 head framed false; sends = b.sends filters.0 head filters.1 blocks; stage = inl at; drops = λ d. b.output ∙ none }

put_none : (d : Bool) (new : LaneState) (p : Past) → d ≡ false → p.took ≡ [] → new.output.items ≡ [] → HasPut d new p []
put_none true new p e took none = absurd (cc)
put_none false new p e took none = sym (ap (λ (t : List ℕ). t ++ new.output.items) took ∙ none)

pub sends_on : (cfg : Config) (old new : LaneState) (framed : Framing) (vars : Variables) (came : Coming) (received : Received) (env : Env Variables) (used : List ℕ) → IsBegun old new framed → IsFor cfg old → old.output.items ≡ []
    → HeadCame (meaning_of cfg) came received used (coming old old.input.items) → old.framing ≡ received.framing → (meaning_of cfg).request_rules (request_env vars received.head) ≡ Pass env
    → declares_too_much (meaning_of cfg).request_filters received.declared ≡ false → request_fits (meaning_of cfg) received env.head ≡ true
    → framed ≡ request_framing (replaces cfg.req_filters) received.framing → old.msg.blocks ≡ head_blocks (finish_request env.head framed)
    → GoesOut cfg new vars came (record { received = received; head = env.head; vars = env.vars }) []
sends_on cfg old new framed vars came received env used b is none head framing rules short fits framed_is blocks =
    let asks : Asking Variables = record { received = received; head = env.head; vars = env.vars } in
    let past : Past = begun old cfg.req_filters (finish_request env.head framed) framed false in
    let message : Framing → List ℕ → Sent = λ f before. record { head = finish_request env.head f; given = []; framing = f; no_body = false; before = before } in
    let same : coming old old.input.items ≡ coming new old.input.items = ap (λ (o : Option Ending). let c : Coming = record { bytes = old.input.items; ending = o } in c) (sym b.keeps.ended) in
    record {
      past = past;
      sends = b.sends cfg.req_filters (finish_request env.head framed) is.filters blocks;
      used = used;
      env = env;
      head = subst (λ (left : Coming). HeadCame (meaning_of cfg) came received used left) same head;
      rules = rules;
      asks = refl;
      short = short;
      fits = fits;
      message = ap (λ (f : Framing). message f old.output.items) framed_is ∙ ap (message (request_framing (replaces cfg.req_filters) received.framing)) none;
      filters = refl;
      reads = framing;
      put = put_none new.dropped new past b.kept refl (b.output ∙ none);
    }

pub replies_to : (cfg : Config) (vars : Variables) (came left : Coming) (received : Received) (m : Message) (env : Env Variables) (used : List ℕ) → HeadCame (meaning_of cfg) came received used left
    → (meaning_of cfg).request_rules (request_env vars received.head) ≡ Reply m env → IsReplied cfg vars came (reply_to received m env) left
replies_to cfg vars came left received m env used head rules = record {
  used = used;
  came_is = head.came_is;
  asks = λ rest c. (
      let M : Meaning = meaning_of cfg in
      let stream : Stream = prepend used rest in
      let asks : Asks M vars stream (asked_by M received rest (M.request_rules (request_env vars received.head))) = record { head = Begins received rest.bytes; reads = head.reads rest c; asks = refl } in
      subst (λ (v : Verdict Variables). Asks M vars stream (asked_by M received rest v)) rules asks);
}
