-- A request that has come whole, and what is left behind it.
use Rattle.std.proofs.Common.{◌≡◌, ℕ, List, ◌++◌, refl, ap, sym, ◌∙◌, subst, append_assoc}
use Rattle.std.specs.Prelude.{Bool, Some, None, not, ◌&&◌}
use Rattle.http_model.specs.Reading.{BodyReading, Begins}
use Rattle.session_model.specs.Stream.{Stream}
use Rattle.session_model.specs.Meaning.{Meaning}
use Rattle.session_model.specs.Asking.{Asks, Sends, asked_by}
use Rattle.session_model.specs.Env.{request_env}
use Rattle.session_core.specs.History.{Coming, Continues, prepend, prepended}
use Rattle.session_core.specs.Sided.{Asking, Reply, BodyGoes, RequestGoes, RequestAsks, forwarded_to, request_to}
use Rattle.http_model.specs.declared.Source.{Source}
use Rattle.http_model.specs.declared.Source.TheVariants as source
use Rattle.session_core.specs.HeadAsks.{HeadAsks}
use Rattle.session_core.proofs.PublicLaws.{continues_prepend, head_asks}
use Rattle.px_sample.specs.Buffer.{Buffer}
use Rattle.px_sample.specs.Variables.{Variables}
use Rattle.http_rules.specs.declared.config.Config.{Config}
use Rattle.forward_core.specs.Meaning.Product.{meaning_of}
use Rattle.body_filter.specs.declared.filter_spec.FilterSpec.{FilterSpec}
use Rattle.h1_body.specs.BodyOf.{BodyRead, Reads, IsBodyOf}
use Rattle.lane.specs.Direction.Sends.{Past, Stands}
use Rattle.lane.specs.Direction.Promise.{Promise, HasBody, IsWholeWith}
use Rattle.lane.specs.Direction.State.{LaneState}
use Rattle.forward_core.specs.declared.request.place.Place.{Place}
use Rattle.forward_core.specs.declared.request.place.Place.TheVariants as place
use Rattle.forward_core.specs.Request.Seen.{source_at, is_done}
use Rattle.forward_core.specs.Request.Stands.{IsFor, coming, GoesOut, IsReplied, StandsAt}
use Rattle.forward_core.specs.Request.Steps.{WholeCame}
use Rattle.forward_core.proofs.RequestLemmas.Bodies.{Follows, follows, is_read}
use Rattle.forward_core.proofs.RequestLemmas.Messages.{uncut, reading_in}
use Rattle.forward_core.proofs.RequestLemmas.Goes.{reads_of, body_goes, body_is, asks_for}

-- the head asks for a server, however the stream goes on
asks_always : (cfg : Config) (lane : LaneState) (vars : Variables) (came_ : Coming) (asks : Asking Variables) (to_server : List ℕ) (g : GoesOut cfg lane vars came_ asks to_server) (stream : Stream) → Continues came_ stream
    → RequestAsks (meaning_of cfg) vars asks stream
asks_always cfg lane vars came_ asks to_server g stream c =
    let a : HeadAsks (meaning_of cfg) vars (coming lane g.past.bytes) asks.received stream = head_asks (meaning_of cfg) vars came_ (coming lane g.past.bytes) asks.received g.used g.head stream c in
    record { rest = a.rest; asks = asks_for cfg lane vars came_ asks to_server g stream a.rest a.asks }

pub asks_at : (at : Place) (cfg : Config) (lane : LaneState) (vars : Variables) (came_ : Coming) (asks : Asking Variables) (to_server : List ℕ) (reply : Reply Variables) → at ≡ place.Sending
    → StandsAt at cfg lane vars came_ asks to_server reply → (stream : Stream) → Continues came_ stream → RequestAsks (meaning_of cfg) vars asks stream
asks_at place.Reading cfg lane vars came_ asks to_server reply e h stream c = absurd (cc)
asks_at place.Sending cfg lane vars came_ asks to_server reply e h stream c = asks_always cfg lane vars came_ asks to_server h stream c
asks_at place.Idle cfg lane vars came_ asks to_server reply e h stream c = absurd (cc)
asks_at place.Replied cfg lane vars came_ asks to_server reply e h stream c = absurd (cc)

-- what came whole, with what follows it
abbrev pub GoesWhole : (cfg : Config) → (lane : LaneState) → (so : Source) → Variables → Asking Variables → List ℕ → Stream → (rest : Stream) → Type 0
GoesWhole cfg lane so vars asks to_server stream rest =
    (g : RequestGoes (meaning_of cfg) so (is_done lane.stage && not lane.dropped) lane.dropped vars asks to_server stream)
    × ((request_to (meaning_of cfg) asks g.rest g.goes.body).cut ≡ None) × ((request_to (meaning_of cfg) asks g.rest g.goes.body).rest ≡ rest)

goes_whole : (cfg : Config) (lane : LaneState) (vars : Variables) (came_ : Coming) (asks : Asking Variables) (to_server : List ℕ) (g : GoesOut cfg lane vars came_ asks to_server) → IsFor cfg lane → Promise lane g.past
    → lane.source ≡ source.Whole → HasBody lane g.past → (read : List ℕ) → g.past.bytes ≡ read ++ lane.input.items → (rest : Stream) → Continues (coming lane lane.input.items) rest
    → GoesWhole cfg lane lane.source vars asks to_server (prepend (g.used ++ read) rest) rest
goes_whole cfg lane vars came_ asks to_server g is promise e has read bytes rest c =
    let M : Meaning = meaning_of cfg in
    let with_bytes : List ℕ → Stream = λ bs. record { bytes = bs; ending = rest.ending } in
    let behind : Stream = prepend read rest in
    let on : Continues (coming lane g.past.bytes) behind =
    subst (λ (bs : List ℕ). Continues (coming lane bs) behind) (sym bytes) (continues_prepend read (coming lane lane.input.items) rest c) in
    let left = follows lane.ended lane.input.items rest c in
    let f : Follows lane.ended g.past.bytes behind = record {
      more = left.more;
      is = ap (λ (bs : List ℕ). read ++ bs) left.is ∙ sym (append_assoc read lane.input.items left.more) ∙ ap (λ (bs : List ℕ). bs ++ left.more) (sym bytes);
      goes = left.goes;
    } in
    let h = has f.more (Some rest.ending) f.goes in
    let x : IsBodyOf cfg.limits asks.received.framing behind.bytes (Some rest.ending) h.0 = reads_of cfg lane vars came_ asks to_server g is behind h.0 f h.1 in
    let same : h.0 ≡ Reads (reading_in h.0) = is_read cfg.limits asks.received.framing behind.bytes rest.ending h.0 x in
    let b : BodyReading = reading_in h.0 in
    let y : IsBodyOf cfg.limits asks.received.framing behind.bytes (Some rest.ending) (Reads b) = subst (IsBodyOf cfg.limits asks.received.framing behind.bytes (Some rest.ending)) same x in
    let w : IsWholeWith cfg.req_filters (lane.input.items ++ left.more) (Reads b) =
    subst (λ (r : BodyRead). IsWholeWith cfg.req_filters (lane.input.items ++ left.more) r) same
    (subst (λ (fs : List FilterSpec). IsWholeWith fs (lane.input.items ++ left.more) h.0) g.filters (promise.whole e f.more (Some rest.ending) f.goes h.0 h.1)) in
    let u = uncut cfg asks behind b (lane.input.items ++ left.more) w in
    let a : Asks M vars (prepend g.used behind) (asked_by M asks.received behind (M.request_rules (request_env vars asks.received.head))) = record { head = Begins asks.received behind.bytes; reads = g.head.reads behind on; asks = refl } in
    let s : Asks M vars (prepend (g.used ++ read) rest) (Sends (forwarded_to asks behind)) =
    subst (λ (st : Stream). Asks M vars st (Sends (forwarded_to asks behind))) (sym (ap with_bytes (append_assoc g.used read rest.bytes))) (asks_for cfg lane vars came_ asks to_server g (prepend g.used behind) behind a) in
    let goes : BodyGoes M asks lane.source (is_done lane.stage && not lane.dropped) lane.dropped to_server behind = body_goes cfg lane vars came_ asks to_server g is promise behind f b y in
    let body : b ≡ goes.body = sym (body_is cfg lane vars came_ asks to_server g is promise behind f b y) in (
      record { rest = behind; asks = s; goes = goes },
      subst (λ (x : BodyReading). (request_to M asks behind x).cut ≡ None) body u.cut,
      subst (λ (x : BodyReading). (request_to M asks behind x).rest ≡ rest) body (u.behind ∙ ap with_bytes (sym left.is)),
    )

came_behind : (cfg : Config) (lane : LaneState) (vars : Variables) (came_ : Coming) (asks : Asking Variables) (to_server : List ℕ) (g : GoesOut cfg lane vars came_ asks to_server) (read : List ℕ) → g.past.bytes ≡ read ++ lane.input.items
    → came_ ≡ prepended (g.used ++ read) (coming lane lane.input.items)
came_behind cfg lane vars came_ asks to_server g read bytes =
    let with_bytes : List ℕ → Coming = λ bs. record { bytes = bs; ending = lane.ended } in
    g.head.came_is ∙ ap (λ (bs : List ℕ). with_bytes (g.used ++ bs)) bytes ∙ ap with_bytes (sym (append_assoc g.used read lane.input.items))

pub whole_at : (at : Place) (cfg : Config) (lane : LaneState) (line : Buffer) (awaits rests untouched : Bool) (vars : Variables) (came_ : Coming) (asks : Asking Variables) (to_server : List ℕ) (reply : Reply Variables)
    → source_at at lane.source ≡ source.Whole → StandsAt at cfg lane vars came_ asks to_server reply → IsFor cfg lane → ((p : Past) → Stands lane p → Promise lane p)
    → ((p : Past) → Stands lane p → lane.source ≡ source.Whole → HasBody lane p)
    → WholeCame cfg (record { lane = lane; place = at; line = line; awaits = awaits; at_rest = rests; untouched = untouched }) vars came_ asks to_server (coming lane lane.input.items)
whole_at place.Reading cfg lane line awaits rests untouched vars came_ asks to_server reply e h is promise has = absurd (cc)
whole_at place.Sending cfg lane line awaits rests untouched vars came_ asks to_server reply e h is promise has =
    let read : List ℕ = h.sends.sends.used in
    record {
      used = h.used ++ read;
      came_is = came_behind cfg lane vars came_ asks to_server h read h.sends.sends.bytes;
      goes = goes_whole cfg lane vars came_ asks to_server h is (promise h.past h.sends) e (has h.past h.sends e) read h.sends.sends.bytes;
    }
whole_at place.Idle cfg lane line awaits rests untouched vars came_ asks to_server reply e h is promise has = absurd (cc)
whole_at place.Replied cfg lane line awaits rests untouched vars came_ asks to_server reply e h is promise has = absurd (cc)

pub replied_at : (at : Place) (cfg : Config) (lane : LaneState) (vars : Variables) (came_ : Coming) (asks : Asking Variables) (to_server : List ℕ) (reply : Reply Variables) → at ≡ place.Replied
    → StandsAt at cfg lane vars came_ asks to_server reply → IsReplied cfg vars came_ reply (coming lane lane.input.items)
replied_at place.Reading cfg lane vars came_ asks to_server reply e h = absurd (cc)
replied_at place.Sending cfg lane vars came_ asks to_server reply e h = absurd (cc)
replied_at place.Idle cfg lane vars came_ asks to_server reply e h = absurd (cc)
replied_at place.Replied cfg lane vars came_ asks to_server reply e h = h
