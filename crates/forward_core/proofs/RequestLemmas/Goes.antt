-- What was put out to the server, against the request that the client's stream brings.
use Rattle.std.proofs.Common.{◌≡◌, ◌≢◌, ℕ, ◌+◌, List, [], ◌∷◌, ◌++◌, Bool, true, false, refl, ap, sym, ◌∙◌, subst, append_assoc, length, arith}
use Rattle.std.specs.Prelude.{Option, Some, not, ◌&&◌}
use Rattle.std.proofs.lemmas.List.{append-nil, length-append}
use Rattle.http_model.specs.declared.Ending.{Ending}
use Rattle.http_model.specs.declared.Framing.{Framing}
use Rattle.http_model.specs.declared.Limits.{Limits}
use Rattle.http_model.specs.Reading.{BodyReading}
use Rattle.session_model.specs.Stream.{Stream}
use Rattle.session_model.specs.Meaning.{Meaning}
use Rattle.session_model.specs.Asking.{Asks, Sends, asked_by}
use Rattle.session_model.specs.Env.{request_env}
use Rattle.session_core.specs.History.{Coming, Continues, IsPrefix}
use Rattle.session_core.specs.Sided.{Asking, Reply, BodyGoes, RequestGoes, SourceIs, forwarded_to, request_to}
use Rattle.http_model.specs.declared.Source.TheVariants as source
use Rattle.session_core.specs.HeadAsks.{HeadAsks}
use Rattle.session_core.proofs.PublicLaws.{head_asks, sends_head}
use Rattle.px_sample.specs.Variables.{Variables}
use Rattle.http_rules.specs.declared.config.Config.{Config}
use Rattle.forward_core.specs.Meaning.Product.{meaning_of}
use Rattle.body_filter.specs.declared.filter_spec.FilterSpec.{FilterSpec}
use Rattle.h1_body.specs.BodyOf.{BodyRead, Reads, IsBodyOf, BodyOf}
use Rattle.lane.specs.Direction.Sent.{Sent, IsFrontOf, SpellsAs}
use Rattle.lane.specs.Direction.Sends.{Past, put_out, Stands}
use Rattle.lane.specs.Direction.Promise.{Promise, BodyTaken, body_sent, finish_of, filter_of, IsCutWith, IsWholeWith}
use Rattle.lane.specs.declared.direction.stage.Stage.{Stage}
use Rattle.lane.specs.declared.direction.stage.Stage.TheVariants as stage
use Rattle.http_model.specs.declared.Source.{Source}
use Rattle.lane.specs.Direction.State.{LaneState}
use Rattle.forward_core.specs.Request.Seen.{source_at, is_done, sent_at}
use Rattle.forward_core.specs.Request.Stands.{IsFor, coming, HasPut, GoesOut, StandsAt, message_to}
use Rattle.forward_core.specs.declared.request.place.Place.{Place}
use Rattle.forward_core.specs.declared.request.place.Place.TheVariants as place
use Rattle.forward_core.proofs.RequestLemmas.Bodies.{Follows, follows, is_read}
use Rattle.forward_core.proofs.RequestLemmas.Messages.{LaneSpells, SessionSpells, spelled, cut_code, uncut, reading_in}

-- ---- text

-- of a request's text so much was put out
record Texts (cfg : Config) (asks : Asking Variables) (rest : Stream) (b : BodyReading) (all dropped : Bool) (put : List ℕ) : Type 0 where
  text : List ℕ
  spells : SessionSpells cfg asks rest b text
  front : IsPrefix put text
  sent : all ≡ true → put ≡ text
  lacks : dropped ≡ true → put ≢ text

-- what the lane says of the text of its message, in the words of the configuration
fronts : (cfg : Config) (asks : Asking Variables) (p : Past) (b : BodyReading) (put : List ℕ) → p.sent ≡ message_to cfg asks → p.filters ≡ cfg.req_filters
    → IsFrontOf p.sent (body_sent p (Reads b)) (finish_of p.filters (Reads b)) put → (more : List ℕ) × LaneSpells cfg asks b (put ++ more)
fronts cfg asks p b put message filters h =
    let k : IsFrontOf p.sent (p.sent.given ++ (filter_of cfg.req_filters (Reads b)).output) (finish_of cfg.req_filters (Reads b)) put =
    subst (λ (fs : List FilterSpec). IsFrontOf p.sent (p.sent.given ++ (filter_of fs (Reads b)).output) (finish_of fs (Reads b)) put) filters h in
    let l : IsFrontOf (message_to cfg asks) (filter_of cfg.req_filters (Reads b)).output (finish_of cfg.req_filters (Reads b)) put =
    subst (λ (s : Sent). IsFrontOf s (s.given ++ (filter_of cfg.req_filters (Reads b)).output) (finish_of cfg.req_filters (Reads b)) put) message k in
    (l.1, subst (λ (text : List ℕ). LaneSpells cfg asks b (text ++ l.1)) (sym l.2) l.3)

spells_all : (cfg : Config) (asks : Asking Variables) (p : Past) (b : BodyReading) (put : List ℕ) → p.sent ≡ message_to cfg asks → p.filters ≡ cfg.req_filters
    → SpellsAs p.sent (body_sent p (Reads b)) (finish_of p.filters (Reads b)) put → LaneSpells cfg asks b put
spells_all cfg asks p b put message filters h =
    let k : SpellsAs p.sent (p.sent.given ++ (filter_of cfg.req_filters (Reads b)).output) (finish_of cfg.req_filters (Reads b)) put =
    subst (λ (fs : List FilterSpec). SpellsAs p.sent (p.sent.given ++ (filter_of fs (Reads b)).output) (finish_of fs (Reads b)) put) filters h in
    let l : SpellsAs (message_to cfg asks) (filter_of cfg.req_filters (Reads b)).output (finish_of cfg.req_filters (Reads b)) put =
    subst (λ (s : Sent). SpellsAs s (s.given ++ (filter_of cfg.req_filters (Reads b)).output) (finish_of cfg.req_filters (Reads b)) put) message k in
    subst (λ (text : List ℕ). LaneSpells cfg asks b text) (sym l.1) l.2

done_is : (st : Stage) → is_done st ≡ true → st ≡ stage.Done
done_is stage.Reading e = absurd (cc)
done_is stage.Head e = absurd (cc)
done_is stage.Sending e = absurd (cc)
done_is stage.Done e = refl

-- text that is a front of a longer one isn't all of it
lacks_more : (put text more : List ℕ) → text ≢ [] → put ≢ (put ++ text) ++ more
lacks_more put [] more some e = some refl
lacks_more put (x ∷ xs) more some e =
    let long : length put ≡ length put + length (x ∷ xs) + length more = ap length e ∙ length-append (put ++ x ∷ xs) more ∙ ap (λ (n : ℕ). n + length more) (length-append put (x ∷ xs)) in
    let one : length (x ∷ xs) ≡ 1 + length xs = omega arith in
    omega (arith, long, one)

-- what the lane was given of the stream, and what follows
record Reading (cfg : Config) (lane : LaneState) (p : Past) (b : BodyReading) (rest : Stream) : Type 0 where
  follows : Follows lane.ended p.bytes rest
  taken : BodyTaken lane p follows.more (Some rest.ending) (Reads b)

texts : (cfg : Config) (lane : LaneState) (vars : Variables) (came : Coming) (asks : Asking Variables) (to_server : List ℕ) (g : GoesOut cfg lane vars came asks to_server) (rest : Stream) (b : BodyReading)
    → Reading cfg lane g.past b rest → Promise lane g.past → (d done : Bool) → lane.dropped ≡ d → is_done lane.stage ≡ done → HasPut d lane g.past to_server
    → Texts cfg asks rest b (done && not d) d to_server
texts cfg lane vars came asks to_server g rest b r promise false true dropped done put =
    let all : LaneSpells cfg asks b to_server = subst (λ (text : List ℕ). LaneSpells cfg asks b text) (sym put)
    (spells_all cfg asks g.past b (put_out lane g.past) g.message g.filters (promise.spelled (done_is lane.stage done) dropped r.follows.more (Some rest.ending) r.follows.goes (Reads b) r.taken)) in
    record { text = to_server; spells = spelled cfg asks rest b to_server all; front = ([], append-nil to_server); sent = λ e. refl; lacks = λ e. absurd (cc) }
texts cfg lane vars came asks to_server g rest b r promise false false dropped done put =
    let h = fronts cfg asks g.past b (put_out lane g.past) g.message g.filters (promise.front dropped r.follows.more (Some rest.ending) r.follows.goes (Reads b) r.taken) in
    let some : LaneSpells cfg asks b (to_server ++ h.0) = subst (λ (text : List ℕ). LaneSpells cfg asks b (text ++ h.0)) (sym put) h.1 in
    record { text = to_server ++ h.0; spells = spelled cfg asks rest b (to_server ++ h.0) some; front = (h.0, refl); sent = λ e. absurd (cc); lacks = λ e. absurd (cc) }
texts cfg lane vars came asks to_server g rest b r promise true done dropped is put =
    let l = put.1 in
    let h = fronts cfg asks g.past b (g.past.took ++ l.text) g.message g.filters (l.front r.follows.more (Some rest.ending) r.follows.goes (Reads b) r.taken) in
    let whole : List ℕ = (to_server ++ l.text) ++ h.0 in
    let some : LaneSpells cfg asks b whole = subst (λ (text : List ℕ). LaneSpells cfg asks b ((text ++ l.text) ++ h.0)) (sym put.0) h.1 in
    record { text = whole; spells = spelled cfg asks rest b whole some; front = (l.text ++ h.0, sym (append_assoc to_server l.text h.0)); sent = λ e. absurd (never done e); lacks = λ e. lacks_more to_server l.text h.0 l.some }
  where
    never : (done : Bool) → (done && not true) ≡ true → ⊥
    never true e = cc
    never false e = cc

-- ---- the source

source_is : (cfg : Config) (lane : LaneState) (vars : Variables) (came_ : Coming) (asks : Asking Variables) (to_server : List ℕ) (g : GoesOut cfg lane vars came_ asks to_server) (rest : Stream) (b : BodyReading)
    → Reading cfg lane g.past b rest → Promise lane g.past → (so : Source) → lane.source ≡ so → SourceIs so (request_to (meaning_of cfg) asks rest b).cut
source_is cfg lane vars came_ asks to_server g rest b r promise source.Going e = tt
source_is cfg lane vars came_ asks to_server g rest b r promise source.Whole e =
    let w : IsWholeWith cfg.req_filters (lane.input.items ++ r.follows.more) (Reads b) =
    subst (λ (fs : List FilterSpec). IsWholeWith fs (lane.input.items ++ r.follows.more) (Reads b)) g.filters (promise.whole e r.follows.more (Some rest.ending) r.follows.goes (Reads b) r.taken) in
    (uncut cfg asks rest b (lane.input.items ++ r.follows.more) w).cut
source_is cfg lane vars came_ asks to_server g rest b r promise (source.Cut code) e =
    cut_code cfg asks rest b code (subst (λ (fs : List FilterSpec). IsCutWith code fs (Reads b)) g.filters (promise.cut code e r.follows.more (Some rest.ending) r.follows.goes (Reads b) r.taken))

-- ---- the body

pub reads_of : (cfg : Config) (lane : LaneState) (vars : Variables) (came_ : Coming) (asks : Asking Variables) (to_server : List ℕ) (g : GoesOut cfg lane vars came_ asks to_server) → IsFor cfg lane → (rest : Stream) (read : BodyRead)
    → (f : Follows lane.ended g.past.bytes rest) → BodyTaken lane g.past f.more (Some rest.ending) read → IsBodyOf cfg.limits asks.received.framing rest.bytes (Some rest.ending) read
reads_of cfg lane vars came_ asks to_server g is rest read f x =
    subst (λ (bytes : List ℕ). IsBodyOf cfg.limits asks.received.framing bytes (Some rest.ending) read) (sym f.is)
    (subst (λ (framing : Framing). IsBodyOf cfg.limits framing (g.past.bytes ++ f.more) (Some rest.ending) read) g.reads
    (subst (λ (l : Limits). IsBodyOf l g.past.reads (g.past.bytes ++ f.more) (Some rest.ending) read) is.limits x))

taken_of : (cfg : Config) (lane : LaneState) (vars : Variables) (came_ : Coming) (asks : Asking Variables) (to_server : List ℕ) (g : GoesOut cfg lane vars came_ asks to_server) → IsFor cfg lane → (rest : Stream) (read : BodyRead)
    → (f : Follows lane.ended g.past.bytes rest) → IsBodyOf cfg.limits asks.received.framing rest.bytes (Some rest.ending) read → BodyTaken lane g.past f.more (Some rest.ending) read
taken_of cfg lane vars came_ asks to_server g is rest read f x =
    subst (λ (l : Limits). IsBodyOf l g.past.reads (g.past.bytes ++ f.more) (Some rest.ending) read) (sym is.limits)
    (subst (λ (framing : Framing). IsBodyOf cfg.limits framing (g.past.bytes ++ f.more) (Some rest.ending) read) (sym g.reads)
    (subst (λ (bytes : List ℕ). IsBodyOf cfg.limits asks.received.framing bytes (Some rest.ending) read) f.is x))

-- of a reading of what follows the head, what was put out is a front
pub body_goes : (cfg : Config) (lane : LaneState) (vars : Variables) (came_ : Coming) (asks : Asking Variables) (to_server : List ℕ) (g : GoesOut cfg lane vars came_ asks to_server) → IsFor cfg lane → Promise lane g.past
    → (rest : Stream) → Follows lane.ended g.past.bytes rest → (b : BodyReading) → BodyOf cfg.limits asks.received.framing rest.bytes rest.ending b
    → BodyGoes (meaning_of cfg) asks lane.source (is_done lane.stage && not lane.dropped) lane.dropped to_server rest
body_goes cfg lane vars came_ asks to_server g is promise rest f b reads =
    let r : Reading cfg lane g.past b rest = record { follows = f; taken = taken_of cfg lane vars came_ asks to_server g is rest (Reads b) f reads } in
    let t : Texts cfg asks rest b (is_done lane.stage && not lane.dropped) lane.dropped to_server =
    texts cfg lane vars came_ asks to_server g rest b r promise lane.dropped (is_done lane.stage) refl refl g.put in
    record {
      body = b;
      reads = reads;
      text = t.text;
      spelled = t.spells;
      front = t.front;
      source = source_is cfg lane vars came_ asks to_server g rest b r promise lane.source refl;
      sent = t.sent;
      lacks = t.lacks;
    }

-- of this reading
pub body_is : (cfg : Config) (lane : LaneState) (vars : Variables) (came_ : Coming) (asks : Asking Variables) (to_server : List ℕ) (g : GoesOut cfg lane vars came_ asks to_server) (is : IsFor cfg lane) (promise : Promise lane g.past)
    (rest : Stream) (f : Follows lane.ended g.past.bytes rest) (b : BodyReading) (reads : BodyOf cfg.limits asks.received.framing rest.bytes rest.ending b)
    → (body_goes cfg lane vars came_ asks to_server g is promise rest f b reads).body ≡ b
unfolding body_goes
body_is cfg lane vars came_ asks to_server g is promise rest f b reads = refl

-- ---- the request

-- the head asks for a server
pub asks_for : (cfg : Config) (lane : LaneState) (vars : Variables) (came_ : Coming) (asks : Asking Variables) (to_server : List ℕ) (g : GoesOut cfg lane vars came_ asks to_server) (stream rest : Stream)
    → Asks (meaning_of cfg) vars stream (asked_by (meaning_of cfg) asks.received rest ((meaning_of cfg).request_rules (request_env vars asks.received.head)))
    → Asks (meaning_of cfg) vars stream (Sends (forwarded_to asks rest))
asks_for cfg lane vars came_ asks to_server g stream rest a =
    subst (λ (x : Asking Variables). Asks (meaning_of cfg) vars stream (Sends (forwarded_to x rest))) (sym g.asks)
    (sends_head (meaning_of cfg) vars asks.received g.env stream rest g.rules g.short g.fits a)

pub requests : (cfg : Config) (lane : LaneState) (vars : Variables) (came_ : Coming) (asks : Asking Variables) (to_server : List ℕ) (g : GoesOut cfg lane vars came_ asks to_server) → IsFor cfg lane → Promise lane g.past
    → ((bytes : List ℕ) (end : Option Ending) → (read : BodyRead) × IsBodyOf cfg.limits asks.received.framing bytes end read)
    → (stream : Stream) → Continues came_ stream
    → RequestGoes (meaning_of cfg) lane.source (is_done lane.stage && not lane.dropped) lane.dropped vars asks to_server stream
requests cfg lane vars came_ asks to_server g is promise reading stream c =
    let M : Meaning = meaning_of cfg in
    let a : HeadAsks M vars (coming lane g.past.bytes) asks.received stream = head_asks M vars came_ (coming lane g.past.bytes) asks.received g.used g.head stream c in
    let f : Follows lane.ended g.past.bytes a.rest = follows lane.ended g.past.bytes a.rest a.continues in
    let h = reading a.rest.bytes (Some a.rest.ending) in
    let x : BodyOf cfg.limits asks.received.framing a.rest.bytes a.rest.ending (reading_in h.0) =
    subst (IsBodyOf cfg.limits asks.received.framing a.rest.bytes (Some a.rest.ending)) (is_read cfg.limits asks.received.framing a.rest.bytes a.rest.ending h.0 h.1) h.1 in
    record {
      rest = a.rest;
      asks = asks_for cfg lane vars came_ asks to_server g stream a.rest a.asks;
      goes = body_goes cfg lane vars came_ asks to_server g is promise a.rest f (reading_in h.0) x;
    }

pub requests_at : (at : Place) (cfg : Config) (lane : LaneState) (vars : Variables) (came_ : Coming) (asks : Asking Variables) (to_server : List ℕ) (reply : Reply Variables) → at ≡ place.Sending → StandsAt at cfg lane vars came_ asks to_server reply
    → IsFor cfg lane → ((p : Past) → Stands lane p → Promise lane p)
    → ((bytes : List ℕ) (end : Option Ending) → (read : BodyRead) × IsBodyOf cfg.limits asks.received.framing bytes end read)
    → (stream : Stream) → Continues came_ stream
    → RequestGoes (meaning_of cfg) (source_at at lane.source) (sent_at at lane.stage && not lane.dropped) lane.dropped vars asks to_server stream
requests_at place.Reading cfg lane vars came_ asks to_server reply e h is promise reading stream c = absurd (cc)
requests_at place.Sending cfg lane vars came_ asks to_server reply e h is promise reading stream c = requests cfg lane vars came_ asks to_server h is (promise h.past h.sends) reading stream c
requests_at place.Idle cfg lane vars came_ asks to_server reply e h is promise reading stream c = absurd (cc)
requests_at place.Replied cfg lane vars came_ asks to_server reply e h is promise reading stream c = absurd (cc)
