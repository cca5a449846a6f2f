-- What events make of the request direction.
use Rattle.std.proofs.Common.{◌≡◌, ◌≢◌, ℕ, List, [], ◌∷◌, ◌++◌, Bool, true, false, refl, ap, sym, ◌∙◌, subst, append_assoc, take, drop, rules}
use Rattle.std.specs.Prelude.{Option, Some, None}
use Rattle.std.proofs.lemmas.List.{append-nil, append_cancel_right, take-append-drop}
use Rattle.http_model.specs.declared.Ending.{Ending}
use Rattle.http_model.specs.Reading.{Received}
use Rattle.session_model.specs.Stream.{Stream}
use Rattle.session_model.specs.Meaning.{Meaning}
use Rattle.session_core.specs.History.{Coming, Continues, gains, ends, prepended}
use Rattle.session_core.specs.Sided.{Asking, Reply}
use Rattle.session_core.specs.Lanes.{HeadCame}
use Rattle.session_core.proofs.PublicLaws.{continues_gains, continues_ends}
use Rattle.px_sample.specs.Variables.{Variables}
use Rattle.http_rules.specs.declared.config.Config.{Config}
use Rattle.forward_core.specs.Meaning.Product.{meaning_of}
use Rattle.h1_head.specs.Stream.{behind}
use Rattle.h1_body.specs.BodyOf.{BodyRead}
use Rattle.body_filter.specs.declared.filter_spec.FilterSpec.{FilterSpec}
use Rattle.lane.specs.Direction.Filtering.{AreThese}
use Rattle.lane.specs.declared.sieve.sieve.Sieve.{Sieve}
use Rattle.lane.specs.Direction.Sent.{IsFrontOf}
use Rattle.lane.specs.Direction.Sends.{Past, put_out, Stands}
use Rattle.lane.specs.Direction.Promise.{Promise, OnEachBody, body_sent, finish_of}
use Rattle.lane.specs.Direction.State.{LaneState}
use Rattle.forward_core.specs.declared.request.place.Place.{Place}
use Rattle.forward_core.specs.declared.request.place.Place.TheVariants as place
use Rattle.forward_core.specs.Request.Stands.{SoundAt, IsFor, coming, ReadsOn, Lacks, HasPut, GoesOut, IsReplied, StandsAt}
use Rattle.forward_core.proofs.RequestLemmas.Bodies.{each_more, each_ended, each_same}

-- ---- streams

head_goes : (M : Meaning) (came next left now : Coming) (received : Received) (used : List ℕ) → next ≡ prepended used now → ((rest : Stream) → Continues now rest → Continues left rest)
    → HeadCame M came received used left → HeadCame M next received used now
head_goes M came next left now received used is narrows h = record { came_is = is; reads = λ rest c. h.reads rest (narrows rest c) }

replied_goes : (cfg : Config) (vars : Variables) (came next left now : Coming) (reply : Reply Variables) (h : IsReplied cfg vars came reply left) → next ≡ prepended h.used now
    → ((rest : Stream) → Continues now rest → Continues left rest) → IsReplied cfg vars next reply now
replied_goes cfg vars came next left now reply h is narrows = record { used = h.used; came_is = is; asks = λ rest c. h.asks rest (narrows rest c) }

gains_is : (came left : Coming) (used bytes : List ℕ) → came ≡ prepended used left → gains came bytes ≡ prepended used (gains left bytes)
gains_is came left used bytes e = ap (λ (c : Coming). gains c bytes) e ∙ ap (λ (bs : List ℕ). let c : Coming = record { bytes = bs; ending = left.ending } in c) (append_assoc used left.bytes bytes)

ends_is : (came left : Coming) (used : List ℕ) (how : Ending) → came ≡ prepended used left → ends came how ≡ prepended used (ends left how)
ends_is came left used how e = ap (λ (c : Coming). ends c how) e

-- the same bytes, with the ending of another lane
same_coming : (old new : LaneState) (bytes : List ℕ) → new.ended ≡ old.ended → coming new bytes ≡ coming old bytes
same_coming old new bytes e = ap (λ (o : Option Ending). let c : Coming = record { bytes = bytes; ending = o } in c) e

-- ---- what a call keeps

pub record Same (old new : LaneState) : Type 0 where
  pub limits : new.limits ≡ old.limits
  pub filters : (filters : List FilterSpec) → AreThese old.sieve filters → AreThese new.sieve filters

pub same_by : (old new : LaneState) → new.limits ≡ old.limits → new.sieve ≡ old.sieve → Same old new
same_by old new limits sieve = record { limits = limits; filters = λ filters has. subst (λ (s : Option Sieve). AreThese s filters) (sym sieve) has }

pub for_same : (cfg : Config) (old new : LaneState) → Same old new → IsFor cfg old → IsFor cfg new
for_same cfg old new s h = record { limits = s.limits ∙ h.limits; filters = s.filters cfg.req_filters h.filters }

-- what a server lacks, by a call that keeps the past but for what came
lacks_as : (old new : LaneState) (p q : Past) → q ≡ record p { bytes = q.bytes } → ((P : BodyRead → Type 0) → OnEachBody old p P → OnEachBody new q P) → Lacks old p → Lacks new q
lacks_as old new p q e each h =
    let P : Past → BodyRead → Type 0 = λ x read. IsFrontOf x.sent (body_sent x read) (finish_of x.filters read) (x.took ++ h.text) in
    record { text = h.text; some = h.some; front = subst (λ (x : Past). OnEachBody new q (P x)) (sym e) (each (P p) h.front) }

-- ---- bytes of the client

pub record Takes (old new : LaneState) (bytes : List ℕ) : Type 0 where
  pub same : Same old new
  pub open_ : old.ended ≡ None
  pub still : new.ended ≡ None
  pub input : new.input.items ≡ old.input.items ++ bytes
  pub output : new.output.items ≡ old.output.items
  pub dropped : new.dropped ≡ old.dropped
  pub sends : (p : Past) → Stands old p → Stands new (record p { bytes = p.bytes ++ bytes })

takes_coming : (old new : LaneState) (bytes so_far : List ℕ) → Takes old new bytes → gains (coming old so_far) bytes ≡ coming new (so_far ++ bytes)
takes_coming old new bytes so_far t = ap (λ (o : Option Ending). let c : Coming = record { bytes = so_far ++ bytes; ending = o } in c) (t.open_ ∙ sym t.still)

takes_narrows : (old new : LaneState) (bytes so_far : List ℕ) → Takes old new bytes → (rest : Stream) → Continues (coming new (so_far ++ bytes)) rest → Continues (coming old so_far) rest
takes_narrows old new bytes so_far t rest c =
    continues_gains (coming old so_far) bytes rest t.open_ (subst (λ (x : Coming). Continues x rest) (sym (takes_coming old new bytes so_far t)) c)

takes_put : (d : Bool) (old new : LaneState) (bytes : List ℕ) (p : Past) (to_server : List ℕ) → Takes old new bytes → HasPut d old p to_server → HasPut d new (record p { bytes = p.bytes ++ bytes }) to_server
takes_put false old new bytes p to_server t h = h ∙ ap (λ (w : List ℕ). p.took ++ w) (sym t.output)
takes_put true old new bytes p to_server t h =
    (h.0, lacks_as old new p (record p { bytes = p.bytes ++ bytes }) refl (λ P. each_more old new p bytes P t.open_ t.same.limits) h.1)

pub takes : (at : Place) (cfg : Config) (old new : LaneState) (bytes : List ℕ) (vars : Variables) (came : Coming) (asking : Asking Variables) (to_server : List ℕ) (reply : Reply Variables)
    → Takes old new bytes → StandsAt at cfg old vars came asking to_server reply → StandsAt at cfg new vars (gains came bytes) asking to_server reply
takes place.Reading cfg old new bytes vars came asking to_server reply t h = record {
  ending = h.ending ∙ t.open_ ∙ sym t.still;
  lines = λ more. ap behind (append_assoc came.bytes bytes more) ∙ h.lines (bytes ++ more) ∙ ap behind (sym (append_assoc old.input.items bytes more)) ∙ ap (λ (i : List ℕ). behind (i ++ more)) (sym t.input);
}
takes place.Sending cfg old new bytes vars came asking to_server reply t h =
    let M : Meaning = meaning_of cfg in
    record {
      past = record h.past { bytes = h.past.bytes ++ bytes };
      sends = t.sends h.past h.sends;
      used = h.used;
      env = h.env;
      head = head_goes M came (gains came bytes) (coming old h.past.bytes) (coming new (h.past.bytes ++ bytes)) asking.received h.used
          (gains_is came (coming old h.past.bytes) h.used bytes h.head.came_is ∙ ap (prepended h.used) (takes_coming old new bytes h.past.bytes t)) (takes_narrows old new bytes h.past.bytes t) h.head;
      rules = h.rules;
      asks = h.asks;
      short = h.short;
      fits = h.fits;
      message = h.message;
      filters = h.filters;
      reads = h.reads;
      put = subst (λ (d : Bool). HasPut d new (record h.past { bytes = h.past.bytes ++ bytes }) to_server) (sym t.dropped) (takes_put old.dropped old new bytes h.past to_server t h.put);
    }
takes place.Idle cfg old new bytes vars came asking to_server reply t h = tt
takes place.Replied cfg old new bytes vars came asking to_server reply t h =
    let left : List ℕ = old.input.items in
    let narrows : (rest : Stream) → Continues (coming new new.input.items) rest → Continues (coming old left) rest =
    λ rest c. takes_narrows old new bytes left t rest (subst (λ (i : List ℕ). Continues (coming new i) rest) t.input c) in
    replied_goes cfg vars came (gains came bytes) (coming old left) (coming new new.input.items) reply h
    (gains_is came (coming old left) h.used bytes h.came_is ∙ ap (prepended h.used) (takes_coming old new bytes left t) ∙ ap (λ (i : List ℕ). prepended h.used (coming new i)) (sym t.input)) narrows

-- ---- the end of the client's stream

pub record EndsSo (old new : LaneState) (how : Ending) : Type 0 where
  pub same : Same old new
  pub open_ : old.ended ≡ None
  pub ended : new.ended ≡ Some how
  pub input : new.input.items ≡ old.input.items
  pub output : new.output.items ≡ old.output.items
  pub dropped : new.dropped ≡ old.dropped
  pub sends : (p : Past) → Stands old p → Stands new p

ends_coming : (old new : LaneState) (how : Ending) (bytes : List ℕ) → EndsSo old new how → ends (coming old bytes) how ≡ coming new bytes
ends_coming old new how bytes t = ap (λ (o : Option Ending). let c : Coming = record { bytes = bytes; ending = o } in c) (sym t.ended)

ends_narrows : (old new : LaneState) (how : Ending) (bytes : List ℕ) → EndsSo old new how → (rest : Stream) → Continues (coming new bytes) rest → Continues (coming old bytes) rest
ends_narrows old new how bytes t rest c = continues_ends (coming old bytes) how rest t.open_ (subst (λ (x : Coming). Continues x rest) (sym (ends_coming old new how bytes t)) c)

ends_put : (d : Bool) (old new : LaneState) (how : Ending) (p : Past) (to_server : List ℕ) → EndsSo old new how → HasPut d old p to_server → HasPut d new p to_server
ends_put false old new how p to_server t h = h ∙ ap (λ (w : List ℕ). p.took ++ w) (sym t.output)
ends_put true old new how p to_server t h = (h.0, lacks_as old new p p refl (λ P. each_ended old new p P t.open_ t.same.limits) h.1)

pub ended : (at : Place) (cfg : Config) (old new : LaneState) (how : Ending) (vars : Variables) (came : Coming) (asking : Asking Variables) (to_server : List ℕ) (reply : Reply Variables)
    → EndsSo old new how → StandsAt at cfg old vars came asking to_server reply → StandsAt at cfg new vars (ends came how) asking to_server reply
ended place.Reading cfg old new how vars came asking to_server reply t h = record {
  ending = sym t.ended;
  lines = λ more. h.lines more ∙ ap (λ (i : List ℕ). behind (i ++ more)) (sym t.input);
}
ended place.Sending cfg old new how vars came asking to_server reply t h =
    let M : Meaning = meaning_of cfg in
    record {
      past = h.past;
      sends = t.sends h.past h.sends;
      used = h.used;
      env = h.env;
      head = head_goes M came (ends came how) (coming old h.past.bytes) (coming new h.past.bytes) asking.received h.used
          (ends_is came (coming old h.past.bytes) h.used how h.head.came_is ∙ ap (prepended h.used) (ends_coming old new how h.past.bytes t)) (ends_narrows old new how h.past.bytes t) h.head;
      rules = h.rules;
      asks = h.asks;
      short = h.short;
      fits = h.fits;
      message = h.message;
      filters = h.filters;
      reads = h.reads;
      put = subst (λ (d : Bool). HasPut d new h.past to_server) (sym t.dropped) (ends_put old.dropped old new how h.past to_server t h.put);
    }
ended place.Idle cfg old new how vars came asking to_server reply t h = tt
ended place.Replied cfg old new how vars came asking to_server reply t h =
    let left : List ℕ = old.input.items in
    replied_goes cfg vars came (ends came how) (coming old left) (coming new new.input.items) reply h
    (ends_is came (coming old left) h.used how h.came_is ∙ ap (prepended h.used) (ends_coming old new how left t) ∙ ap (λ (i : List ℕ). prepended h.used (coming new i)) (sym t.input))
    (λ rest c. ends_narrows old new how left t rest (subst (λ (i : List ℕ). Continues (coming new i) rest) t.input c))

-- ---- calls that keep the client's stream

pub record Keeps (old new : LaneState) : Type 0 where
  pub same : Same old new
  pub ended : new.ended ≡ old.ended

keeps_narrows : (old new : LaneState) (bytes : List ℕ) → Keeps old new → (rest : Stream) → Continues (coming new bytes) rest → Continues (coming old bytes) rest
keeps_narrows old new bytes k rest c = subst (λ (x : Coming). Continues x rest) (same_coming old new bytes k.ended) c

-- where the input stays
pub stays : (cfg : Config) (old new : LaneState) (vars : Variables) (came : Coming) (reply : Reply Variables) → Keeps old new → new.input.items ≡ old.input.items
    → (ReadsOn old came → ReadsOn new came) × (IsReplied cfg vars came reply (coming old old.input.items) → IsReplied cfg vars came reply (coming new new.input.items))
stays cfg old new vars came reply k e = (
  λ h. record { ending = h.ending ∙ sym k.ended; lines = λ more. h.lines more ∙ ap (λ (i : List ℕ). behind (i ++ more)) (sym e) },
  λ h. subst (λ (x : Coming). IsReplied cfg vars came reply x) (sym (ap (coming new) e ∙ same_coming old new old.input.items k.ended)) h,
)

-- a request that goes out, with a past that has the same but for what was taken
pub goes_as : (cfg : Config) (old new : LaneState) (vars : Variables) (came : Coming) (asking : Asking Variables) (was to_server : List ℕ) (h : GoesOut cfg old vars came asking was) (took : List ℕ) → Keeps old new
    → Stands new (record h.past { took = took }) → HasPut new.dropped new (record h.past { took = took }) to_server → GoesOut cfg new vars came asking to_server
goes_as cfg old new vars came asking was to_server h took k sends put = record {
  past = record h.past { took = took };
  sends = sends;
  used = h.used;
  env = h.env;
  head = head_goes (meaning_of cfg) came came (coming old h.past.bytes) (coming new h.past.bytes) asking.received h.used
      (h.head.came_is ∙ ap (prepended h.used) (sym (same_coming old new h.past.bytes k.ended))) (keeps_narrows old new h.past.bytes k) h.head;
  rules = h.rules;
  asks = h.asks;
  short = h.short;
  fits = h.fits;
  message = h.message;
  filters = h.filters;
  reads = h.reads;
  put = put;
}

-- ---- the server takes text

pub drop_none : (n : ℕ) → drop n (let none : List ℕ = [] in none) ≡ []
drop_none n = search rules

take_none : (n : ℕ) → take n (let none : List ℕ = [] in none) ≡ []
take_none n = search rules

took_put : (d : Bool) (old new : LaneState) (n : ℕ) (p : Past) (to_server : List ℕ) → Keeps old new → new.output.items ≡ drop n old.output.items → (d ≡ true → old.output.items ≡ [])
    → HasPut d old p to_server → HasPut d new (record p { took = p.took ++ take n old.output.items }) to_server
took_put false old new n p to_server k out none h =
    h ∙ ap (λ (w : List ℕ). p.took ++ w) (sym (take-append-drop n old.output.items)) ∙ sym (append_assoc p.took (take n old.output.items) (drop n old.output.items))
    ∙ ap (λ (w : List ℕ). (p.took ++ take n old.output.items) ++ w) (sym out)
took_put true old new n p to_server k out none h =
    let nothing : take n old.output.items ≡ [] = ap (take n) (none refl) ∙ take_none n in
    let same : p.took ≡ p.took ++ take n old.output.items = sym (append-nil p.took) ∙ ap (λ (w : List ℕ). p.took ++ w) (sym nothing) in
    let put : HasPut true new p to_server = (h.0, lacks_as old new p p refl (λ P. each_same old new p P k.ended k.same.limits) h.1) in
    subst (λ (t : List ℕ). HasPut true new (record p { took = t }) to_server) same put

pub server_takes : (at : Place) (cfg : Config) (old new : LaneState) (n : ℕ) (vars : Variables) (came : Coming) (asking : Asking Variables) (to_server : List ℕ) (reply : Reply Variables)
    → Keeps old new → SoundAt at old → new.input.items ≡ old.input.items → new.output.items ≡ drop n old.output.items → new.dropped ≡ old.dropped
    → ((p : Past) → Stands old p → Stands new (record p { took = p.took ++ take n old.output.items }))
    → StandsAt at cfg old vars came asking to_server reply → StandsAt at cfg new vars came asking to_server reply
server_takes place.Reading cfg old new n vars came asking to_server reply k s input out dropped sends h = (stays cfg old new vars came reply k input).0 h
server_takes place.Sending cfg old new n vars came asking to_server reply k s input out dropped sends h =
    goes_as cfg old new vars came asking to_server to_server h (h.past.took ++ take n old.output.items) k (sends h.past h.sends)
    (subst (λ (d : Bool). HasPut d new (record h.past { took = h.past.took ++ take n old.output.items }) to_server) (sym dropped)
    (took_put old.dropped old new n h.past to_server k out s.drops h.put))
server_takes place.Idle cfg old new n vars came asking to_server reply k s input out dropped sends h = tt
server_takes place.Replied cfg old new n vars came asking to_server reply k s input out dropped sends h = (stays cfg old new vars came reply k input).1 h

-- ---- the server takes no more

drop_put : (d : Bool) (old new : LaneState) (p : Past) (to_server put : List ℕ) → Keeps old new → old.output.items ≢ [] → (d ≡ true → old.output.items ≡ []) → old.dropped ≡ d → Promise old p
    → put ++ old.output.items ≡ to_server → HasPut d old p to_server → HasPut true new p put
drop_put true old new p to_server put k some none is promise e h = absurd (some (none refl))
drop_put false old new p to_server put k some none is promise e h = (
  append_cancel_right put p.took old.output.items (e ∙ h),
  record {
    text = old.output.items;
    some = some;
    front = each_same old new p (λ read. IsFrontOf p.sent (body_sent p read) (finish_of p.filters read) (put_out old p)) k.ended k.same.limits (promise.front is);
  },
)

pub drops : (at : Place) (cfg : Config) (old new : LaneState) (vars : Variables) (came : Coming) (asking : Asking Variables) (to_server put : List ℕ) (reply : Reply Variables)
    → Keeps old new → SoundAt at old → new.input.items ≡ old.input.items → old.output.items ≢ [] → new.dropped ≡ true → ((p : Past) → Stands old p → Stands new p) → ((p : Past) → Stands old p → Promise old p)
    → put ++ old.output.items ≡ to_server → StandsAt at cfg old vars came asking to_server reply → StandsAt at cfg new vars came asking put reply
drops place.Reading cfg old new vars came asking to_server put reply k s input some dropped sends promise e h = (stays cfg old new vars came reply k input).0 h
drops place.Sending cfg old new vars came asking to_server put reply k s input some dropped sends promise e h =
    goes_as cfg old new vars came asking to_server put h h.past.took k (sends h.past h.sends)
    (subst (λ (d : Bool). HasPut d new h.past put) (sym dropped) (drop_put old.dropped old new h.past to_server put k some s.drops refl (promise h.past h.sends) e h.put))
drops place.Idle cfg old new vars came asking to_server put reply k s input some dropped sends promise e h = tt
drops place.Replied cfg old new vars came asking to_server put reply k s input some dropped sends promise e h = (stays cfg old new vars came reply k input).1 h

-- ---- a step

abbrev tail_of : List ℕ → List ℕ
tail_of [] = []
tail_of (x ∷ xs) = xs

pub nothing_more : (xs put : List ℕ) → xs ≡ xs ++ put → put ≡ []
nothing_more [] put e = sym e
nothing_more (x ∷ xs) put e = nothing_more xs put (ap tail_of e)

step_put : (d : Bool) (old new : LaneState) (p : Past) (to_server put : List ℕ) → Keeps old new → new.output.items ≡ old.output.items ++ put → (d ≡ true → new.output.items ≡ old.output.items)
    → HasPut d old p to_server → HasPut d new p (to_server ++ put)
step_put false old new p to_server put k out same h =
    ap (λ (w : List ℕ). w ++ put) h ∙ append_assoc p.took old.output.items put ∙ ap (λ (w : List ℕ). p.took ++ w) (sym out)
step_put true old new p to_server put k out same h =
    let none : put ≡ [] = nothing_more old.output.items put (sym (same refl) ∙ out) in
    (ap (λ (w : List ℕ). to_server ++ w) none ∙ append-nil to_server ∙ h.0, lacks_as old new p p refl (λ P. each_same old new p P k.ended k.same.limits) h.1)

pub steps : (cfg : Config) (old new : LaneState) (vars : Variables) (came : Coming) (asking : Asking Variables) (to_server put : List ℕ)
    → Keeps old new → new.output.items ≡ old.output.items ++ put → new.dropped ≡ old.dropped → (old.dropped ≡ true → new.output.items ≡ old.output.items) → ((p : Past) → Stands old p → Stands new p)
    → GoesOut cfg old vars came asking to_server → GoesOut cfg new vars came asking (to_server ++ put)
steps cfg old new vars came asking to_server put k out dropped same sends h =
    goes_as cfg old new vars came asking to_server (to_server ++ put) h h.past.took k (sends h.past h.sends)
    (subst (λ (d : Bool). HasPut d new h.past (to_server ++ put)) (sym dropped) (step_put old.dropped old new h.past to_server put k out same h.put))
