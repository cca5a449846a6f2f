-- What each event makes of a core that stands for a history.
use Rattle.std.proofs.Common.{◌≡◌, ◌≢◌, ℕ, ◌+◌, suc, length, length-append, List, [], ◌∷◌, ◌++◌, Bool, true, false, not, ◌&&◌, Option, Some, None, take, drop, sym, ap, subst, ◌∙◌, refl, append_assoc, arith, is_none}
use Rattle.std.proofs.Math.Seq.{drop-nil}
use Rattle.std.proofs.lemmas.List.{append-nil, append_cancel_right, take-append-drop}
use Rattle.http_model.specs.declared.Ending.{Ending}
use Rattle.htx_model.specs.Block.{Block}
use Rattle.session_model.specs.Stream.{Stream}
use Rattle.session_model.specs.Meaning.{Meaning}
use Rattle.session_core.specs.History.{Past, Coming, Connect, Continues, close_by, prepended, gains, ends, at_last, given_by, ended_by, taking, stopping, closing_by}
use Rattle.session_core.specs.Sided.{Sided, Asking, RequestSeen, AnswerSeen, Requests, BodyGoes, RequestGoes, is_all}
use Rattle.session_core.specs.Stands.{IsBehind, Serves, IsServing, InPhase, Holds}
use Rattle.session_core.specs.declared.machine.At.{At}
use Rattle.session_core.specs.declared.Phase.{Phase}
use Rattle.session_core.specs.declared.Phase.TheVariants as phase
use Rattle.session_core.proofs.Streams.{continues_gains, continues_ends}

pub holds_at : (M : Meaning) (at : At) (q r : RequestSeen) (a b : AnswerSeen) (p : Sided M) (past : Past)
    → r ≡ q → b ≡ a → Holds M at q a p past → Holds M at r b p past
holds_at M at q r a b p past e f h =
    let Q : RequestSeen → Type 0 = λ q. Holds M at q b p past in
    let A : AnswerSeen → Type 0 = λ a. Holds M at q a p past in
    subst Q (sym e) (subst A (sym f) h)

pub open_of : (is_open : Bool) (ending : Option Ending) → is_open ≡ is_none ending → is_open ≡ true → ending ≡ None
open_of is_open None e t = refl
open_of is_open (Some how) e t = let no : false ≡ true = sym e ∙ t in absurd (grind (arith, no))

-- ---- the client gives

serves_came : (M : Meaning) (q : RequestSeen) (a : AnswerSeen) (p : Sided M) (came : Coming) (cut : Option Bool)
    → ((s : Stream) → Continues came s → Continues p.came s) → Serves M q a p cut → Serves M q a (record p { came = came }) cut
serves_came M q a p came None w h = (λ s c. h.0 s (w s c), h.1, h.2, h.3)
serves_came M q a p came (Some true) w h = (λ s c. h.0 s (w s c), h.1, h.2, h.3, h.4)
serves_came M q a p came (Some false) w h = (λ s c. h.0 s (w s c), h.1, h.2, h.3)

in_phase_came : (M : Meaning) (q : RequestSeen) (a : AnswerSeen) (p : Sided M) (came : Coming) (hand : ℕ) (cut : Option Bool) (now : List Connect) (ph : Phase)
    → ((s : Stream) → Continues came s → Continues p.came s) → InPhase M q a p hand cut now ph → InPhase M q a (record p { came = came }) hand cut now ph
in_phase_came M q a p came hand cut now phase.Reading w h = h
in_phase_came M q a p came hand cut now phase.Opening w h = (h.0, h.1, h.2, h.3, h.4, λ s c. h.5 s (w s c), λ s c. h.6 s (w s c))
in_phase_came M q a p came hand cut now phase.Unserved w h = (h.0, h.1, h.2, h.3, λ s c. h.4 s (w s c))
in_phase_came M q a p came hand cut now phase.Serving w h = (h.0, h.1, (h.2.0, h.2.1, serves_came M q a p came cut w h.2.2, h.2.3, λ s c. h.2.4 s (w s c)))
in_phase_came M q a p came hand cut now phase.Served w h = (h.0, h.1, h.2, h.3, (h.4.0, h.4.1, serves_came M q a p came cut w h.4.2, h.4.3, λ s c. h.4.4 s (w s c)))
in_phase_came M q a p came hand cut now phase.Refusing w h =
    (h.0, h.1, h.2, record { said = h.3.said; sent = h.3.sent; goes = λ s ss c z. h.3.goes s ss (w s c) z })
in_phase_came M q a p came hand cut now (phase.Replying kept) w h =
    (h.0, h.1, h.2, record { spelled = h.3.spelled; said = h.3.said; sent = h.3.sent; behind = h.3.behind; asks = λ s c. h.3.asks s (w s c) })
in_phase_came M q a p came hand cut now (phase.Over how) w h = (h.0, h.1, λ s ss c z. h.2 s ss (w s c) z)

pub client_gives : (M : Meaning) (at : At) (q : RequestSeen) (a : AnswerSeen) (p : Sided M) (past : Past) (bytes : List ℕ) (room unread : ℕ)
    → q.is_open ≡ true → Holds M at q a p past
    → Holds M at (record q { room = room; unread = unread; at_rest = false }) a (record p { came = gains p.came bytes }) (record past { client = gains past.client bytes })
client_gives M at q a p past bytes room unread is h =
    let w : (s : Stream) → Continues (gains p.came bytes) s → Continues p.came s = λ s c. continues_gains p.came bytes s (open_of q.is_open p.came.ending h.is_open is) c in
    record {
      used = h.used;
      done = h.done;
      hand = h.hand;
      before = h.before;
      now = h.now;
      is_open = h.is_open;
      client = ap (λ c. gains c bytes) h.client ∙ ap (λ (xs : List ℕ). let c : Coming = record { bytes = xs; ending = p.came.ending } in c) (append_assoc h.used p.came.bytes bytes);
      connects = h.connects;
      taken = h.taken;
      note = h.note;
      count = h.count;
      sent = h.sent;
      fronts = h.fronts;
      behind = λ rest servers left how more c z f. h.behind rest servers left how more (w rest c) z f;
      phase = in_phase_came M q a p (gains p.came bytes) h.hand at.cut h.now at.phase w h.phase;
    }

pub client_ends : (M : Meaning) (at : At) (q : RequestSeen) (a : AnswerSeen) (p : Sided M) (past : Past) (how : Ending)
    → q.is_open ≡ true → Holds M at q a p past
    → Holds M at (record q { is_open = false; at_rest = false }) a (record p { came = ends p.came how }) (record past { client = ends past.client how })
client_ends M at q a p past how is h =
    let w : (s : Stream) → Continues (ends p.came how) s → Continues p.came s = λ s c. continues_ends p.came how s (open_of q.is_open p.came.ending h.is_open is) c in
    record {
      used = h.used;
      done = h.done;
      hand = h.hand;
      before = h.before;
      now = h.now;
      is_open = refl;
      client = ap (λ c. ends c how) h.client;
      connects = h.connects;
      taken = h.taken;
      note = h.note;
      count = h.count;
      sent = h.sent;
      fronts = h.fronts;
      behind = λ rest servers left how more c z f. h.behind rest servers left how more (w rest c) z f;
      phase = in_phase_came M q a p (ends p.came how) h.hand at.cut h.now at.phase w h.phase;
    }

-- ---- the client takes

pub client_takes : (M : Meaning) (at : At) (q : RequestSeen) (a : AnswerSeen) (p : Sided M) (past : Past) (n : ℕ)
    → Holds M at q a p past
    → Holds M at q (record a { window = drop n a.window; at_rest = false }) p (record past { taken = past.taken ++ take n a.window })
client_takes M at q a p past n h =
    record {
      used = h.used;
      done = h.done;
      hand = h.hand;
      before = h.before;
      now = h.now;
      is_open = h.is_open;
      client = h.client;
      connects = h.connects;
      taken = append_assoc past.taken (take n a.window) (drop n a.window) ∙ ap (λ xs. past.taken ++ xs) (take-append-drop n a.window) ∙ h.taken;
      note = h.note;
      count = h.count;
      sent = h.sent;
      fronts = h.fronts;
      behind = h.behind;
      phase = h.phase;
    }

-- ---- the server

pub at_last_of : (f : Connect → Connect) (cs : List Connect) (c : Connect) → at_last f (cs ++ c ∷ []) ≡ cs ++ f c ∷ []
at_last_of f [] c = refl
at_last_of f (d ∷ []) c = refl
at_last_of f (d ∷ e ∷ ds) c = ap (λ cs. d ∷ cs) (at_last_of f (e ∷ ds) c)

-- an event of the server while it is open: it changes the connect in hand
pub while_serving : (M : Meaning) (at : At) (to : Phase) (q r : RequestSeen) (a b : AnswerSeen) (p s : Sided M) (past : Past) (f : Connect → Connect)
    → at.phase ≡ phase.Serving
    → s.vars ≡ p.vars → s.came ≡ p.came → s.to_client ≡ p.to_client → r.is_open ≡ q.is_open → b.window ≡ a.window
    → ((c : Connect) (now : List Connect) → IsServing M q a p at.cut (c ∷ []) c → (past.note ≡ at.cut) → InPhase M r b s 1 at.cut (f c ∷ []) to)
    → Holds M at q a p past
    → Holds M (record at { phase = to }) r b s (record past { connects = at_last f past.connects })
while_serving M at to q r a b p s past f is vars came client opened window then h =
    let P : Phase → Type 0 = λ ph. InPhase M q a p h.hand at.cut h.now ph in
    let serving : InPhase M q a p h.hand at.cut h.now phase.Serving = subst P is h.phase in
    let c : Connect = serving.1 in
    let N : List Connect → Type 0 = λ now. IsServing M q a p at.cut now c in
    let H : ℕ → Type 0 = λ n. InPhase M r b s n at.cut (f c ∷ []) to in
    let B : M.Vars → Type 0 = λ v. IsBehind M v h.used s.came h.before h.done in
    let C : Coming → Type 0 = λ c. IsBehind M p.vars h.used c h.before h.done in
    record {
      used = h.used;
      done = h.done;
      hand = h.hand;
      before = h.before;
      now = f c ∷ [];
      is_open = opened ∙ h.is_open ∙ ap (λ c. is_none c.ending) (sym came);
      client = h.client ∙ ap (λ c. prepended h.used c) (sym came);
      connects = ap (λ cs. at_last f cs) (h.connects ∙ ap (λ cs. h.before ++ cs) serving.2.0) ∙ at_last_of f h.before c;
      taken = ap (λ xs. past.taken ++ xs) window ∙ h.taken ∙ ap (λ xs. h.done.client ++ xs) (sym client);
      note = h.note;
      count = h.count;
      sent = h.sent;
      fronts = h.fronts;
      behind = subst B (sym vars) (subst C (sym came) h.behind);
      phase = subst H (sym serving.0) (then c h.now (subst N serving.2.0 serving.2) h.note);
    }

serves_server : (M : Meaning) (q : RequestSeen) (a : AnswerSeen) (p : Sided M) (server : Coming) (cut : Option Bool)
    → ((s : Stream) → Continues server s → Continues p.server s) → Serves M q a p cut → Serves M q a (record p { server = server }) cut
serves_server M q a p server None w h =
    (h.0, (h.1.0, λ s c. h.1.1 s (w s c)), h.2, λ e. record { heads = (h.3 e).heads; begins = λ s c. (h.3 e).begins s (w s c); front = (h.3 e).front })
serves_server M q a p server (Some true) w h = (h.0, (h.1.0, λ s c. h.1.1 s (w s c)), h.2, h.3, h.4)
serves_server M q a p server (Some false) w h =
    (h.0, h.1, h.2, record { heads = h.3.heads; begins = λ s c. h.3.begins s (w s c); spelled = h.3.spelled; said = h.3.said; sent = h.3.sent })

pub server_gives : (M : Meaning) (q : RequestSeen) (a : AnswerSeen) (p : Sided M) (bytes : List ℕ) (room : ℕ) (cut : Option Bool) (c : Connect)
    → a.is_open ≡ true → IsServing M q a p cut (c ∷ []) c
    → InPhase M q (record a { room = room; at_rest = false }) (record p { server = gains p.server bytes }) 1 cut (given_by bytes c ∷ []) phase.Serving
server_gives M q a p bytes room cut c is h = (
  refl,
  given_by bytes c,
  (
    refl,
    record { there = h.1.there; stopped = h.1.stopped; stream = ap (λ s. gains s bytes) h.1.stream; taken = h.1.taken },
    serves_server M q a p (gains p.server bytes) cut (λ s d. continues_gains p.server bytes s (open_of a.is_open p.server.ending h.3.is_open is) d) h.2,
    h.3,
    h.4,
  ),
)

pub server_ends : (M : Meaning) (q : RequestSeen) (a : AnswerSeen) (p : Sided M) (how : Ending) (cut : Option Bool) (c : Connect)
    → a.is_open ≡ true → IsServing M q a p cut (c ∷ []) c
    → InPhase M q (record a { is_open = false; at_rest = false }) (record p { server = ends p.server how }) 1 cut (ended_by how c ∷ []) phase.Serving
server_ends M q a p how cut c is h = (
  refl,
  ended_by how c,
  (
    refl,
    record { there = h.1.there; stopped = h.1.stopped; stream = ap (λ s. ends s how) h.1.stream; taken = h.1.taken },
    serves_server M q a p (ends p.server how) cut (λ s d. continues_ends p.server how s (open_of a.is_open p.server.ending h.3.is_open is) d) h.2,
    record { is_open = refl; settled = h.3.settled; drops = h.3.drops; waits = h.3.waits },
    h.4,
  ),
)

pub server_takes : (M : Meaning) (q : RequestSeen) (a : AnswerSeen) (p : Sided M) (n : ℕ) (cut : Option Bool) (c : Connect)
    → IsServing M q a p cut (c ∷ []) c
    → InPhase M (record q { window = drop n q.window; at_rest = false }) a p 1 cut (taking (take n q.window) c ∷ []) phase.Serving
server_takes M q a p n cut c h = (
  refl,
  taking (take n q.window) c,
  (
    refl,
    record {
      there = h.1.there;
      stopped = h.1.stopped;
      stream = h.1.stream;
      taken = append_assoc c.taken (take n q.window) (drop n q.window) ∙ ap (λ xs. c.taken ++ xs) (take-append-drop n q.window) ∙ h.1.taken;
    },
    h.2,
    record { is_open = h.3.is_open; settled = h.3.settled; drops = λ e. ap (λ w. drop n w) (h.3.drops e) ∙ drop-nil n; waits = h.3.waits },
    h.4,
  ),
)

-- ---- a server that stops

never : (b : Bool) → b && not true ≡ true → ⊥
never true e = grind (arith, e)
never false e = grind (arith, e)

-- a front that goes on with a byte isn't all
lacks_some : (put window more text : List ℕ) → window ≢ [] → put ++ window ++ more ≡ text → put ≢ text
lacks_some put [] more text w e f = absurd (w refl)
lacks_some put (x ∷ xs) more text w e f =
    let long : length put + (length (x ∷ xs)) + length more ≡ length text = sym (length-append (put ++ x ∷ xs) more ∙ ap (λ n. n + length more) (length-append put (x ∷ xs))) ∙ ap length e in
    let same : length put ≡ length text = ap length f in
    let some : length (x ∷ xs) ≡ suc (length xs) = refl in
    absurd (omega (arith, long, same, some))

body_drops : (M : Meaning) (q : RequestSeen) (asking : Asking M.Vars) (to_server put : List ℕ) (rest : Stream) → q.window ≢ [] → put ++ q.window ≡ to_server
    → BodyGoes M asking q.source (is_all q) q.dropped to_server rest → BodyGoes M asking q.source (q.sent && not true) true put rest
body_drops M q asking to_server put rest some e g =
    let on : put ++ q.window ++ g.front.0 ≡ g.text = ap (λ xs. xs ++ g.front.0) e ∙ g.front.1 in
    record {
      body = g.body;
      reads = g.reads;
      text = g.text;
      spelled = g.spelled;
      front = (q.window ++ g.front.0, sym (append_assoc put q.window g.front.0) ∙ on);
      source = g.source;
      sent = λ all. absurd (never q.sent all);
      lacks = λ _. lacks_some put q.window g.front.0 g.text some on;
    }

drops_one : (M : Meaning) (q : RequestSeen) (p : Sided M) (put : List ℕ) (s : Stream) → q.window ≢ [] → put ++ q.window ≡ p.to_server
    → RequestGoes M q.source (is_all q) q.dropped p.vars p.asking p.to_server s → RequestGoes M q.source (q.sent && not true) true p.vars p.asking put s
drops_one M q p put s some e g = record { rest = g.rest; asks = g.asks; goes = body_drops M q p.asking p.to_server put g.rest some e g.goes }

-- a request that is dropped, with this list in the array
abbrev pub dropping : RequestSeen → List Block → RequestSeen
dropping q list = record q { window = []; dropped = true; at_rest = false; list = list }

drops : (M : Meaning) (q : RequestSeen) (list : List Block) (p : Sided M) (put : List ℕ) → q.window ≢ [] → put ++ q.window ≡ p.to_server → Requests M q p
    → Requests M (dropping q list) (record p { to_server = put })
drops M q list p put some e h s c = drops_one M q p put s some e (h s c)

serves_dropped : (M : Meaning) (q : RequestSeen) (list : List Block) (a : AnswerSeen) (p : Sided M) (put : List ℕ) (cut : Option Bool) → q.window ≢ [] → put ++ q.window ≡ p.to_server
    → Serves M q a p cut → Serves M (dropping q list) a (record p { to_server = put }) cut
serves_dropped M q list a p put None some e h = (drops M q list p put some e h.0, h.1, h.2, h.3)
serves_dropped M q list a p put (Some true) some e h = (drops M q list p put some e h.0, h.1, h.2, h.3, h.4)
serves_dropped M q list a p put (Some false) some e h = (drops M q list p put some e h.0, h.1, h.2, h.3)

pub server_stops : (M : Meaning) (q : RequestSeen) (list : List Block) (a : AnswerSeen) (p : Sided M) (cut : Option Bool) (c : Connect)
    → q.window ≢ [] → IsServing M q a p cut (c ∷ []) c
    → InPhase M (dropping q list) a (record p { to_server = c.taken }) 1 cut (stopping c ∷ []) phase.Serving
server_stops M q list a p cut c some h = (
  refl,
  stopping c,
  (
    refl,
    record { there = h.1.there; stopped = refl; stream = h.1.stream; taken = append-nil c.taken },
    serves_dropped M q list a p c.taken cut some h.1.taken h.2,
    record { is_open = h.3.is_open; settled = h.3.settled; drops = λ e. refl; waits = h.3.waits },
    h.4,
  ),
)

pub server_closes : (M : Meaning) (q : RequestSeen) (a : AnswerSeen) (p : Sided M) (note cut : Option Bool) (c : Connect)
    → q.sent ≡ true → q.window ≡ [] → a.answered ≡ true → note ≡ cut → IsServing M q a p cut (c ∷ []) c
    → InPhase M q a p 1 cut (closing_by note c ∷ []) phase.Served
server_closes M q a p note cut c sent taken answered is h = (
  refl,
  record { all_sent = sent; taken = taken; all_answered = answered },
  closing_by note c,
  ap (λ n. Some (close_by n)) is,
  (refl, record { there = h.1.there; stopped = h.1.stopped; stream = h.1.stream; taken = h.1.taken }, h.2, h.3, h.4),
)

-- the same place, its phase written out
pub holds_in : (M : Meaning) (at : At) (ph : Phase) (q : RequestSeen) (a : AnswerSeen) (p : Sided M) (past : Past)
    → at.phase ≡ ph → Holds M (record at { phase = ph }) q a p past → Holds M at q a p past
holds_in M at ph q a p past is h = let P : Phase → Type 0 = λ ph. Holds M (record at { phase = ph }) q a p past in subst P (sym is) h

-- the connect in hand, and what it took
pub record InHandAt (M : Meaning) (q : RequestSeen) (p : Sided M) : Type 0 where
  pub connect : Connect
  pub taken : connect.taken ++ q.window ≡ p.to_server

pub connect_of : (M : Meaning) (at : At) (q : RequestSeen) (a : AnswerSeen) (p : Sided M) (past : Past)
    → at.phase ≡ phase.Serving → Holds M at q a p past → InHandAt M q p
connect_of M at q a p past is h =
    let P : Phase → Type 0 = λ ph. InPhase M q a p h.hand at.cut h.now ph in
    let serving : InPhase M q a p h.hand at.cut h.now phase.Serving = subst P is h.phase in
    record { connect = serving.1; taken = serving.2.1.taken }

pub stops : (M : Meaning) (at : At) (q : RequestSeen) (list : List Block) (a : AnswerSeen) (p : Sided M) (past : Past)
    → (is : at.phase ≡ phase.Serving) → q.window ≢ [] → (h : Holds M at q a p past)
    → Holds M (record at { phase = phase.Serving }) (dropping q list) a
    (record p { to_server = (connect_of M at q a p past is h).connect.taken }) (record past { connects = at_last stopping past.connects })
stops M at q list a p past is some h =
    let k : InHandAt M q p = connect_of M at q a p past is h in
    while_serving M at phase.Serving q (dropping q list) a a p (record p { to_server = k.connect.taken }) past stopping is refl refl refl refl refl
    (λ d now s n.
    let same : d.taken ≡ k.connect.taken = append_cancel_right d.taken k.connect.taken q.window (s.1.taken ∙ sym k.taken) in
    let P : List ℕ → Type 0 = λ put. InPhase M (dropping q list) a (record p { to_server = put }) 1 at.cut (stopping d ∷ []) phase.Serving in
    subst P same (server_stops M q list a p at.cut d some s)) h
