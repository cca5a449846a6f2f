-- Behind an exchange whose server is closed.
use Rattle.std.proofs.Common.{◌≡◌, ◌≢◌, ℕ, List, [], ◌∷◌, ◌++◌, Bool, true, false, not, ◌&&◌, Option, Some, None, sym, ap, subst, ◌∙◌, refl, map, is_none}
use Rattle.std.specs.List.{AllZip}
use Rattle.std.proofs.lemmas.List.{append-nil}
use Rattle.http_model.specs.declared.Close.{Close}
use Rattle.http_model.specs.declared.Close.TheVariants.{Clean, Failed}
use Rattle.http_model.specs.declared.End.{End}
use Rattle.http_model.specs.declared.End.TheVariants as end
use Rattle.http_model.specs.Head.{Message}
use Rattle.http_model.specs.Spelling.{Spells}
use Rattle.session_model.specs.Stream.{Stream, Server, Open, Sent}
use Rattle.session_model.specs.Meaning.{Meaning}
use Rattle.session_model.specs.Asking.{Asker, Request, Sends}
use Rattle.session_model.specs.Answering.{Answered, sent_interim}
use Rattle.session_model.specs.Session.{Exchange, After, Over, Next, ServerGets, after_final, interim_text}
use Rattle.session_model.specs.Session as session
use Rattle.session_core.specs.History.{Past, Coming, Connect, Continues, ContinuesServer, IsPrefix, IsFrontOf, Fronts, sent_of, close_by, prepend}
use Rattle.session_core.specs.Sided.{Sided, RequestSeen, AnswerSeen, Requests, RequestGoes, is_all, AnswerGoes, IsUncut, IsSettled, SourceIs, ToldIs, IsTold, goes_on_with, asker_in, forwarded_to, IsTurned, Turned}
use Rattle.session_core.specs.Stands.{One, IsConnect, Serves, IsOver, InPhase, Holds}
use Rattle.session_core.specs.Leads.{Renews, renewed_at, Follows}
use Rattle.session_core.specs.declared.machine.At.{At}
use Rattle.http_model.specs.declared.Source.{Source}
use Rattle.http_model.specs.declared.Source.TheVariants as source
use Rattle.session_core.specs.declared.Told.{Told}
use Rattle.session_core.specs.declared.Told.TheVariants as told
use Rattle.session_core.specs.declared.Phase.{Phase}
use Rattle.session_core.specs.declared.Phase.TheVariants as phase
use Rattle.session_core.proofs.Finals.{after_closed, after_cut, after_next}
use Rattle.session_core.proofs.Serving.{made, made_asker, rest_some, serves_by, client_gets, client_is_refused}
use Rattle.session_core.proofs.Fronts.{OneServer, one_server}
use Rattle.session_core.proofs.Behind.{Passes}
use Rattle.session_core.proofs.Turning.{ends_by_one, turns_over, holds_next}

-- ---- the exchange

-- what a closed server took: all of the text, or a front of it that isn't all where it stopped
pub record Took (stopped : Bool) (text taken : List ℕ) : Type 0 where
  pub front : IsPrefix taken text
  pub all : stopped ≡ false → taken ≡ text
  pub lacks : stopped ≡ true → taken ≢ text

server_got : (request : Message) (whole stopped : Bool) (close : Close) (text taken : List ℕ) → Spells whole false request text → Took stopped text taken
    → ServerGets request whole stopped close (Some (record { bytes = taken; close = close }) ∷ [])
server_got request whole false close text taken s t = record { text = text; taken = taken; spelled = s; takes = t.all refl; connected = refl }
server_got request whole true close text taken s t = record { text = text; taken = taken; spelled = s; takes = (t.front.0, sym t.front.1, rest_some taken text t.front (t.lacks refl)); connected = refl }

abbrev exchange_of : (M : Meaning) → List ℕ → Close → List ℕ → Option Bool → After M.Vars → Exchange M.Vars
exchange_of M taken close client bit after = record { connects = Some (record { bytes = taken; close = close }) ∷ []; client = client; bit = bit; after = after }

spelled_so : (M : Meaning) (so : Source) (all dropped : Bool) (p : Sided M) (stream : Stream) (g : RequestGoes M so all dropped p.vars p.asking p.to_server stream) (whole : Bool) → is_none (made g).cut ≡ whole → Spells whole false (made g).message g.goes.text
spelled_so M so all dropped p stream g whole e = let P : Bool → Type 0 = λ w. Spells w false (made g).message g.goes.text in subst P e g.goes.spelled

-- an exchange with an open server, from what it serves
served_one : (M : Meaning) (so : Source) (all dropped : Bool) (p : Sided M) (stream server : Stream) (stopped : Bool) (g : RequestGoes M so all dropped p.vars p.asking p.to_server stream) (e : Exchange M.Vars)
    → session.Serves M (made g) server stopped e → One M p.vars stream (Open server stopped ∷ []) e
served_one M so all dropped p stream server stopped g e s =
    record { asked = Sends (forwarded_to p.asking g.rest); asks = g.asks; goes = λ left. (refl, (g.goes.body, g.goes.reads, s)) }

answered_whole : (M : Meaning) (so : Source) (all dropped : Bool) (tell : Told) (done did : Bool) (p : Sided M) (stream server : Stream) (stopped : Bool) (taken : List ℕ)
    (g : RequestGoes M so all dropped p.vars p.asking p.to_server stream) (h : AnswerGoes M tell done did p.asking p.to_client p.now server)
    → (made g).cut ≡ None → Took stopped g.goes.text taken
    → One M p.vars stream (Open server stopped ∷ []) (exchange_of M taken Clean (interim_text h.answered.interim ++ h.final) None (after_final M (made g) true h.answered))
answered_whole M so all dropped tell done did p stream server stopped taken g h none t =
    served_one M so all dropped p stream server stopped g _
    (serves_by M (made g) server stopped (exchange_of M taken Clean (interim_text h.answered.interim ++ h.final) None (after_final M (made g) true h.answered)) None none
    (server_got (made g).message true stopped Clean g.goes.text taken (spelled_so M so all dropped p stream g true (ap is_none none)) t, client_gets M so all dropped tell done did p stream server true g h))

answered_begun : (M : Meaning) (so : Source) (all dropped : Bool) (tell : Told) (done did : Bool) (p : Sided M) (stream server : Stream) (stopped : Bool) (taken : List ℕ) (code : ℕ)
    (g : RequestGoes M so all dropped p.vars p.asking p.to_server stream) (h : AnswerGoes M tell done did p.asking p.to_client p.now server)
    → (made g).cut ≡ Some code → Took stopped g.goes.text taken
    → One M p.vars stream (Open server stopped ∷ []) (exchange_of M taken Failed (interim_text h.answered.interim ++ h.final) (Some true) (after_final M (made g) false h.answered))
answered_begun M so all dropped tell done did p stream server stopped taken code g h cut t =
    served_one M so all dropped p stream server stopped g _
    (serves_by M (made g) server stopped (exchange_of M taken Failed (interim_text h.answered.interim ++ h.final) (Some true) (after_final M (made g) false h.answered)) (Some code) cut
    (server_got (made g).message false stopped Failed g.goes.text taken (spelled_so M so all dropped p stream g false (ap is_none cut)) t, client_gets M so all dropped tell done did p stream server false g h))

refused_before : (M : Meaning) (so : Source) (all dropped done : Bool) (p : Sided M) (stream server : Stream) (stopped : Bool) (taken : List ℕ) (code : ℕ)
    (g : RequestGoes M so all dropped p.vars p.asking p.to_server stream) (t : Turned M done (asker_in p.asking) p.server p.to_client p.saying code)
    → (made g).cut ≡ Some code → Took stopped g.goes.text taken → Continues p.server server
    → One M p.vars stream (Open server stopped ∷ []) (exchange_of M taken Failed (interim_text (sent_interim (asker_in p.asking) t.heads) ++ p.saying.text) (Some false) (Over end.Closed))
refused_before M so all dropped done p stream server stopped taken code g t cut took on =
    served_one M so all dropped p stream server stopped g _
    (serves_by M (made g) server stopped (exchange_of M taken Failed (interim_text (sent_interim (asker_in p.asking) t.heads) ++ p.saying.text) (Some false) (Over end.Closed)) (Some code) cut
    (server_got (made g).message false stopped Failed g.goes.text taken (spelled_so M so all dropped p stream g false (ap is_none cut)) took, client_is_refused M so all dropped p stream server code g on t.heads t.begins p.saying.text t.spelled))

-- ---- the connect in hand

sent_closed : (c : Connect) (close : Close) → c.there ≡ true → c.closed ≡ Some close → sent_of c ≡ Some (record { bytes = c.taken; close = close })
sent_closed c close there closed = rw there (rw closed refl)

fronts_closed : (c : Connect) (close : Close) → c.there ≡ true → c.closed ≡ Some close → Fronts (c ∷ []) [] (map sent_of (c ∷ []))
fronts_closed c close there closed =
    let P : Option Sent → Type 0 = λ s. IsFrontOf (c.taken ++ []) s in
    subst P (sym (sent_closed c close there closed)) ([], append-nil (c.taken ++ []) ∙ append-nil c.taken)

all_of : (sent dropped : Bool) → sent ≡ true → dropped ≡ false → (sent && not dropped) ≡ true
all_of sent dropped s d = rw s (rw d refl)

took_of : (M : Meaning) (q : RequestSeen) (p : Sided M) (c : Connect) (stopped : Bool) (stream : Stream) (g : RequestGoes M q.source (is_all q) q.dropped p.vars p.asking p.to_server stream)
    → q.sent ≡ true → q.window ≡ [] → IsConnect q.dropped q.window p.server p.to_server c → stopped ≡ c.stopped → Took stopped g.goes.text c.taken
took_of M q p c stopped stream g sent window h is =
    let taken : c.taken ≡ p.to_server = sym (append-nil c.taken) ∙ ap (λ xs. c.taken ++ xs) (sym window) ∙ h.taken in
    record {
      front = (g.goes.front.0, ap (λ xs. xs ++ g.goes.front.0) taken ∙ g.goes.front.1);
      all = λ e. taken ∙ g.goes.sent (all_of q.sent q.dropped sent (sym h.stopped ∙ sym is ∙ e));
      lacks = λ e same. g.goes.lacks (sym h.stopped ∙ sym is ∙ e) (sym taken ∙ same);
    }

-- ---- the end

-- a fact of each way to end with one server, from what each stream makes of the exchange
pub record Closes (M : Meaning) (p : Sided M) (c : Connect) (cut : Option Bool) (after : After M.Vars) (stream server : Stream) (stopped : Bool) : Type 0 where
  pub client : List ℕ
  pub one : One M p.vars stream (Open server stopped ∷ []) (exchange_of M c.taken (close_by cut) client cut after)
  pub client_is : client ≡ p.to_client

ends_served : (M : Meaning) (q : RequestSeen) (a : AnswerSeen) (p : Sided M) (hand : ℕ) (cut : Option Bool) (now : List Connect) (how : End)
    → (h : InPhase M q a p hand cut now phase.Served)
    → ((stream server : Stream) (stopped : Bool) → Continues p.came stream → Continues p.server server → stopped ≡ h.2.stopped → Closes M p h.2 cut (Over how) stream server stopped)
    → InPhase M q a p hand cut now (phase.Over how)
ends_served M q a p hand cut now how h closes =
    let c : Connect = h.2 in
    let N : List Connect → Type 0 = λ now. Fronts now [] (map sent_of now) × IsOver M p 1 now cut how in
    let H : ℕ → Type 0 = λ n. IsOver M p n now cut how in
    let o : Fronts now [] (map sent_of now) × IsOver M p 1 now cut how =
    subst N (sym h.4.0) (
      fronts_closed c (close_by cut) h.4.1.there h.3,
      λ stream servers d z.
          let s : OneServer c servers = one_server c servers h.4.1.there z in
          let on : Continues p.server s.stream = let P : Coming → Type 0 = λ c. Continues c s.stream in subst P h.4.1.stream s.continues in
          let k : Closes M p c cut (Over how) stream s.stream s.stopped = closes stream s.stream s.stopped d on s.stopped_is in
          let one : One M p.vars stream servers (exchange_of M c.taken (close_by cut) k.client cut (Over how)) =
          let P : List Server → Type 0 = λ ss. One M p.vars stream ss (exchange_of M c.taken (close_by cut) k.client cut (Over how)) in subst P (sym s.servers_are) k.one in
          ends_by_one M p.vars p.to_client (c ∷ []) cut how stream servers (exchange_of M c.taken (close_by cut) k.client cut (Over how)) one refl k.client_is
          (ap (λ s. s ∷ []) (sym (sent_closed c (close_by cut) h.4.1.there h.3))) refl,
    ) in
    (h.1.taken, o.0, subst H (sym h.0) o.1)

whole_source : (so : Source) → IsUncut so → IsSettled so → so ≡ source.Whole
whole_source source.Going u s = absurd s
whole_source source.Whole u s = refl
whole_source (source.Cut code) u s = absurd u

-- where the answer came from the server
closes_answered : (M : Meaning) (q : RequestSeen) (a : AnswerSeen) (p : Sided M) (cut : Option Bool) (c : Connect) (stream server : Stream) (stopped : Bool) (after : After M.Vars)
    → cut ≢ Some false → q.sent ≡ true → q.window ≡ [] → a.answered ≡ true → IsConnect q.dropped q.window p.server p.to_server c → Serves M q a p cut → IsSettled q.source
    → Continues p.came stream → Continues p.server server → stopped ≡ c.stopped
    → ((request : Request M.Vars) (h : AnswerGoes M a.told a.answered a.begun p.asking p.to_client p.now server) → request.asker ≡ asker_in p.asking → after_final M request (is_none cut) h.answered ≡ after)
    → Closes M p c cut after stream server stopped
closes_answered M q a p None c stream server stopped after other sent window answered is serves settled d on stop follows =
    let g : RequestGoes M q.source (is_all q) q.dropped p.vars p.asking p.to_server stream = serves.0 stream d in
    let h : AnswerGoes M a.told a.answered a.begun p.asking p.to_client p.now server = serves.1.1 server on in
    let none : (made g).cut ≡ None = let P : Source → Type 0 = λ so. SourceIs so (made g).cut in subst P (whole_source q.source serves.2 settled) g.goes.source in
    let A : After M.Vars → Type 0 = λ f. One M p.vars stream (Open server stopped ∷ []) (exchange_of M c.taken Clean (interim_text h.answered.interim ++ h.final) None f) in
    record {
      client = interim_text h.answered.interim ++ h.final;
      one = subst A (follows (made g) h (made_asker M p.asking g.rest g.goes.body)) (answered_whole M q.source (is_all q) q.dropped a.told a.answered a.begun p stream server stopped c.taken g h none (took_of M q p c stopped stream g sent window is stop));
      client_is = sym (h.sent answered);
    }
closes_answered M q a p (Some true) c stream server stopped after other sent window answered is serves settled d on stop follows =
    let g : RequestGoes M q.source (is_all q) q.dropped p.vars p.asking p.to_server stream = serves.0 stream d in
    let h : AnswerGoes M a.told a.answered a.begun p.asking p.to_client p.now server = serves.1.1 server on in
    let cut : (made g).cut ≡ Some serves.2 = let P : Source → Type 0 = λ so. SourceIs so (made g).cut in subst P serves.3 g.goes.source in
    let A : After M.Vars → Type 0 = λ f. One M p.vars stream (Open server stopped ∷ []) (exchange_of M c.taken Failed (interim_text h.answered.interim ++ h.final) (Some true) f) in
    record {
      client = interim_text h.answered.interim ++ h.final;
      one = subst A (follows (made g) h (made_asker M p.asking g.rest g.goes.body)) (answered_begun M q.source (is_all q) q.dropped a.told a.answered a.begun p stream server stopped c.taken serves.2 g h cut (took_of M q p c stopped stream g sent window is stop));
      client_is = sym (h.sent answered);
    }
closes_answered M q a p (Some false) c stream server stopped after other sent window answered is serves settled d on stop follows = absurd (other refl)

closes_turned : (M : Meaning) (q : RequestSeen) (a : AnswerSeen) (p : Sided M) (c : Connect) (stream server : Stream) (stopped : Bool)
    → q.sent ≡ true → q.window ≡ [] → a.answered ≡ true → IsConnect q.dropped q.window p.server p.to_server c → Serves M q a p (Some false) → IsSettled q.source
    → Continues p.came stream → Continues p.server server → stopped ≡ c.stopped
    → Closes M p c (Some false) (Over end.Closed) stream server stopped
closes_turned M q a p c stream server stopped sent window answered is serves settled d on stop =
    let g : RequestGoes M q.source (is_all q) q.dropped p.vars p.asking p.to_server stream = serves.0 stream d in
    let cut : (made g).cut ≡ Some serves.1 = let P : Source → Type 0 = λ so. SourceIs so (made g).cut in subst P serves.2 g.goes.source in
    let t : IsTurned M a p serves.1 = serves.3 in
    record {
      client = interim_text (sent_interim (asker_in p.asking) t.heads) ++ p.saying.text;
      one = refused_before M q.source (is_all q) q.dropped a.answered p stream server stopped c.taken serves.1 g t cut (took_of M q p c stopped stream g sent window is stop) on;
      client_is = sym (sym (append-nil p.to_client) ∙ ap (λ xs. p.to_client ++ xs) (sym (t.sent answered)) ∙ t.said);
    }

-- ---- the parts of work

told_in : (M : Meaning) (q : RequestSeen) (a : AnswerSeen) (p : Sided M) (cut : Option Bool) → cut ≢ Some false → Serves M q a p cut → a.answered ≡ true → IsTold a.told
told_in M q a p None other s e = s.1.0 e
told_in M q a p (Some true) other s e = s.1.0 e
told_in M q a p (Some false) other s e = absurd (other refl)

in_served : (M : Meaning) (at : At) (q : RequestSeen) (a : AnswerSeen) (p : Sided M) (hand : ℕ) (now : List Connect) → at.phase ≡ phase.Served → InPhase M q a p hand at.cut now at.phase → InPhase M q a p hand at.cut now phase.Served
in_served M at q a p hand now is f = let P : Phase → Type 0 = λ ph. InPhase M q a p hand at.cut now ph in subst P is f

pub served_turned : (M : Meaning) (at : At) (q : RequestSeen) (a : AnswerSeen) (p : Sided M) (past : Past)
    → at.phase ≡ phase.Served → at.cut ≡ Some false → Holds M at q a p past → Holds M (record at { phase = phase.Over end.Closed }) q a p (record past { note = at.cut })
served_turned M at q a p past is cut h =
    turns_over M at (phase.Over end.Closed) q a p past
    (λ hand now f. by at.cut cut hand now (in_served M at q a p hand now is f)) h
  where
    by : (was : Option Bool) → was ≡ Some false → (hand : ℕ) (now : List Connect) → InPhase M q a p hand was now phase.Served → InPhase M q a p hand was now (phase.Over end.Closed)
    by was e hand now f =
        let P : Option Bool → Type 0 = λ w. InPhase M q a p hand w now phase.Served in
        let Q : Option Bool → Type 0 = λ w. InPhase M q a p hand w now (phase.Over end.Closed) in
        let k : InPhase M q a p hand (Some false) now phase.Served = subst P e f in
        subst Q (sym e) (ends_served M q a p hand (Some false) now end.Closed k
        (λ stream server stopped d on stop. closes_turned M q a p k.2 stream server stopped k.1.all_sent k.1.taken k.1.all_answered k.4.1 k.4.2 (k.4.3.settled k.1.all_sent) d on stop))

pub served_over : (M : Meaning) (at : At) (q : RequestSeen) (a : AnswerSeen) (p : Sided M) (past : Past) (how : End)
    → at.phase ≡ phase.Served → at.cut ≢ Some false
    → ((request : Request M.Vars) (answered : Answered M.Vars) → ToldIs M a.told p.now answered.final → IsTold a.told → request.asker ≡ asker_in p.asking → after_final M request (is_none at.cut) answered ≡ Over how)
    → Holds M at q a p past → Holds M (record at { phase = phase.Over how }) q a p (record past { note = at.cut })
served_over M at q a p past how is other follows h =
    turns_over M at (phase.Over how) q a p past
    (λ hand now f.
    let k : InPhase M q a p hand at.cut now phase.Served = in_served M at q a p hand now is f in
    ends_served M q a p hand at.cut now how k
    (λ stream server stopped d on stop.
    closes_answered M q a p at.cut k.2 stream server stopped (Over how) other k.1.all_sent k.1.taken k.1.all_answered k.4.1 k.4.2 (k.4.3.settled k.1.all_sent) d on stop
    (λ request g e. follows request g.answered g.told (told_in M q a p at.cut other k.4.2 k.1.all_answered) e))) h

pub served_cut : (M : Meaning) (at : At) (q : RequestSeen) (a : AnswerSeen) (p : Sided M) (past : Past)
    → at.phase ≡ phase.Served → at.cut ≢ Some false → a.told ≡ told.Cut → Holds M at q a p past → Holds M (record at { phase = phase.Over end.Cut }) q a p (record past { note = at.cut })
served_cut M at q a p past is other cut h =
    served_over M at q a p past end.Cut is other
    (λ request answered t _ e. let P : Told → Type 0 = λ so. ToldIs M so p.now answered.final in after_cut M request (is_none at.cut) answered (subst P cut t)) h

pub served_closed : (M : Meaning) (at : At) (q : RequestSeen) (a : AnswerSeen) (p : Sided M) (past : Past)
    → at.phase ≡ phase.Served → at.cut ≢ Some false → a.told ≢ told.Cut → (a.told ≡ told.Whole → (is_none at.cut && (asker_in p.asking).keep) ≡ false)
    → Holds M at q a p past → Holds M (record at { phase = phase.Over end.Closed }) q a p (record past { note = at.cut })
served_closed M at q a p past is other uncut closed h =
    served_over M at q a p past end.Closed is other
    (λ request answered t so e. after_closed M request (is_none at.cut) answered p.now a.told t so uncut (λ w. ap (λ (r : Asker). is_none at.cut && r.keep) e ∙ closed w)) h

none_in : (M : Meaning) (q : RequestSeen) (a : AnswerSeen) (p : Sided M) (cut : Option Bool) → cut ≡ None → Serves M q a p cut → Serves M q a p None
none_in M q a p cut is h = let P : Option Bool → Type 0 = λ c. Serves M q a p c in subst P is h

-- what the next exchange needs of the request direction
pub record Ready (M : Meaning) (q : RequestSeen) (p : Sided M) : Type 0 where
  pub requests : Requests M q p
  pub source : q.source ≡ source.Whole
  pub sent : q.sent ≡ true

pub ready : (M : Meaning) (at : At) (q : RequestSeen) (a : AnswerSeen) (p : Sided M) (past : Past)
    → at.phase ≡ phase.Served → at.cut ≡ None → Holds M at q a p past → Ready M q p
ready M at q a p past is none h =
    let k : InPhase M q a p h.hand at.cut h.now phase.Served = in_served M at q a p h.hand h.now is h.phase in
    let s : Serves M q a p None = none_in M q a p at.cut none k.4.2 in
    record { requests = s.0; source = whole_source q.source s.2 (k.4.3.settled k.1.all_sent); sent = k.1.all_sent }

pub served_next : (M : Meaning) (S : Sided M → Type 0) (at : At) (q r : RequestSeen) (a b : AnswerSeen) (p : Sided M) (past : Past)
    → at.phase ≡ phase.Served → at.cut ≡ None → a.told ≡ told.Whole → (asker_in p.asking).keep ≡ true → r.is_open ≡ q.is_open → r.window ≡ [] → b.window ≡ a.window → (re : Renews M S q p)
    → Holds M at q a p past → Holds M (record at { phase = phase.Reading }) r b (renewed_at p re.left) (record past { note = at.cut })
served_next M S at q r a b p past is none whole keep opened window same re h =
    holds_next M at q r a b p past re.used re.left p.to_client (renewed_at p re.left) refl opened window same none re.whole.came
    (λ hand now f.
    let k : InPhase M q a p hand at.cut now phase.Served = in_served M at q a p hand now is f in
    let c : Connect = k.2 in
    let closed : c.closed ≡ Some Clean = k.3 ∙ ap (λ n. Some (close_by n)) none in
    let s : Serves M q a p None = none_in M q a p at.cut none k.4.2 in
    let F : List Connect → Type 0 = λ now. Fronts now [] (map sent_of now) in
    let G : List Connect → Type 0 = λ now. (rest : Stream) (servers : List Server) → Continues re.left rest → AllZip ContinuesServer now servers → Passes M p.vars re.used rest servers (M.renewed p.now) p.to_client (map sent_of now) in (
      k.0,
      subst F (sym k.4.0) (fronts_closed c Clean k.4.1.there closed),
      subst G (sym k.4.0) (λ rest servers d z.
          let o : OneServer c servers = one_server c servers k.4.1.there z in
          let on : Continues p.server o.stream = let P : Coming → Type 0 = λ c. Continues c o.stream in subst P k.4.1.stream o.continues in
          passes c rest servers o on (re.whole.goes rest d) (s.1.1 o.stream on) k.1.all_sent k.1.taken k.1.all_answered k.4.1 closed),
    )) h
  where
    passes : (c : Connect) (rest : Stream) (servers : List Server) (o : OneServer c servers) → Continues p.server o.stream
        → ((g : RequestGoes M q.source (is_all q) q.dropped p.vars p.asking p.to_server (prepend re.used rest)) × ((made g).cut ≡ None) × ((made g).rest ≡ rest))
        → AnswerGoes M a.told a.answered a.begun p.asking p.to_client p.now o.stream
        → q.sent ≡ true → q.window ≡ [] → a.answered ≡ true → IsConnect q.dropped q.window p.server p.to_server c → c.closed ≡ Some Clean
        → Passes M p.vars re.used rest servers (M.renewed p.now) p.to_client (map sent_of (c ∷ []))
    passes c rest servers o on w h sent taken answered is closed =
        let t : goes_on_with M h.answered.final ≡ Some p.now = let P : Told → Type 0 = λ so. ToldIs M so p.now h.answered.final in subst P whole h.told in
        let same : (made w.0).asker ≡ asker_in p.asking = made_asker M p.asking w.0.rest w.0.goes.body in
        let kept : (true && (made w.0).asker.keep) ≡ true = ap (λ (r : Asker). true && r.keep) same ∙ ap (λ k. true && k) keep in
        let e : Exchange M.Vars = exchange_of M c.taken Clean (interim_text h.answered.interim ++ h.final) None (after_final M (made w.0) true h.answered) in
        let one : One M p.vars (prepend re.used rest) (Open o.stream o.stopped ∷ []) e =
        answered_whole M q.source (is_all q) q.dropped a.told a.answered a.begun p (prepend re.used rest) o.stream o.stopped c.taken w.0 h w.1 (took_of M q p c o.stopped (prepend re.used rest) w.0 sent taken is o.stopped_is) in
        record {
          exchange = e;
          one = let P : List Server → Type 0 = λ ss. One M p.vars (prepend re.used rest) ss e in subst P (sym o.servers_are) one;
          goes_on = after_next M (made w.0) true h.answered p.now t kept ∙ ap (λ r. Next r (M.renewed p.now)) w.2;
          text_is = sym (h.sent answered);
          sent_is = ap (λ s. s ∷ []) (sym (sent_closed c Clean is.there closed));
          uncut = refl;
        }

pub served_ends : (M : Meaning) (at : At) (q : RequestSeen) (a : AnswerSeen) (p : Sided M) (past : Past) (how : End)
    → at.phase ≡ phase.Served → at.cut ≢ Some false → Follows a.told at.cut (asker_in p.asking).keep (Some how)
    → Holds M at q a p past → Holds M (record at { phase = phase.Over how }) q a p (record past { note = at.cut })
served_ends M at q a p past end.Done is other f h = absurd f
served_ends M at q a p past end.Cut is other f h = served_cut M at q a p past is other f h
served_ends M at q a p past end.Closed is other f h = served_closed M at q a p past is other f.0 f.1 h
