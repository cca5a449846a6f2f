-- The exchange in hand, while its server is open.
use Rattle.std.proofs.Common.{◌≡◌, ◌≢◌, ℕ, List, [], ◌∷◌, ◌++◌, Bool, true, false, Option, Some, None, sym, ap, subst, ◌∙◌, refl, is_none}
use Rattle.std.proofs.lemmas.List.{append-nil}
use Rattle.http_model.specs.declared.Close.{Close}
use Rattle.http_model.specs.declared.Close.TheVariants.{Clean, Failed}
use Rattle.http_model.specs.declared.End.TheVariants as end
use Rattle.http_model.specs.Head.{Head, Message}
use Rattle.http_model.specs.Reading.{BodyReading}
use Rattle.http_model.specs.Reading as reading
use Rattle.http_model.specs.Spelling.{Spells}
use Rattle.session_model.specs.Stream.{Stream, Open, Sent}
use Rattle.session_model.specs.Meaning.{Meaning}
use Rattle.session_model.specs.Asking.{Asker, Request, Sends}
use Rattle.session_model.specs.Answering.{AnswersFrom, BeginsWithInterim, sent_interim}
use Rattle.session_model.specs.Session.{Exchange, After, Over, ServerGets, ClientGets, ClientIsRefused, SpellsFinal, SpellsRefusal, after_final, interim_text}
use Rattle.session_model.specs.Session as session
use Rattle.session_core.specs.History.{Continues, IsPrefix, BitFits}
use Rattle.session_core.specs.Sided.{Sided, Asking, asker_in, forwarded_to, request_to, RequestGoes, AnswerGoes, BeginsAlways}
use Rattle.session_core.specs.Stands.{One}
use Rattle.http_model.specs.declared.Source.{Source}
use Rattle.session_core.specs.declared.Told.{Told}

-- ---- the request that a stream brings

abbrev pub made : {M : Meaning} {so : Source} {all dropped : Bool} {vars : M.Vars} {asking : Asking M.Vars} {put : List ℕ} {stream : Stream} → RequestGoes M so all dropped vars asking put stream → Request M.Vars
made {M} {asking} g = request_to M asking g.rest g.goes.body

pub made_asker : (M : Meaning) (asking : Asking M.Vars) (rest : Stream) (body : BodyReading) → (request_to M asking rest body).asker ≡ asker_in asking
made_asker M asking rest (reading.Whole body trailers left) = refl
made_asker M asking rest (reading.Broke body) = refl
made_asker M asking rest (reading.Bad body) = refl

pub made_vars : (M : Meaning) (asking : Asking M.Vars) (rest : Stream) (body : BodyReading) → (request_to M asking rest body).vars ≡ asking.vars
made_vars M asking rest (reading.Whole body trailers left) = refl
made_vars M asking rest (reading.Broke body) = refl
made_vars M asking rest (reading.Bad body) = refl

-- ---- by the cut of the request

-- the session's own cases, with the cut apart
abbrev by_cut : (M : Meaning) → Request M.Vars → Stream → (stopped : Bool) → Exchange M.Vars → Option ℕ → Option Bool → Type 0
by_cut M request server stopped e None None =
    ServerGets request.message true stopped Clean e.connects × ClientGets M request true server e.client e.after
by_cut M request server stopped e None (Some begun) = ⊥
by_cut M request server stopped e (Some code) None = ⊥
by_cut M request server stopped e (Some code) (Some true) =
    ServerGets request.message false stopped Failed e.connects × ClientGets M request false server e.client e.after
by_cut M request server stopped e (Some code) (Some false) =
    ServerGets request.message false stopped Failed e.connects × ClientIsRefused M request code server e.client e.after

pub serves_by : (M : Meaning) (request : Request M.Vars) (server : Stream) (stopped : Bool) (e : Exchange M.Vars) (cut : Option ℕ)
    → request.cut ≡ cut → by_cut M request server stopped e cut e.bit → session.Serves M request server stopped e
serves_by M request server stopped e cut is h =
    let P : Option ℕ → Type 0 = λ cut. by_cut M request server stopped e cut e.bit in subst P (sym is) h

-- ---- the server's text

-- what follows a front that isn't all
pub rest_some : (put text : List ℕ) (f : IsPrefix put text) → put ≢ text → f.0 ≢ []
rest_some put text f n e = n (sym (append-nil put) ∙ ap (λ xs. put ++ xs) (sym e) ∙ f.1)

-- what a server gets of a text of which this was put out
pub record Gets (request : Message) (whole stopped : Bool) (close : Close) (put : List ℕ) : Type 0 where
  pub sent : List ℕ
  pub gets : ServerGets request whole stopped close (Some (record { bytes = sent; close = close }) ∷ [])
  pub front : IsPrefix put sent

gets : (request : Message) (whole stopped : Bool) (close : Close) (put text : List ℕ) → Spells whole false request text → IsPrefix put text → (stopped ≡ true → put ≢ text)
    → Gets request whole stopped close put
gets request whole false close put text s f n =
    record { sent = text; gets = record { text = text; taken = text; spelled = s; takes = refl; connected = refl }; front = f }
gets request whole true close put text s f n =
    record { sent = put; gets = record { text = text; taken = put; spelled = s; takes = (f.0, sym f.1, rest_some put text f (n refl)); connected = refl }; front = ([], append-nil put) }

-- ---- the whole exchange

-- an exchange with an open server of which this was put out
pub record InHand (M : Meaning) (p : Sided M) (cut : Option Bool) (begun : Bool) (stream server : Stream) (stopped : Bool) : Type 0 where
  pub exchange : Exchange M.Vars
  pub one : One M p.vars stream (Open server stopped ∷ []) exchange
  pub client : IsPrefix p.to_client exchange.client
  pub sent : Sent
  pub connects : exchange.connects ≡ Some sent ∷ []
  pub to_server : IsPrefix p.to_server sent.bytes
  pub bit : BitFits cut begun exchange.bit

in_hand : (M : Meaning) (so : Source) (all dropped : Bool) (p : Sided M) (stream server : Stream) (stopped : Bool) (cut : Option Bool) (begun whole : Bool) (close : Close) (bit : Option Bool)
    → (g : RequestGoes M so all dropped p.vars p.asking p.to_server stream) → is_none (made g).cut ≡ whole → stopped ≡ dropped
    → BitFits cut begun bit
    → (client : List ℕ) (after : After M.Vars) → IsPrefix p.to_client client
    → ((connects : List (Option Sent)) → ServerGets (made g).message whole stopped close connects
    → session.Serves M (made g) server stopped (record { connects = connects; client = client; bit = bit; after = after }))
    → InHand M p cut begun stream server stopped
in_hand M so all dropped p stream server stopped cut begun whole close bit g is halts fits client after front serves =
    let spelled : Spells whole false (made g).message g.goes.text = let P : Bool → Type 0 = λ w. Spells w false (made g).message g.goes.text in subst P is g.goes.spelled in
    let s : Gets (made g).message whole stopped close p.to_server = gets (made g).message whole stopped close p.to_server g.goes.text spelled g.goes.front (λ e. g.goes.lacks (sym halts ∙ e)) in
    record {
      exchange = record { connects = Some (record { bytes = s.sent; close = close }) ∷ []; client = client; bit = bit; after = after };
      one = record { asked = Sends (forwarded_to p.asking g.rest); asks = g.asks; goes = λ left. (refl, (g.goes.body, g.goes.reads, serves (Some (record { bytes = s.sent; close = close }) ∷ []) s.gets)) };
      client = front;
      sent = record { bytes = s.sent; close = close };
      connects = refl;
      to_server = s.front;
      bit = fits;
    }

-- the client gets the answer
pub client_gets : (M : Meaning) (so : Source) (all dropped : Bool) (tell : Told) (done did : Bool) (p : Sided M) (stream server : Stream) (whole : Bool) (g : RequestGoes M so all dropped p.vars p.asking p.to_server stream) (h : AnswerGoes M tell done did p.asking p.to_client p.now server)
    → ClientGets M (made g) whole server (interim_text h.answered.interim ++ h.final) (after_final M (made g) whole h.answered)
client_gets M so all dropped tell done did p stream server whole g h =
    let A : Asker → Type 0 = λ r. AnswersFrom M r (made g).vars server h.answered in
    let V : M.Vars → Type 0 = λ v. AnswersFrom M (asker_in p.asking) v server h.answered in
    let F : Asker → Type 0 = λ r. SpellsFinal M r h.answered.final h.final in
    record {
      answered = h.answered;
      answers = subst A (sym (made_asker M p.asking g.rest g.goes.body)) (subst V (sym (made_vars M p.asking g.rest g.goes.body)) h.answers);
      final = h.final;
      spelled = subst F (sym (made_asker M p.asking g.rest g.goes.body)) h.spelled;
      text = refl;
      goes_on = refl;
    }

-- where the request comes whole, or is cut once the answer has begun
pub answered_in_hand : (M : Meaning) (so : Source) (all dropped : Bool) (tell : Told) (done did : Bool) (p : Sided M) (stream server : Stream) (stopped : Bool) (cut : Option Bool) (begun : Bool)
    (g : RequestGoes M so all dropped p.vars p.asking p.to_server stream) → AnswerGoes M tell done did p.asking p.to_client p.now server → stopped ≡ dropped → (was : Option ℕ) → (made g).cut ≡ was
    → (was ≡ None → BitFits cut begun None) → ((code : ℕ) → was ≡ Some code → BitFits cut begun (Some true))
    → InHand M p cut begun stream server stopped
answered_in_hand M so all dropped tell done did p stream server stopped cut begun g h halts None is none some =
    in_hand M so all dropped p stream server stopped cut begun true Clean None g (ap is_none is) halts (none refl)
    (interim_text h.answered.interim ++ h.final) (after_final M (made g) true h.answered) h.front
    (λ connects s. serves_by M (made g) server stopped (record { connects = connects; client = interim_text h.answered.interim ++ h.final; bit = None; after = after_final M (made g) true h.answered }) None is (s, client_gets M so all dropped tell done did p stream server true g h))
answered_in_hand M so all dropped tell done did p stream server stopped cut begun g h halts (Some code) is none some =
    in_hand M so all dropped p stream server stopped cut begun false Failed (Some true) g (ap is_none is) halts (some code refl)
    (interim_text h.answered.interim ++ h.final) (after_final M (made g) false h.answered) h.front
    (λ connects s. serves_by M (made g) server stopped (record { connects = connects; client = interim_text h.answered.interim ++ h.final; bit = Some true; after = after_final M (made g) false h.answered }) (Some code) is (s, client_gets M so all dropped tell done did p stream server false g h))

pub client_is_refused : (M : Meaning) (so : Source) (all dropped : Bool) (p : Sided M) (stream server : Stream) (code : ℕ) (g : RequestGoes M so all dropped p.vars p.asking p.to_server stream) → Continues p.server server
    → (heads : List Head) → BeginsAlways M (asker_in p.asking) p.server heads → (refused : List ℕ) → SpellsRefusal code (asker_in p.asking).head_asked refused
    → ClientIsRefused M (made g) code server (interim_text (sent_interim (asker_in p.asking) heads) ++ refused) (Over end.Closed)
client_is_refused M so all dropped p stream server code g on heads begins refused spelled =
    let A : Asker → Type 0 = λ r. BeginsWithInterim M r heads server.bytes (λ rest. Unit {0}) in
    let R : Asker → Type 0 = λ r. SpellsRefusal code r.head_asked refused in
    record {
      heads = heads;
      front = subst A (sym (made_asker M p.asking g.rest g.goes.body)) (begins server on);
      refused = refused;
      spelled = subst R (sym (made_asker M p.asking g.rest g.goes.body)) spelled;
      text = ap (λ r. interim_text (sent_interim r heads) ++ refused) (sym (made_asker M p.asking g.rest g.goes.body));
      goes_on = refl;
    }

-- where the request is cut before the answer has begun
pub refused_in_hand : (M : Meaning) (so : Source) (all dropped : Bool) (p : Sided M) (stream server : Stream) (stopped : Bool) (cut : Option Bool) (begun : Bool) (code : ℕ)
    (g : RequestGoes M so all dropped p.vars p.asking p.to_server stream) → stopped ≡ dropped → (made g).cut ≡ Some code → BitFits cut begun (Some false) → Continues p.server server
    → (heads : List Head) → BeginsAlways M (asker_in p.asking) p.server heads → (refused : List ℕ) → SpellsRefusal code (asker_in p.asking).head_asked refused
    → IsPrefix p.to_client (interim_text (sent_interim (asker_in p.asking) heads) ++ refused)
    → InHand M p cut begun stream server stopped
refused_in_hand M so all dropped p stream server stopped cut begun code g halts is fits on heads begins refused spelled front =
    in_hand M so all dropped p stream server stopped cut begun false Failed (Some false) g (ap is_none is) halts fits
    (interim_text (sent_interim (asker_in p.asking) heads) ++ refused) (Over end.Closed) front
    (λ connects s. serves_by M (made g) server stopped (record { connects = connects; client = interim_text (sent_interim (asker_in p.asking) heads) ++ refused; bit = Some false; after = Over end.Closed }) (Some code) is
    (s, client_is_refused M so all dropped p stream server code g on heads begins refused spelled))
