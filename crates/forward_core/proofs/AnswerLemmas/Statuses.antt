-- The status of what a client is sent.
use Rattle.std.proofs.Common.{◌≡◌, ℕ, List, [], ◌∷◌, ◌++◌, Bool, true, false, refl, sym, ap, ◌∙◌, subst, map, if◌then◌else◌}
use Rattle.std.specs.Prelude.{Option, Some, None}
use Rattle.std.specs.List.{AllByRecursion}
use Rattle.std.proofs.lemmas.List.{append-nil}
use Rattle.htx_model.specs.Block.{Block}
use Rattle.htx_view.specs.Lines.{status_in, status_number}
use Rattle.h1_head.specs.Response.{ResponseOf}
use Rattle.h1_head.specs.Kind.{response_parts_of}
use Rattle.h1_head.specs.Rows.{response_refusal_of, response_framing_of, status_line}
use Rattle.http_model.specs.declared.Ending.{Ending}
use Rattle.http_model.specs.declared.Ending.TheVariants as ending
use Rattle.http_model.specs.declared.Limits.{Limits}
use Rattle.http_model.specs.Finish.{finish_interim}
use Rattle.http_model.specs.Head.{Head, StartLine, RequestLine, StatusLine, head_blocks, front_blocks, line_block}
use Rattle.http_model.specs.Reading.{BodyReading, Received, Begins, Whole, Broke, Bad}
use Rattle.http_model.specs.Spelling.{head_text}
use Rattle.px_sample.specs.Variables.{Variables}
use Rattle.http_rules.specs.declared.config.Config.{Config}
use Rattle.http_rules.specs.Lives.{answering}
use Rattle.forward_core.specs.Meaning.Product.{meaning_of}
use Rattle.session_model.specs.Env.{response_env}
use Rattle.session_model.specs.Stream.{Stream}
use Rattle.session_model.specs.Meaning.{is_interim}
use Rattle.session_model.specs.Asking.{Asker}
use Rattle.session_model.specs.Answering.{sent_interim, finished_response, answer_by}
use Rattle.session_model.specs.Session.{SpellsFinal, interim_text}
use Rattle.session_core.specs.History.{Coming}
use Rattle.session_core.specs.Lanes.{IsTotalAnswers}
use Rattle.session_core.specs.Sided.{Asking, asker_in, Saying}
use Rattle.session_core.specs.Statuses.{BeginsWithStatus, TellsStatus}
use Rattle.lane.specs.Direction.Promise.{Promise}
use Rattle.lane.specs.Direction.Sends.{Past, Stands}
use Rattle.lane.specs.Answering.{Exchange, BeginsWithInterim, Answers, AnswersLast, AnswerPromise, Replies, has_begun, stage_of}
use Rattle.lane.specs.declared.response_lane.ResponseLane.{ResponseLane}
use Rattle.forward_core.specs.Answer.Seen.{is_done, answered_at, status_at, seen}
use Rattle.forward_core.specs.Answer.Stands.{IsInHand, IsResponse, IsFor, StandsAt, AnswerStands, list_text, is_serving}
use Rattle.forward_core.specs.Answer.Begins.{HasStatus, has_status, told_number, head_begins, begins_on, list_begins}
use Rattle.forward_core.specs.Answer.Status.{ShowsStatus, is_status_line, line_status, last_status}
use Rattle.forward_core.specs.declared.answer.place.Place.{Place}
use Rattle.forward_core.specs.declared.answer.place.Place.TheVariants as place
use Rattle.forward_core.specs.declared.answer.side.AnswerSide.{AnswerSide}
use Rattle.forward_core.proofs.AnswerLemmas.Answering.{answering_at, response_goes}
use Rattle.forward_core.proofs.AnswerLemmas.Bodies.{body_goes, done_is}
use Rattle.forward_core.proofs.AnswerLemmas.Heads.{More}
use Rattle.forward_core.proofs.AnswerLemmas.Lines.{passed_line, edited_line}
use Rattle.forward_core.proofs.BoundsLemmas.Heads.{kept_where_decided}
use Rattle.forward_core.proofs.AnswerLemmas.Texts.{ListGoes, list_goes}

-- ---- of a list

line_first : (line : StartLine) (blocks : List Block) → status_in (line_block line ∷ blocks) ≡ line_status line
line_first (RequestLine m t v) blocks = refl
line_first (StatusLine v s r) blocks = refl

pub status_front : (head : Head) (body : List ℕ) → status_in (front_blocks head body) ≡ line_status head.line
status_front head body = line_first head.line _

pub status_head : (head : Head) → status_in (head_blocks head) ≡ line_status head.line
status_head head = line_first head.line _

-- ---- interim heads

each_interim : (asked : Bool) (limits : Limits) (heads : List Head) (bytes : List ℕ) (P : List ℕ → Type 0) → BeginsWithInterim asked limits heads bytes P → AllByRecursion (λ head. is_interim head ≡ true) heads
each_interim asked limits [] bytes P h = tt
each_interim asked limits (head ∷ heads) bytes P h = (ap (λ (x : Head). is_interim x) h.4 ∙ h.3, each_interim asked limits heads h.1 P h.5)

finished_interim : (heads : List Head) → AllByRecursion (λ head. is_interim head ≡ true) heads → AllByRecursion (λ head. is_interim head ≡ true) (map finish_interim heads)
finished_interim [] h = tt
finished_interim (head ∷ heads) h = (h.0, finished_interim heads h.1)

sent_are : (eleven : Bool) (heads : List Head) → AllByRecursion (λ head. is_interim head ≡ true) heads → AllByRecursion (λ head. is_interim head ≡ true) (if eleven then map finish_interim heads else [])
sent_are true heads h = finished_interim heads h
sent_are false heads h = tt

interim_sent : (asker : Asker) (lane : ResponseLane) (e : Exchange) → AnswerPromise lane e → AllByRecursion (λ head. is_interim head ≡ true) (sent_interim asker e.read)
interim_sent asker lane e promise = sent_are asker.is_http_11 e.read (each_interim e.asked lane.lane.limits e.read (e.bytes ++ []) _ (promise.came.1 [] (λ over. refl)))

-- ---- of a list in place of a response

list_tells : (status : Option ℕ) (asker : Asker) (lane : ResponseLane) (server : Coming) (put : List ℕ) (e : Exchange) (head : Head) (body : List ℕ) (no_body : Bool) → IsInHand asker lane server put e → ShowsStatus status lane e
    → is_status_line head.line ≡ true → e.last ≡ Replies head body no_body → AnswerPromise lane e → TellsStatus (is_done (stage_of lane)) put status
list_tells status asker lane server put e head body no_body h shows line last promise =
    let s : HasStatus head = has_status head line in
    let g : ListGoes lane e (list_text no_body head body) = list_goes lane e head body no_body shows.shows last h.answers promise in
    let number : status ≡ Some (status_number s.status) = shows.told ∙ ap last_status last ∙ told_number head s in
    let text : List ℕ = list_text no_body head body in
    let said : put ++ g.left ≡ interim_text (sent_interim asker e.read) ++ text = ap (λ xs. xs ++ g.left) (sym h.put_is) ∙ g.said ∙ ap (λ hs. interim_text hs ++ text) h.passed in
    subst (λ (x : Option ℕ). TellsStatus (is_done (stage_of lane)) put x) (sym number)
    (record {
      heads = sent_interim asker e.read;
      interim = interim_sent asker lane e promise;
      text = text;
      begins = list_begins no_body head body s;
      front = (g.left, said);
      sent = λ done. sym (append-nil put) ∙ ap (λ xs. put ++ xs) (sym (g.sent (done_is (stage_of lane) done))) ∙ said;
    })

-- ---- of the server's response

-- a received head is that of a response
received_line : (asked : Bool) (limits : Limits) (bytes : List ℕ) (got : Received) (rest : List ℕ) → ResponseOf asked limits bytes (Begins got rest) → is_status_line got.head.line ≡ true
received_line asked limits bytes got rest (h, begins, decides) =
    let p = response_parts_of h in
    subst (λ (x : Received). is_status_line x.head.line ≡ true) (kept_where_decided (response_refusal_of p) (response_framing_of asked p) limits (status_line p) p.fields got decides) refl

-- the stream goes on with nothing
abbrev stopped : Option Ending → Ending
stopped None = ending.Closed
stopped (Some how) = how

stops : (o : Option Ending) (how : Ending) → o ≡ Some how → stopped o ≡ how
stops o how e = ap stopped e

nothing_more : (o : Option Ending) (bytes : List ℕ) → More o bytes (record { bytes = bytes; ending = stopped o })
nothing_more o bytes = record { more = []; bytes = sym (append-nil bytes); over = λ e. refl; ends = λ how e. stops o how e }

-- its text begins with its head
record HasHead (head : Head) (text : List ℕ) : Type 0 where
  pub body : List ℕ
  pub is : text ≡ head_text head ++ body

spelled_head : (cfg : Config) (asker : Asker) (received : Received) (head : Head) (vars : Variables) (body : BodyReading) (text : List ℕ) → SpellsFinal (meaning_of cfg) asker (answer_by (meaning_of cfg) asker received head vars body) text
    → HasHead (finished_response (meaning_of cfg) asker received head) text
spelled_head cfg asker received head vars (Whole bytes trailers rest) text s = record { body = s.body; is = s.spelled }
spelled_head cfg asker received head vars (Broke bytes) text s = record { body = s.body; is = s.spelled }
spelled_head cfg asker received head vars (Bad bytes) text s = record { body = s.body; is = s.spelled }

response_line : (cfg : Config) (asker : Asker) (before now : Variables) (e : Exchange) (r : IsResponse cfg asker before now e) → is_status_line r.received.head.line ≡ true → is_status_line r.head.line ≡ true
response_line cfg asker before now e r line =
    edited_line cfg.limits.bufsize cfg.after r.at r.head now r.after (passed_line cfg.limits.bufsize cfg.response (response_env before asker.method r.received.head) r.at r.rules line)

response_tells : (status : Option ℕ) (cfg : Config) (asker : Asker) (before : Variables) (lane : ResponseLane) (server : Coming) (put : List ℕ) (e : Exchange) (now : Variables) → IsTotalAnswers (meaning_of cfg) → IsFor cfg lane → IsInHand asker lane server put e
    → ShowsStatus status lane e → AnswersLast lane e → ((q : Past) → Stands lane.lane q → Promise lane.lane q) → AnswerPromise lane e → IsResponse cfg asker before now e → TellsStatus (is_done (stage_of lane)) put status
response_tells status cfg asker before lane server put e now total for h shows a promises promise r =
    let g = response_goes cfg asker before lane server put e now for h a promises r in
    let done : Head = finished_response (meaning_of cfg) asker r.received r.head in
    let received : is_status_line r.received.head.line ≡ true = received_line asker.head_asked cfg.limits (g.left ++ []) r.received (g.past.bytes ++ []) (g.reads [] (λ over. refl)) in
    let s : HasStatus done = has_status done (response_line cfg asker before now e r received) in
    let number : status ≡ Some (status_number s.status) = shows.told ∙ ap last_status r.last ∙ told_number done s in
    let behind : Stream = record { bytes = g.past.bytes; ending = stopped lane.lane.ended } in
    let body = total.bodies r.received.framing behind.bytes behind.ending in
    let b = body_goes cfg asker r.received r.head now (interim_text (sent_interim asker e.read)) put (has_begun lane) lane.lane g.past g.text g.serving behind (nothing_more lane.lane.ended g.past.bytes) body.0 body.1 in
    let t : HasHead done b.text = spelled_head cfg asker r.received r.head now b.body b.text b.spelled in
    subst (λ (x : Option ℕ). TellsStatus (is_done (stage_of lane)) put x) (sym number)
    (record {
      heads = sent_interim asker e.read;
      interim = interim_sent asker lane e promise;
      text = b.text;
      begins = subst (λ (text : List ℕ). BeginsWithStatus text (status_number s.status)) (sym t.is) (begins_on (head_text done) t.body _ (head_begins done s));
      front = b.front;
      sent = b.sent;
    })

-- ---- the whole

tells_at : (at : Place) (status : Option ℕ) (cfg : Config) (asking : Asking Variables) (lane : ResponseLane) (server : Coming) (put : List ℕ) (now : Variables) (saying : Saying) → IsTotalAnswers (meaning_of cfg)
    → ((e : Exchange) → Answers lane e → AnswerPromise lane e) → ((q : Past) → Stands lane.lane q → Promise lane.lane q) → IsFor cfg lane → is_serving at ≡ true
    → StandsAt at status cfg (asker_in asking) (answering asking.vars) lane server put now saying → TellsStatus (answered_at at (stage_of lane)) put (status_at at status)
tells_at place.Idle status cfg asking lane server put now saying total promise promises for serves s = absurd (let both : false ≡ true = serves in cc both)
tells_at place.Saying status cfg asking lane server put now saying total promise promises for serves s = absurd (let both : false ≡ true = serves in cc both)
tells_at place.Heads status cfg asking lane server put now saying total promise promises for serves s = refl
tells_at place.Response status cfg asking lane server put now saying total promise promises for serves s =
    let a = answering_at lane.phase lane s.0 _ _ _ _ refl s.2.shows s.3.last s.1.answers in
    response_tells status cfg (asker_in asking) (answering asking.vars) lane server put s.0 now total for s.1 s.2 a.1 promises (promise s.0 s.1.answers) s.3
tells_at place.Closing status cfg asking lane server put now saying total promise promises for serves s =
    list_tells status (asker_in asking) lane server put s.0 s.3.head s.3.body (asker_in asking).head_asked s.1 s.2 s.3.line s.3.last (promise s.0 s.1.answers)
tells_at place.Keeping status cfg asking lane server put now saying total promise promises for serves s =
    list_tells status (asker_in asking) lane server put s.0 s.3.head s.3.body (asker_in asking).head_asked s.1 s.2 s.3.line s.3.last (promise s.0 s.1.answers)

-- while a server answers, the status of its answer is told
pub tells : (cfg : Config) (side : AnswerSide) (asking : Asking Variables) (server : Coming) (put : List ℕ) (now : Variables) (saying : Saying) → IsTotalAnswers (meaning_of cfg) → ((e : Exchange) → Answers side.lane e → AnswerPromise side.lane e)
    → ((q : Past) → Stands side.lane.lane q → Promise side.lane.lane q) → is_serving side.place ≡ true → AnswerStands cfg side asking server put now saying → TellsStatus (seen side).answered put (seen side).status
tells cfg side asking server put now saying total promise promises serves s =
    tells_at side.place side.status cfg asking side.lane server put now saying total promise promises s.for_it serves s.at
