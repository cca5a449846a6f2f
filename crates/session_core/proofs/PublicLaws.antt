-- The public laws of streams, exchanges and sessions.
use Rattle.std.proofs.Common.{ℕ, List, ◌≡◌, None, false, Bool, ◌++◌, true, [], ◌+◌, ◌*◌, ◌≤◌, length, sum_by, Some}
use Rattle.session_core.specs.History.{Coming, Continues, broken, prepend, prepended, gains, ends, Past, IsPrefix}
use Rattle.session_model.specs.Stream.{Stream, Server}
use Rattle.http_model.specs.declared.Ending.{Ending}
use Rattle.session_core.specs.Splits.{Splits}
use Rattle.session_model.specs.Meaning.{Meaning, is_interim, declares_too_much, HoldsOn}
use Rattle.session_core.specs.Sided.{Sided, RequestSeen, AnswerSeen, Asking, asker_in, AnswerGoes, Interims}
use Rattle.session_core.specs.Stands.{Holds}
use Rattle.session_core.specs.Consequences.{IsTotal, IsFront, IsFinal, out_of_past}
use Rattle.session_core.specs.declared.machine.At.{At}
use Rattle.http_model.specs.Head.{Head}
use Rattle.session_model.specs.Answering.{sent_interim, response_declares_too_much, response_fits, answer_by}
use Rattle.session_model.specs.Session.{interim_text, Session, Out}
use Rattle.session_core.specs.Lanes.{HeadsPassed, IsTotalAnswers, LastSo, AnswerBody, HeadCame}
use Rattle.session_model.specs.Asking.{Asker, Asks, Sends, asked_by, request_fits, request_by}
use Rattle.session_core.specs.declared.Told.{Told}
use Rattle.http_model.specs.Reading.{Received, BodyReading}
use Rattle.session_model.specs.Env.{Env, Pass, Edited, response_env, request_env}
use Rattle.session_core.specs.HeadAsks.{HeadAsks}
use Rattle.session_core.specs.Lines.{HasLine, IsLineOf, ShowsLine, LineAt}
use Rattle.session_core.specs.MeaningLaws.Decided.{body_bytes, RefusesSoFar, IsCutRequest, IsCutAnswer}
use Rattle.session_core.specs.MeaningLaws.Bound.{sent_size, server_size, IsBounded}
use Rattle.session_core.specs.Waits.{is_serving, wants_of}
use Rattle.session_core.specs.Place.{Place, IsPlaced}
use Rattle.session_core.specs.Statuses.{TellsExchange, StatusAt, status_in, whole_in}
use Rattle.session_core.specs.Drives.{WantsMean, WantsSay}
use Rattle.http_model.specs.declared.Close.{Close}
use Rattle.http_model.specs.declared.End.{End}
use Rattle.session_core.specs.declared.Told.TheVariants as told
use Rattle.http_model.specs.Reading as reading
use Rattle.session_core.proofs.Streams as streams
use Rattle.session_core.proofs.Consequences as consequences
use Rattle.session_core.proofs.Passing as passing
use Rattle.session_core.proofs.Heads as heads
use Rattle.session_core.proofs.Lines as lines
use Rattle.session_core.proofs.InHand as in_hand
use Rattle.session_core.proofs.Statuses as statuses
use Rattle.session_core.proofs.MeaningLaws.Decides as decides
use Rattle.session_core.proofs.MeaningLaws.Bounds as bounds
use Rattle.session_core.proofs.Driving as driving

-- A stream that is broken where it stands is one way in which it goes on.
pub continues_broken : (c : Coming) → Continues c (broken c)
continues_broken = streams.continues_broken

-- Bytes in front of a stream stand in front of each way in which it goes on.
pub continues_prepend : (used : List ℕ) (c : Coming) (s : Stream) → Continues c s → Continues (prepended used c) (prepend used s)
continues_prepend = streams.continues_prepend

-- What goes on from a stream with more bytes goes on from it.
pub continues_gains : (c : Coming) (more : List ℕ) (s : Stream) → c.ending ≡ None → Continues (gains c more) s → Continues c s
continues_gains = streams.continues_gains

-- What goes on from a stream with its ending goes on from it without one.
pub continues_ends : (c : Coming) (how : Ending) (s : Stream) → c.ending ≡ None → Continues (ends c how) s → Continues c s
continues_ends = streams.continues_ends

-- A stream of the whole past begins with the bytes of the exchanges that are done.
pub split_past : (used : List ℕ) (came client : Coming) (s : Stream) → client ≡ prepended used came → Continues client s → Splits used came s
split_past = consequences.split_past

-- Where each stream has a meaning, what was put out is a front of a session.
pub front : (M : Meaning) → IsTotal M → (c : At) (q : RequestSeen) (a : AnswerSeen) (p : Sided M) (past : Past)
    → Holds M c q a p past → IsFront M past a.window q.window a.begun
front = consequences.front

-- Until a final head has come, what was put out is a front of the answer, whatever comes.
pub answers_open : (M : Meaning) → IsTotalAnswers M → (asking : Asking M.Vars) (server left : Coming) (heads : List Head) (used put : List ℕ) (now : M.Vars)
    → HeadsPassed M (asker_in asking) server heads used left → IsPrefix put (interim_text (sent_interim (asker_in asking) heads))
    → (stream : Stream) → Continues server stream → AnswerGoes M told.Going false false asking put now stream
answers_open = passing.answers_open

-- Where interim heads alone came, the client got interim heads alone.
pub interims_so : (M : Meaning) (asker : Asker) (server left : Coming) (heads : List Head) (used put : List ℕ)
    → HeadsPassed M asker server heads used left → IsPrefix put (interim_text (sent_interim asker heads)) → Interims M asker server put
interims_so = passing.interims_so

-- A last that answers behind interim heads is an answer that goes so.
pub answers_last : (M : Meaning) (asking : Asking M.Vars) (server left : Coming) (heads : List Head) (used put : List ℕ) (so : Told) (now : M.Vars) (all begun : Bool)
    → HeadsPassed M (asker_in asking) server heads used left
    → ((rest : Stream) → Continues left rest → LastSo M (asker_in asking) (M.answering asking.vars) (interim_text (sent_interim (asker_in asking) heads)) so now all begun put rest)
    → (stream : Stream) → Continues server stream → AnswerGoes M so all begun asking put now stream
answers_last = passing.answers_last

-- A final head, rules that pass, a length within the limits, a finished head that fits, and a body are such a last.
pub body_is_last : (M : Meaning) (asker : Asker) (before : M.Vars) (interim : List ℕ) (received : Received) (at : Env M.Vars) (head : Head) (vars now : M.Vars) (so : Told) (all begun : Bool) (put more : List ℕ) (rest : Stream)
    → is_interim received.head ≡ false → M.reads_response asker.head_asked (more ++ rest.bytes) (reading.Begins received rest.bytes)
    → M.response_rules (response_env before asker.method received.head) ≡ Pass at → response_declares_too_much M received ≡ false
    → M.after_rules at ≡ Edited head vars → response_fits M asker received head ≡ true
    → AnswerBody M asker interim received head vars so now all begun put rest
    → LastSo M asker before interim so now all begun put (prepend more rest)
body_is_last = passing.body_is_last

-- A head that came is asked by, however the stream goes on.
pub head_asks : (M : Meaning) (vars : M.Vars) (came left : Coming) (received : Received) (used : List ℕ)
    → HeadCame M came received used left → (stream : Stream) → Continues came stream → HeadAsks M vars left received stream
head_asks = heads.head_asks

-- The line of a head that came is so when more bytes come.
pub line_gains : (M : Meaning) (came : Coming) (bytes line : List ℕ) → came.ending ≡ None → HasLine M came line → HasLine M (gains came bytes) line
line_gains = lines.line_gains

-- And when the stream ends.
pub line_ends : (M : Meaning) (came : Coming) (how : Ending) (line : List ℕ) → came.ending ≡ None → HasLine M came line → HasLine M (ends came how) line
line_ends = lines.line_ends

-- So where no head comes.
pub shown_gains : (M : Meaning) (came : Coming) (bytes line : List ℕ) → came.ending ≡ None → ShowsLine M came line → ShowsLine M (gains came bytes) line
shown_gains = lines.shown_gains

pub shown_ends : (M : Meaning) (came : Coming) (how : Ending) (line : List ℕ) → came.ending ≡ None → ShowsLine M came line → ShowsLine M (ends came how) line
shown_ends = lines.shown_ends

-- What shows the line tells it or nothing.
pub line_of_shown : (M : Meaning) (came : Coming) (line : List ℕ) → ShowsLine M came line → IsLineOf M came line
line_of_shown = lines.line_of_shown

-- Rules that pass, a length within the limits and a finished head that fits ask for a server.
pub sends_head : (M : Meaning) (vars : M.Vars) (received : Received) (env : Env M.Vars) (stream rest : Stream) → M.request_rules (request_env vars received.head) ≡ Pass env
    → declares_too_much M.request_filters received.declared ≡ false → request_fits M received env.head ≡ true
    → Asks M vars stream (asked_by M received rest (M.request_rules (request_env vars received.head)))
    → Asks M vars stream (Sends (record { received = received; head = env.head; vars = env.vars; rest = rest }))
sends_head = heads.sends_head

-- Where the filters refuse the bytes so far, the request is cut so, whatever its body goes on to be.
pub cut_request : (M : Meaning) (received : Received) (head : Head) (vars : M.Vars) (front more : List ℕ) (code : ℕ) → HoldsOn M.request_filters → RefusesSoFar M.request_filters front code
    → (ending : Ending) (body : BodyReading) → body_bytes body ≡ front ++ more → IsCutRequest (request_by M received head vars ending body) code (M.request_filters.filter_so_far front).output
cut_request = decides.cut_request

-- Where the filters refuse the bytes so far, the answer is cut so, whatever its body goes on to be.
pub cut_answer : (M : Meaning) (asker : Asker) (received : Received) (head : Head) (vars : M.Vars) (front more : List ℕ) (code : ℕ) → HoldsOn M.response_filters → RefusesSoFar M.response_filters front code
    → (body : BodyReading) → body_bytes body ≡ front ++ more → IsCutAnswer (answer_by M asker received head vars body) (M.response_filters.filter_so_far front).output
cut_answer = decides.cut_answer

-- Of no interim heads none are sent.
pub interim_none : (asker : Asker) → let none : List Head = [] in none ≡ sent_interim asker []
interim_none = decides.interim_none

-- What a session puts out is bounded by what its streams bring, and by how many exchanges it has.
pub session_size : (M : Meaning) (client : Stream) (servers : List Server) (out : Out) → IsBounded M → (s : Session M client servers out)
    → length out.client.bytes + sum_by sent_size out.servers ≤ 1536 * (length client.bytes + sum_by server_size servers) + 3 * (M.limits.bufsize * length s.exchanges)
session_size = bounds.session_size

-- What wants say of windows and rooms, and of whether a server is open.
pub mean : (q : RequestSeen) (a : AnswerSeen) (at : At) → WantsMean q a (is_serving at.phase) (wants_of q a at)
mean = driving.mean

-- Where a session is over, what was taken is its session.
pub final_taken : (M : Meaning) (c : At) (q : RequestSeen) (a : AnswerSeen) (p : Sided M) (past : Past) (how : End)
    → Holds M c q a p past → (wants_of q a c).over ≡ Some how → IsFinal M past (out_of_past past past.taken c.exchanges how)
final_taken = driving.final_taken

-- A front of a session is one with the windows left out.
pub front_taken : (M : Meaning) (past : Past) (client_window server_window : List ℕ) (begun : Bool) → IsFront M past client_window server_window begun → IsFront M past [] [] begun
front_taken = driving.front_taken

-- What wants say of the history.
pub says : (M : Meaning) (at : At) (q : RequestSeen) (a : AnswerSeen) (p : Sided M) (past : Past) → Holds M at q a p past → WantsSay (wants_of q a at) past
says = driving.says

-- What a core tells of the exchange in hand is so.
pub tells : (M : Meaning) (S : Sided M → Type 0) (placed : Place → Type 0) (at : At) (q : RequestSeen) (a : AnswerSeen) (p : Sided M) (past : Past) → S p → Holds M at q a p past → IsPlaced placed a at.phase at.cut
    → ((p : Sided M) → S p → IsLineOf M p.came q.line) → ((p : Sided M) (place : Place) → S p → placed place → LineAt place M p.came q.line)
    → ((p : Sided M) (place : Place) → S p → placed place → StatusAt place a p)
    → TellsExchange M past a.window (whole_in at.phase a.answered) at.exchanges q.line (status_in at.phase a.status)
tells M S placed at q a p past s h here line line_at status = statuses.tells_exchange M S placed at q a past (in_hand.exchanges_so M S at q a p past s h) here line line_at status

-- Where a server's link is to be closed, all text of the answer was put out.
pub close_whole : (q : RequestSeen) (a : AnswerSeen) (at : At) (how : Close) → (wants_of q a at).server_close ≡ Some how → whole_in at.phase a.answered ≡ true
close_whole = statuses.closes_whole
