-- A stream asks for no more exchanges than it has bytes, and one more.
use Rattle.std.proofs.Common.{◌≡◌, ℕ, ◌+◌, ◌<◌, ◌≤◌, List, [], ◌∷◌, Bool, true, false, Option, Some, None, length, sym, ap, subst, refl, arith, length-append}
use Rattle.std.specs.Prelude.{⊤}
use Rattle.http_model.specs.declared.End.{End}
use Rattle.http_model.specs.declared.End.TheVariants as end
use Rattle.http_model.specs.declared.Ending.{Ending}
use Rattle.http_model.specs.Head.{Head}
use Rattle.http_model.specs.Reading.{Received, BodyReading, HeadReading}
use Rattle.http_model.specs.Reading as reading
use Rattle.session_model.specs.Stream.{Stream, Server, NotThere, Open}
use Rattle.session_model.specs.Env.{Verdict, Pass, Reply, Deny, Fail, request_env, method_of}
use Rattle.session_model.specs.Meaning.{Meaning, declares_too_much, is_head_request}
use Rattle.session_model.specs.Asking.{Asked, Nothing, Refused, Replied, Sends, Request, request_by, asked_by, asked_of, forwards, request_fits}
use Rattle.session_model.specs.Answering.{Final, Refuses, Replies, Answers, Plain}
use Rattle.session_model.specs.Session.{Exchange, After, Over, Next, Serves, ClientGets, Goes, GoesOn, Follow, after_final, after_reply}
use Rattle.session_core.specs.Consequences.{IsTotal}
use Rattle.session_core.specs.MeaningLaws.Bound.{IsBounded}
use Rattle.htx_drive.specs.Budget.{HasRequests}

-- ---- what is left behind a head

-- fewer than so many bytes are left behind what was asked
abbrev LeavesLess : {Vars : Type 0} → Asked Vars → ℕ → Type 0
LeavesLess Nothing n = ⊤
LeavesLess (Refused code no_body method vars) n = ⊤
LeavesLess (Replied m no_body keep rest method vars) n = length rest.bytes < n
LeavesLess (Sends f) n = length f.rest.bytes < n

asked_at : {Vars : Type 0} (made asked : Asked Vars) (n : ℕ) → made ≡ asked → LeavesLess made n → LeavesLess asked n
asked_at made asked n e h = let P : Asked _ → Type 0 = λ a. LeavesLess a n in subst P e h

forwards_less : (M : Meaning) (received : Received) (head : Head) (vars : M.Vars) (rest : Stream) (n : ℕ) (t u : Bool)
    → declares_too_much M.request_filters received.declared ≡ t → request_fits M received head ≡ u → length rest.bytes < n → LeavesLess (forwards M received head vars rest) n
forwards_less M received head vars rest n true u e f l = asked_at (Refused 413 (is_head_request received.head) (method_of head.line) vars) (forwards M received head vars rest) n (rw e refl) tt
forwards_less M received head vars rest n false false e f l = asked_at (Refused 500 (is_head_request received.head) (method_of head.line) vars) (forwards M received head vars rest) n (rw e (rw f refl)) tt
forwards_less M received head vars rest n false true e f l =
    asked_at (Sends (record { received = received; head = head; vars = vars; rest = rest })) (forwards M received head vars rest) n (rw e (rw f refl)) l

verdict_less : (M : Meaning) (received : Received) (rest : Stream) (v : Verdict M.Vars) (n : ℕ) → length rest.bytes < n → LeavesLess (asked_by M received rest v) n
verdict_less M received rest (Deny code after) n l = tt
verdict_less M received rest (Fail why after) n l = tt
verdict_less M received rest (Reply m after) n l = l
verdict_less M received rest (Pass after) n l = forwards_less M received after.head after.vars rest n (declares_too_much M.request_filters received.declared) (request_fits M received after.head) refl refl l

reading_less : (M : Meaning) → IsTotal M → (vars : M.Vars) (client : Stream) (head : HeadReading) → M.reads_request client.bytes head → LeavesLess (asked_of M vars client.ending head) (length client.bytes)
reading_less M total vars client reading.Nothing r = tt
reading_less M total vars client (reading.Refused code) r = tt
reading_less M total vars client (reading.Begins received rest) r =
    verdict_less M received (record { bytes = rest; ending = client.ending }) (M.request_rules (request_env vars received.head)) (length client.bytes) (total.shorter client.bytes received rest r)

-- ---- what is left behind an exchange

abbrev GoesLess : {Vars : Type 0} → After Vars → ℕ → Type 0
GoesLess (Over how) n = ⊤
GoesLess (Next rest vars) n = length rest.bytes < n

after_at : {Vars : Type 0} (after made : After Vars) (n : ℕ) → after ≡ made → GoesLess made n → GoesLess after n
after_at after made n e h = let P : After _ → Type 0 = λ a. GoesLess a n in subst P (sym e) h

reply_less : (M : Meaning) (rest : Stream) (o : Option M.Vars) (n : ℕ) → length rest.bytes < n → GoesLess (after_reply M rest o) n
reply_less M rest None n l = tt
reply_less M rest (Some vars) n l = l

final_less : (M : Meaning) (request : Request M.Vars) (whole : Bool) (interim : List Head) (final : Final M.Vars) (n : ℕ) → length request.rest.bytes < n → GoesLess (after_final M request whole (record { interim = interim; final = final })) n
final_less M request whole interim (Refuses code method vars) n l = tt
final_less M request whole interim (Replies m method vars) n l = reply_less M request.rest _ n l
final_less M request whole interim (Answers m true vars) n l = tt
final_less M request whole interim (Answers m false vars) n l = reply_less M request.rest _ n l
final_less M request whole interim Plain n l = tt

gets_less : (M : Meaning) (request : Request M.Vars) (whole : Bool) (server : Stream) (e : Exchange M.Vars) (n : ℕ) → ClientGets M request whole server e.client e.after → length request.rest.bytes < n → GoesLess e.after n
gets_less M request whole server e n h l = after_at e.after (after_final M request whole h.answered) n h.goes_on (final_less M request whole h.answered.interim h.answered.final n l)

served_less : (M : Meaning) (request : Request M.Vars) (server : Stream) (stopped : Bool) (e : Exchange M.Vars) (cut : Option ℕ) (bit : Option Bool) (n : ℕ) → request.cut ≡ cut → e.bit ≡ bit → Serves M request server stopped e → length request.rest.bytes < n → GoesLess e.after n
served_less M request server stopped e None None n c t h l = let k = rw (c, t) at h in gets_less M _ true server e n k.1 l
served_less M request server stopped e None (Some begun) n c t h l = let k : ⊥ = rw (c, t) at h in absurd k
served_less M request server stopped e (Some code) None n c t h l = let k : ⊥ = rw (c, t) at h in absurd k
served_less M request server stopped e (Some code) (Some true) n c t h l = let k = rw (c, t) at h in gets_less M _ false server e n k.1 l
served_less M request server stopped e (Some code) (Some false) n c t h l = let k = rw (c, t) at h in after_at e.after (Over end.Closed) n k.1.goes_on tt

body_less : (M : Meaning) → IsBounded M → (received : Received) (head : Head) (vars : M.Vars) (bytes : List ℕ) (ending : Ending) (body : BodyReading) (n : ℕ) → M.reads_body received.framing bytes ending body → length bytes < n
    → length (request_by M received head vars ending body).rest.bytes < n
body_less M b received head vars bytes ending (reading.Whole body trailers rest) n r l = let k = b.whole_bodies received.framing bytes ending body trailers rest r in omega arith
body_less M b received head vars bytes ending (reading.Broke body) n r l = omega arith
body_less M b received head vars bytes ending (reading.Bad body) n r l = omega arith

goes_less : (M : Meaning) → IsBounded M → (asked : Asked M.Vars) (servers left : List Server) (e : Exchange M.Vars) (n : ℕ) → LeavesLess asked n → Goes M asked servers left e → GoesLess e.after n
goes_less M b Nothing servers left e n l h = absurd h
goes_less M b (Refused code no_body method vars) servers left e n l h = after_at e.after _ n (ap (λ (x : Exchange _). x.after) h.1.exchange) tt
goes_less M b (Replied m no_body keep rest method vars) servers left e n l h = after_at e.after _ n (ap (λ (x : Exchange _). x.after) h.1.exchange) (reply_less M rest _ n l)
goes_less M b (Sends f) [] left e n l h = absurd h
goes_less M b (Sends f) (NotThere ∷ servers) left e n l h = after_at e.after _ n (ap (λ (x : Exchange _). x.after) h.1.exchange) tt
goes_less M b (Sends f) (Open server stopped ∷ servers) left e n l h =
    served_less M (request_by M f.received f.head f.vars f.rest.ending h.1.0) server stopped e _ _ n refl refl h.1.2 (body_less M b f.received f.head f.vars f.rest.bytes f.rest.ending h.1.0 n h.1.1 l)

-- ---- a session

on_less : {Vars : Type 0} (after : After Vars) (es : List (Exchange Vars)) (left : List Server) (how : End) (on : Stream → Vars → Type 0) (n : ℕ) → GoesLess after n
    → ((rest : Stream) (vars : Vars) → on rest vars → length es ≤ length rest.bytes + 1) → GoesOn after es left how on → length es ≤ n
on_less (Over over) es left how on n l ih h = omega (arith, ap length h.0)
on_less (Next rest vars) es left how on n l ih h = let k = ih rest vars h in omega arith

follow_less : (M : Meaning) → IsBounded M → IsTotal M → (es : List (Exchange M.Vars)) (vars : M.Vars) (client : Stream) (servers : List Server) (how : End) → Follow M es vars client servers how → length es ≤ length client.bytes + 1
follow_less M b total [] vars client servers how h = omega arith
follow_less M b total (e ∷ es) vars client servers how h =
    let asked = h.0 in
    let l = asked_at (asked_of M vars client.ending h.2.head) asked (length client.bytes) (sym h.2.asks) (reading_less M total vars client h.2.head h.2.reads) in
    let a = goes_less M b asked servers h.1 e (length client.bytes) l h.3 in
    let k = on_less e.after es h.1 how _ (length client.bytes) a (λ rest next k. follow_less M b total es next rest h.1 how k) h.4 in
    omega arith

-- each exchange but the last takes at least a byte of the client's
pub has_requests : (M : Meaning) → IsBounded M → IsTotal M → (bytes : List ℕ) → HasRequests M bytes (length bytes)
has_requests M b total bytes = λ front rest ending servers out e s.
    let k = follow_less M b total s.exchanges M.begins (record { bytes = front; ending = ending }) servers out.how s.follow in
    omega (arith, ap length e, length-append front rest)
