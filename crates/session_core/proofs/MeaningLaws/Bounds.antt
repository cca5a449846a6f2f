-- How long the texts of a session are.
use Rattle.std.proofs.Common.{◌≡◌, ◌≢◌, ℕ, ◌+◌, ◌*◌, ◌≤◌, List, [], ◌∷◌, ◌++◌, Bool, true, false, Option, None, length, sum_by, sym, ap, subst, refl, arith, length-append}
use Rattle.std.specs.List.{flat_map}
use Rattle.std.proofs.lemmas.List.Sums.{sum_by-append, sum_by-cons}
use Rattle.http_model.specs.declared.End.{End}
use Rattle.http_model.specs.declared.Framing.TheVariants.{Chunked}
use Rattle.http_model.specs.Head.{Head, Message}
use Rattle.http_model.specs.Spelling.{Spells}
use Rattle.http_model.specs.Reading.{Received, BodyReading, HeadReading}
use Rattle.http_model.specs.Reading as reading
use Rattle.session_model.specs.Stream.{Stream, Server, NotThere, Open, Sent}
use Rattle.session_model.specs.Env.{Env, Verdict, Pass, Reply, Deny, Fail, request_env, method_of}
use Rattle.session_model.specs.Meaning.{Meaning, declares_too_much, is_head_request}
use Rattle.session_model.specs.Asking.{Asked, Nothing, Refused, Replied, Sends, asked_by, asked_of, forwards, request_fits}
use Rattle.session_model.specs.Amending.{behind_reply}
use Rattle.session_model.specs.Session.{Exchange, After, Over, Next, IsSaid, Goes, GoesOn, Follow, Session, Out}
use Rattle.session_core.specs.MeaningLaws.Bound.{sent_size, server_size, exchange_size, rest_size, IsBounded}
use Rattle.session_core.proofs.MeaningLaws.Exchanges.{reply_rest, serves_by, mul_suc}
use Rattle.session_core.proofs.MeaningLaws.Replies.{reply_within, refusal_within}

-- ---- what was asked

abbrev Fit : (M : Meaning) → Asked M.Vars → (bytes : List ℕ) → Type 0
Fit M Nothing bytes = Unit {0}
Fit M (Refused code no_body method vars) bytes = Unit {0}
Fit M (Replied m no_body keep rest method vars) bytes = (m.framing ≢ Chunked) × (length rest.bytes ≤ length bytes)
Fit M (Sends f) bytes = (request_fits M f.received f.head ≡ true) × (length f.rest.bytes ≤ length bytes)

fit_at : (M : Meaning) (asked made : Asked M.Vars) (bytes : List ℕ) → made ≡ asked → Fit M made bytes → Fit M asked bytes
fit_at M asked made bytes e h = let P : Asked M.Vars → Type 0 = λ a. Fit M a bytes in subst P e h

forwards_fit : (M : Meaning) (received : Received) (head : Head) (vars : M.Vars) (rest : Stream) (bytes : List ℕ) (t u : Bool)
    → declares_too_much M.request_filters received.declared ≡ t → request_fits M received head ≡ u → length rest.bytes ≤ length bytes → Fit M (forwards M received head vars rest) bytes
forwards_fit M received head vars rest bytes true u e f l = fit_at M (forwards M received head vars rest) (Refused 413 (is_head_request received.head) (method_of head.line) vars) bytes (rw e refl) tt
forwards_fit M received head vars rest bytes false false e f l = fit_at M (forwards M received head vars rest) (Refused 500 (is_head_request received.head) (method_of head.line) vars) bytes (rw e (rw f refl)) tt
forwards_fit M received head vars rest bytes false true e f l =
    fit_at M (forwards M received head vars rest) (Sends (record { received = received; head = head; vars = vars; rest = rest })) bytes (rw e (rw f refl)) (f, l)

verdict_fit : (M : Meaning) → IsBounded M → (at : Env M.Vars) (received : Received) (rest : Stream) (v : Verdict M.Vars) (bytes : List ℕ)
    → M.request_rules at ≡ v → length rest.bytes ≤ length bytes → Fit M (asked_by M received rest v) bytes
verdict_fit M b at received rest (Deny code after) bytes e l = tt
verdict_fit M b at received rest (Fail why after) bytes e l = tt
verdict_fit M b at received rest (Reply m after) bytes e l = (b.request_replies at after m e, l)
verdict_fit M b at received rest (Pass after) bytes e l =
    forwards_fit M received after.head after.vars rest bytes (declares_too_much M.request_filters received.declared) (request_fits M received after.head) refl refl l

reading_fit : (M : Meaning) → IsBounded M → (vars : M.Vars) (client : Stream) (head : HeadReading) → M.reads_request client.bytes head → Fit M (asked_of M vars client.ending head) client.bytes
reading_fit M b vars client reading.Nothing r = tt
reading_fit M b vars client (reading.Refused code) r = tt
reading_fit M b vars client (reading.Begins received rest) r =
    verdict_fit M b (request_env vars received.head) received (record { bytes = rest; ending = client.ending }) (M.request_rules (request_env vars received.head)) client.bytes refl (b.request_heads client.bytes received rest r)

said_size : {Vars : Type 0} (limit : ℕ) (m : Message) (no_body : Bool) (connects : List (Option Sent)) (after : After Vars) (e : Exchange Vars) → ((text : List ℕ) → Spells true no_body m text → length text ≤ limit)
    → IsSaid m no_body connects after e → (exchange_size e ≤ limit + sum_by sent_size connects) × (rest_size e.after ≡ rest_size after)
said_size limit m no_body connects after e short h =
    let t = short h.said h.spelled in
    let k : exchange_size e ≡ length h.said + sum_by sent_size connects = ap exchange_size h.exchange in
    (omega arith, ap (λ (x : Exchange _). rest_size x.after) h.exchange)

goes_size : (M : Meaning) → IsBounded M → (asked : Asked M.Vars) (bytes : List ℕ) (servers left : List Server) (e : Exchange M.Vars) → Fit M asked bytes → Goes M asked servers left e
    → exchange_size e + 1536 * (rest_size e.after + sum_by server_size left) ≤ 1536 * (length bytes + sum_by server_size servers) + 3 * M.limits.bufsize
goes_size M b Nothing bytes servers left e f h = absurd h
goes_size M b (Refused code no_body method vars) bytes servers left e f h =
    let k = said_size M.limits.bufsize _ no_body [] _ e (refusal_within M b code method (M.answering vars) no_body) h.1 in
    let a = k.0 in
    let z : rest_size e.after ≡ 0 = k.1 in
    let o : sum_by sent_size [] ≡ 0 = refl in
    let l : sum_by server_size left ≡ sum_by server_size servers = ap (λ l. sum_by server_size l) h.0 in
    omega arith
goes_size M b (Replied m no_body keep rest method vars) bytes servers left e f h =
    let k = said_size M.limits.bufsize _ no_body [] _ e (λ text s. reply_within M b m method (M.answering vars) keep no_body text f.0 s) h.1 in
    let a = k.0 in
    let z = k.1 in
    let y = reply_rest M rest (behind_reply M m method (M.answering vars) keep) in
    let w = f.1 in
    let o : sum_by sent_size [] ≡ 0 = refl in
    let l : sum_by server_size left ≡ sum_by server_size servers = ap (λ l. sum_by server_size l) h.0 in
    omega arith
goes_size M b (Sends f) bytes [] left e g h = absurd h
goes_size M b (Sends f) bytes (NotThere ∷ servers) left e g h =
    let k = said_size M.limits.bufsize _ (is_head_request f.received.head) (None ∷ []) _ e (refusal_within M b 503 (method_of f.head.line) (M.answering f.vars) (is_head_request f.received.head)) h.1 in
    let a = k.0 in
    let z : rest_size e.after ≡ 0 = k.1 in
    let l : sum_by server_size left ≡ sum_by server_size servers = ap (λ l. sum_by server_size l) h.0 in
    let n : sum_by server_size (NotThere ∷ servers) ≡ 0 + sum_by server_size servers = sum_by-cons server_size NotThere servers in
    let o : sum_by sent_size (None ∷ []) ≡ 0 = refl in
    omega arith
goes_size M b (Sends f) bytes (Open server stopped ∷ servers) left e g h =
    let k = serves_by M b f.received f.head f.vars f.rest.bytes f.rest.ending h.1.0 server stopped e _ _ refl refl g.0 h.1.1 h.1.2 in
    let w = g.1 in
    let l : sum_by server_size left ≡ sum_by server_size servers = ap (λ l. sum_by server_size l) h.0 in
    let n : sum_by server_size (Open server stopped ∷ servers) ≡ length server.bytes + sum_by server_size servers = sum_by-cons server_size (Open server stopped) servers in
    omega arith

-- ---- a session

over_size : {Vars : Type 0} (after : After Vars) (es : List (Exchange Vars)) (left : List Server) (how : End) (on : Stream → Vars → Type 0) (limit : ℕ)
    → ((rest : Stream) (vars : Vars) → on rest vars → sum_by exchange_size es ≤ 1536 * (length rest.bytes + sum_by server_size left) + 3 * (limit * length es))
    → GoesOn after es left how on → sum_by exchange_size es ≤ 1536 * (rest_size after + sum_by server_size left) + 3 * (limit * length es)
over_size (Over over) es left how on limit ih h = let e : sum_by exchange_size es ≡ 0 = ap (λ l. sum_by exchange_size l) h.0 in omega arith
over_size (Next rest vars) es left how on limit ih h = ih rest vars h

pub follow_size : (M : Meaning) → IsBounded M → (es : List (Exchange M.Vars)) (vars : M.Vars) (client : Stream) (servers : List Server) (how : End) → Follow M es vars client servers how
    → sum_by exchange_size es ≤ 1536 * (length client.bytes + sum_by server_size servers) + 3 * (M.limits.bufsize * length es)
follow_size M b [] vars client servers how h = omega arith
follow_size M b (e ∷ es) vars client servers how h =
    let asked = h.0 in
    let left = h.1 in
    let f = fit_at M asked (asked_of M vars client.ending h.2.head) client.bytes (sym h.2.asks) (reading_fit M b vars client h.2.head h.2.reads) in
    let a = goes_size M b asked client.bytes servers left e f h.3 in
    let c = over_size e.after es left how _ M.limits.bufsize (λ rest next k. follow_size M b es next rest left how k) h.4 in
    let n : sum_by exchange_size (e ∷ es) ≡ exchange_size e + sum_by exchange_size es = sum_by-cons exchange_size e es in
    let m : M.limits.bufsize * length (e ∷ es) ≡ M.limits.bufsize + M.limits.bufsize * length es = mul_suc M.limits.bufsize (length es) in
    omega arith

out_size : {Vars : Type 0} (es : List (Exchange Vars)) → length (flat_map (λ (e : Exchange Vars). e.client) es) + sum_by sent_size (flat_map (λ (e : Exchange Vars). e.connects) es) ≡ sum_by exchange_size es
out_size [] = refl
out_size (e ∷ es) =
    let k = out_size es in
    let a : length (flat_map (λ (e : Exchange _). e.client) (e ∷ es)) ≡ length (e.client ++ flat_map (λ (e : Exchange _). e.client) es) = refl in
    let c : sum_by sent_size (flat_map (λ (e : Exchange _). e.connects) (e ∷ es)) ≡ sum_by sent_size (e.connects ++ flat_map (λ (e : Exchange _). e.connects) es) = refl in
    let n : sum_by exchange_size (e ∷ es) ≡ exchange_size e + sum_by exchange_size es = sum_by-cons exchange_size e es in
    omega (arith, length-append e.client (flat_map (λ (e : Exchange _). e.client) es), sum_by-append sent_size e.connects (flat_map (λ (e : Exchange _). e.connects) es))

pub session_size : (M : Meaning) (client : Stream) (servers : List Server) (out : Out) → IsBounded M → (s : Session M client servers out)
    → length out.client.bytes + sum_by sent_size out.servers ≤ 1536 * (length client.bytes + sum_by server_size servers) + 3 * (M.limits.bufsize * length s.exchanges)
session_size M client servers out b s =
    let k = follow_size M b s.exchanges M.begins client servers out.how s.follow in
    let o = out_size s.exchanges in
    let a : length out.client.bytes ≡ length (flat_map (λ (e : Exchange _). e.client) s.exchanges) = ap (λ (x : Out). length x.client.bytes) s.comes_to in
    let c : sum_by sent_size out.servers ≡ sum_by sent_size (flat_map (λ (e : Exchange _). e.connects) s.exchanges) = ap (λ (x : Out). sum_by sent_size x.servers) s.comes_to in
    omega arith
