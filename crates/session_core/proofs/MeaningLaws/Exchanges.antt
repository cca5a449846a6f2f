-- How long the texts of an exchange are.
use Rattle.std.proofs.Common.{◌≡◌, ℕ, suc, ◌+◌, ◌*◌, ◌≤◌, List, [], ◌∷◌, Bool, true, false, Option, Some, None, length, map, sum_by, if◌then◌else◌, nat_le, ap, subst, ◌∙◌, refl, arith, length-append}
use Rattle.std.proofs.lemmas.Bool.{leb-true}
use Rattle.http_model.specs.declared.Ending.{Ending}
use Rattle.http_model.specs.Head.{Head, Message}
use Rattle.http_model.specs.Finish.{finish_interim}
use Rattle.http_model.specs.Spelling.{head_text, Spells}
use Rattle.http_model.specs.Reading.{Received, BodyReading, HeadReading}
use Rattle.http_model.specs.Reading as reading
use Rattle.session_model.specs.Stream.{Stream, Sent, Takes}
use Rattle.session_model.specs.Env.{Env, Verdict, Pass, Reply, Deny, Fail, Amended, Edited, request_env, response_env, method_of, method_in}
use Rattle.session_model.specs.Env as env
use Rattle.session_model.specs.Meaning.{Meaning, sent_body}
use Rattle.session_model.specs.Asking.{Asker, Request, request_by, request_fits}
use Rattle.session_model.specs.Answering.{Final, Refuses, Replies, Answers, Plain, AnswersReading, AnswersBy, AnswersWith, AnswersAmended, BeginsWithInterim, sent_interim, answer_by, response_fits, response_declares_too_much}
use Rattle.session_model.specs.Session.{Exchange, After, SpellsFinal, ServerGets, ClientGets, ClientIsRefused, Serves, after_final, after_reply, interim_text}
use Rattle.session_core.specs.MeaningLaws.Bound.{sent_size, exchange_size, rest_size, IsShort, IsBounded}
use Rattle.session_core.proofs.MeaningLaws.Filtered.{sent_output}
use Rattle.session_core.proofs.MeaningLaws.Spelled.{spelled_within}
use Rattle.session_core.proofs.MeaningLaws.Replies.{reply_within, refusal_within}

-- ---- the request

fits : (n size : ℕ) → nat_le n size ≡ true → n ≤ size
fits n size e = leb-true n size e

pub request_within : (M : Meaning) → IsBounded M → (received : Received) (head : Head) (vars : M.Vars) (bytes : List ℕ) (ending : Ending) (body : BodyReading) (whole : Bool) (text : List ℕ)
    → request_fits M received head ≡ true → M.reads_body received.framing bytes ending body → Spells whole false (request_by M received head vars ending body).message text
    → length text + 1536 * length (request_by M received head vars ending body).rest.bytes ≤ 1536 * length bytes + M.limits.bufsize
request_within M b received head vars bytes ending (reading.Whole body trailers rest) whole text f r s =
    let l = fits _ _ f in
    let t = spelled_within whole false _ text s in
    let o = ap length (sent_output M.request_filters None body) in
    let k = b.request_filters body in
    let u = b.whole_bodies received.framing bytes ending body trailers rest r in
    omega arith
request_within M b received head vars bytes ending (reading.Broke body) whole text f r s =
    let l = fits _ _ f in
    let t = spelled_within whole false _ text s in
    let o = ap length (sent_output M.request_filters (Some 400) body) in
    let k = b.request_filters body in
    let u = b.broken_bodies received.framing bytes ending body r in
    omega arith
request_within M b received head vars bytes ending (reading.Bad body) whole text f r s =
    let l = fits _ _ f in
    let t = spelled_within whole false _ text s in
    let o = ap length (sent_output M.request_filters (Some 400) body) in
    let k = b.request_filters body in
    let u = b.bad_bodies received.framing bytes ending body r in
    omega arith

refused_by : (M : Meaning) → IsBounded M → (cut : Option ℕ) (body : List ℕ) (code : ℕ) (o : Option ℕ) → ((c : ℕ) → cut ≡ Some c → IsShort M.limits.bufsize c) → (M.request_filters.filter body).refused ≡ o → (sent_body M.request_filters cut body).refused ≡ Some code → IsShort M.limits.bufsize code
refused_by M b cut body code None short e h = short code (rw e at h)
refused_by M b cut body code (Some c) short e h =
    let k : Some c ≡ Some code = rw e at h in
    b.filtered_requests body code (e ∙ k)

is_400 : (M : Meaning) → IsBounded M → (c : ℕ) → Some 400 ≡ Some c → IsShort M.limits.bufsize c
is_400 M b c e = let P : ℕ → Type 0 = λ n. IsShort M.limits.bufsize n in let f : 400 ≡ c = cc in subst P f b.malformed

pub cut_short : (M : Meaning) → IsBounded M → (received : Received) (head : Head) (vars : M.Vars) (ending : Ending) (body : BodyReading) (code : ℕ) → (request_by M received head vars ending body).cut ≡ Some code → IsShort M.limits.bufsize code
cut_short M b received head vars ending (reading.Whole body trailers rest) code h = refused_by M b None body code (M.request_filters.filter body).refused (λ c e. absurd (cc)) refl h
cut_short M b received head vars ending (reading.Broke body) code h = refused_by M b (Some 400) body code (M.request_filters.filter body).refused (is_400 M b) refl h
cut_short M b received head vars ending (reading.Bad body) code h = refused_by M b (Some 400) body code (M.request_filters.filter body).refused (is_400 M b) refl h

-- ---- the answer

answer_within : (M : Meaning) → IsBounded M → (asker : Asker) (received : Received) (head : Head) (vars : M.Vars) (bytes : List ℕ) (ending : Ending) (body : BodyReading) (text : List ℕ)
    → response_fits M asker received head ≡ true → M.reads_body received.framing bytes ending body → SpellsFinal M asker (answer_by M asker received head vars body) text
    → length text ≤ 1536 * length bytes + M.limits.bufsize
answer_within M b asker received head vars bytes ending (reading.Whole body trailers rest) text f r s =
    let l = fits _ _ f in
    let t = spelled_within _ asker.head_asked _ text s in
    let o = ap length (sent_output M.response_filters None body) in
    let k = b.response_filters body in
    let u = b.whole_bodies received.framing bytes ending body trailers rest r in
    omega arith
answer_within M b asker received head vars bytes ending (reading.Broke body) text f r s =
    let l = fits _ _ f in
    let t = spelled_within _ asker.head_asked _ text s in
    let o = ap length (sent_output M.response_filters (Some 502) body) in
    let k = b.response_filters body in
    let u = b.broken_bodies received.framing bytes ending body r in
    omega arith
answer_within M b asker received head vars bytes ending (reading.Bad body) text f r s =
    let l = fits _ _ f in
    let t = spelled_within _ asker.head_asked _ text s in
    let o = ap length (sent_output M.response_filters (Some 502) body) in
    let k = b.response_filters body in
    let u = b.bad_bodies received.framing bytes ending body r in
    omega arith

refuses : (M : Meaning) → IsBounded M → (asker : Asker) (final : Final M.Vars) (code : ℕ) (method : List ℕ) (vars : M.Vars) (text : List ℕ) → final ≡ Refuses code method vars → SpellsFinal M asker final text → length text ≤ M.limits.bufsize
refuses M b asker final code method vars text e s = let P : Final M.Vars → Type 0 = λ f. SpellsFinal M asker f text in refusal_within M b code method vars asker.head_asked text (subst P e s)

plainly : (M : Meaning) → IsBounded M → (asker : Asker) (final : Final M.Vars) (text : List ℕ) → final ≡ Plain → SpellsFinal M asker final text → length text ≤ M.limits.bufsize
plainly M b asker final text e s = let P : Final M.Vars → Type 0 = λ f. SpellsFinal M asker f text in b.plain asker.head_asked text (subst P e s)

edited_within : (M : Meaning) → IsBounded M → (asker : Asker) (received : Received) (rest : Stream) (head : Head) (vars : M.Vars) (final : Final M.Vars) (text : List ℕ) (u : Bool)
    → response_fits M asker received head ≡ u → AnswersAmended M asker received rest (Edited head vars) final → SpellsFinal M asker final text → length text ≤ 1536 * length rest.bytes + M.limits.bufsize
edited_within M b asker received rest head vars final text false f h s = let k : final ≡ Plain = rw f at h in let r = plainly M b asker final text k s in omega arith
edited_within M b asker received rest head vars final text true f h s =
    let k : (body : BodyReading) × M.reads_body received.framing rest.bytes rest.ending body × (final ≡ answer_by M asker received head vars body) = rw f at h in
    let P : Final M.Vars → Type 0 = λ f. SpellsFinal M asker f text in
    answer_within M b asker received head vars rest.bytes rest.ending k.0 text f k.1 (subst P k.2 s)

amended_within : (M : Meaning) → IsBounded M → (asker : Asker) (received : Received) (rest : Stream) (x : Amended M.Vars) (final : Final M.Vars) (text : List ℕ)
    → AnswersAmended M asker received rest x final → SpellsFinal M asker final text → length text ≤ 1536 * length rest.bytes + M.limits.bufsize
amended_within M b asker received rest (Edited head vars) final text h s = edited_within M b asker received rest head vars final text (response_fits M asker received head) refl h s
amended_within M b asker received rest env.Plain final text h s = let r = plainly M b asker final text h s in omega arith

with_within : (M : Meaning) → IsBounded M → (asker : Asker) (received : Received) (rest : Stream) (at : Env M.Vars) (final : Final M.Vars) (text : List ℕ) (t : Bool)
    → response_declares_too_much M received ≡ t → AnswersWith M asker received rest at final → SpellsFinal M asker final text → length text ≤ 1536 * length rest.bytes + M.limits.bufsize
with_within M b asker received rest at final text true e h s = let k : final ≡ Refuses 502 asker.method at.vars = rw e at h in let r = refuses M b asker final 502 asker.method at.vars text k s in omega arith
with_within M b asker received rest at final text false e h s =
    let k : AnswersAmended M asker received rest (M.after_rules at) final = rw e at h in amended_within M b asker received rest (M.after_rules at) final text k s

by_verdict : (M : Meaning) → IsBounded M → (asker : Asker) (received : Received) (at : Env M.Vars) (rest : Stream) (v : Verdict M.Vars) (final : Final M.Vars) (text : List ℕ)
    → M.response_rules at ≡ v → AnswersBy M asker received rest v final → SpellsFinal M asker final text → length text ≤ 1536 * length rest.bytes + M.limits.bufsize
by_verdict M b asker received at rest (Deny code after) final text e h s = let r = refuses M b asker final code asker.method after.vars text h s in omega arith
by_verdict M b asker received at rest (Fail why after) final text e h s = let r = refuses M b asker final 500 asker.method after.vars text h s in omega arith
by_verdict M b asker received at rest (Reply m after) final text e h s =
    let P : Final M.Vars → Type 0 = λ f. SpellsFinal M asker f text in
    let r = reply_within M b m asker.method after.vars asker.keep asker.head_asked text (b.response_replies at after m e) (subst P h s) in
    omega arith
by_verdict M b asker received at rest (Pass after) final text e h s = with_within M b asker received rest after final text (response_declares_too_much M received) refl h s

final_within : (M : Meaning) → IsBounded M → (asker : Asker) (before : M.Vars) (ending : Ending) (bytes : List ℕ) (head : HeadReading) (final : Final M.Vars) (text : List ℕ)
    → M.reads_response asker.head_asked bytes head → AnswersReading M asker before ending head final → SpellsFinal M asker final text → length text ≤ 1536 * length bytes + M.limits.bufsize
final_within M b asker before ending bytes reading.Nothing final text r h s = let k = refuses M b asker final 502 asker.method before text h s in omega arith
final_within M b asker before ending bytes (reading.Refused code) final text r h s = let k = refuses M b asker final 502 asker.method before text h s in omega arith
final_within M b asker before ending bytes (reading.Begins received rest) final text r h s =
    let k = by_verdict M b asker received (response_env before asker.method received.head) (record { bytes = rest; ending = ending }) _ final text refl h.1 s in
    let u = b.response_heads asker.head_asked bytes received rest r in
    omega arith

-- ---- interim heads

pub record Behind (bytes interim : List ℕ) (P : List ℕ → Type 0) : Type 0 where
  pub rest : List ℕ
  pub is : P rest
  pub within : length interim + 1536 * length rest ≤ 1536 * length bytes

interim_within : (M : Meaning) → IsBounded M → (asker : Asker) (heads : List Head) (bytes : List ℕ) (P : List ℕ → Type 0) → BeginsWithInterim M asker heads bytes P → Behind bytes (interim_text (map finish_interim heads)) P
interim_within M b asker [] bytes P h = record { rest = bytes; is = h; within = omega arith }
interim_within M b asker (head ∷ heads) bytes P h =
    let k = interim_within M b asker heads h.1 P h.5 in
    let u = b.response_heads asker.head_asked bytes h.0 h.1 h.2 in
    let w = k.within in
    let e : length (head_text (finish_interim head)) ≡ length (head_text (finish_interim h.0.head)) = ap (λ (x : Head). length (head_text (finish_interim x))) h.4 in
    record { rest = k.rest; is = k.is; within = omega (arith, length-append (head_text (finish_interim head)) (interim_text (map finish_interim heads))) }

less_interim : (t : Bool) (heads : List Head) → length (interim_text (if t then map finish_interim heads else [])) ≤ length (interim_text (map finish_interim heads))
less_interim true heads = omega arith
less_interim false heads = omega arith

-- ---- an exchange with an open server

client_gets : (M : Meaning) → IsBounded M → (request : Request M.Vars) (whole : Bool) (server : Stream) (client : List ℕ) (after : After M.Vars) → ClientGets M request whole server client after → length client ≤ 1536 * length server.bytes + 2 * M.limits.bufsize
client_gets M b request whole server client after h =
    let k = interim_within M b request.asker h.answers.heads server.bytes _ h.answers.final in
    let l = less_interim request.asker.is_http_11 h.answers.heads in
    let f = final_within M b request.asker (M.answering request.vars) server.ending k.rest k.is.0 h.answered.final h.final k.is.1 k.is.2 h.spelled in
    let w = k.within in
    let e = ap length h.text in
    let i : length (interim_text h.answered.interim) ≡ length (interim_text (sent_interim request.asker h.answers.heads)) = ap (λ (l : List Head). length (interim_text l)) h.answers.interim in
    omega (arith, length-append (interim_text h.answered.interim) h.final)

client_refused : (M : Meaning) → IsBounded M → (request : Request M.Vars) (code : ℕ) (server : Stream) (client : List ℕ) (after : After M.Vars) → IsShort M.limits.bufsize code → ClientIsRefused M request code server client after
    → (length client ≤ 1536 * length server.bytes + 2 * M.limits.bufsize) × (rest_size after ≡ 0)
client_refused M b request code server client after short h =
    let k = interim_within M b request.asker h.heads server.bytes _ h.front in
    let l = less_interim request.asker.is_http_11 h.heads in
    let f = short request.asker.head_asked h.refused h.spelled in
    let w = k.within in
    let e = ap length h.text in
    (omega (arith, length-append (interim_text (sent_interim request.asker h.heads)) h.refused), ap rest_size h.goes_on)

taken_within : (stopped : Bool) (text taken : List ℕ) → Takes stopped text taken → length taken ≤ length text
taken_within false text taken h = omega (arith, ap length h)
taken_within true text taken h = omega (arith, ap length h.1, length-append taken h.0)

server_gets : (request : Message) (whole stopped : Bool) (close : Rattle.http_model.specs.declared.Close.Close) (connects : List (Option Sent)) → (h : ServerGets request whole stopped close connects) → sum_by sent_size connects ≤ length h.text
server_gets request whole stopped close connects h =
    let t = taken_within stopped h.text h.taken h.takes in
    let e : sum_by sent_size connects ≡ 0 + length h.taken = ap (λ l. sum_by sent_size l) h.connected in
    omega arith

pub mul_suc : (a n : ℕ) → a * suc n ≡ a + a * n
mul_suc a n = grind arith

pub reply_rest : (M : Meaning) (rest : Stream) (o : Option M.Vars) → rest_size (after_reply M rest o) ≤ length rest.bytes
reply_rest M rest None = omega arith
reply_rest M rest (Some vars) = omega arith

going_rest : (M : Meaning) (request : Request M.Vars) (whole : Bool) (interim : List Head) (final : Final M.Vars)
    → rest_size (after_final M request whole (record { interim = interim; final = final })) ≤ length request.rest.bytes
going_rest M request whole interim (Refuses code method vars) = omega arith
going_rest M request whole interim (Replies m method vars) = reply_rest M request.rest _
going_rest M request whole interim (Answers m true vars) = omega arith
going_rest M request whole interim (Answers m false vars) = reply_rest M request.rest _
going_rest M request whole interim Plain = omega arith

client_rest : (M : Meaning) (request : Request M.Vars) (whole : Bool) (server : Stream) (client : List ℕ) (after : After M.Vars) → ClientGets M request whole server client after → rest_size after ≤ length request.rest.bytes
client_rest M request whole server client after h =
    let k = going_rest M request whole h.answered.interim h.answered.final in
    let e : rest_size after ≡ rest_size (after_final M request whole h.answered) = ap rest_size h.goes_on in
    omega arith

pub serves_by : (M : Meaning) → IsBounded M → (received : Received) (head : Head) (vars : M.Vars) (bytes : List ℕ) (ending : Ending) (body : BodyReading) (server : Stream) (stopped : Bool) (e : Exchange M.Vars) (cut : Option ℕ) (bit : Option Bool)
    → (request_by M received head vars ending body).cut ≡ cut → e.bit ≡ bit → request_fits M received head ≡ true → M.reads_body received.framing bytes ending body
    → Serves M (request_by M received head vars ending body) server stopped e
    → exchange_size e + 1536 * rest_size e.after ≤ 1536 * (length bytes + length server.bytes) + 3 * M.limits.bufsize
serves_by M b received head vars bytes ending body server stopped e None None c t f r h =
    let k : ServerGets (request_by M received head vars ending body).message true stopped Rattle.http_model.specs.declared.Close.TheVariants.Clean e.connects × ClientGets M (request_by M received head vars ending body) true server e.client e.after = rw (c, t) at h in
    let s = server_gets _ true stopped _ e.connects k.0 in
    let q = request_within M b received head vars bytes ending body true k.0.text f r k.0.spelled in
    let a = client_gets M b _ true server e.client e.after k.1 in
    let z = client_rest M _ true server e.client e.after k.1 in
    omega arith
serves_by M b received head vars bytes ending body server stopped e None (Some begun) c t f r h = let k : ⊥ = rw (c, t) at h in absurd k
serves_by M b received head vars bytes ending body server stopped e (Some code) None c t f r h = let k : ⊥ = rw (c, t) at h in absurd k
serves_by M b received head vars bytes ending body server stopped e (Some code) (Some true) c t f r h =
    let k : ServerGets (request_by M received head vars ending body).message false stopped Rattle.http_model.specs.declared.Close.TheVariants.Failed e.connects × ClientGets M (request_by M received head vars ending body) false server e.client e.after = rw (c, t) at h in
    let s = server_gets _ false stopped _ e.connects k.0 in
    let q = request_within M b received head vars bytes ending body false k.0.text f r k.0.spelled in
    let a = client_gets M b _ false server e.client e.after k.1 in
    let z = client_rest M _ false server e.client e.after k.1 in
    omega arith
serves_by M b received head vars bytes ending body server stopped e (Some code) (Some false) c t f r h =
    let k : ServerGets (request_by M received head vars ending body).message false stopped Rattle.http_model.specs.declared.Close.TheVariants.Failed e.connects × ClientIsRefused M (request_by M received head vars ending body) code server e.client e.after = rw (c, t) at h in
    let s = server_gets _ false stopped _ e.connects k.0 in
    let q = request_within M b received head vars bytes ending body false k.0.text f r k.0.spelled in
    let a = client_refused M b _ code server e.client e.after (cut_short M b received head vars ending body code c) k.1 in
    let w = a.0 in
    let z = a.1 in
    omega arith
