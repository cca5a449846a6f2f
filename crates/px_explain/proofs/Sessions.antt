-- What a session sends its client first is the status that is told.
use Rattle.std.proofs.Common.{◌≡◌, ◌≢◌, ℕ, List, [], ◌∷◌, ◌++◌, Bool, true, false, map, refl, sym, ap, subst, ◌∙◌}
use Rattle.std.specs.Prelude.{Option, Some, None, if◌then◌else◌}
use Rattle.std.specs.List.{flat_map, AllByRecursion}
use Rattle.std.proofs.lemmas.Bool.{false≢true}
use Rattle.std.proofs.lemmas.List.{append_assoc}
use Rattle.http_model.specs.declared.Limits.{Limits}
use Rattle.http_model.specs.declared.Ending.{Ending}
use Rattle.http_model.specs.Head.{Head, Message}
use Rattle.http_model.specs.Finish.{finish_interim}
use Rattle.http_model.specs.Reading.{HeadReading, Received, BodyReading}
use Rattle.http_model.specs.Reading as reading
use Rattle.http_model.specs.Spelling.{Spells, head_text}
use Rattle.h1_head.specs.declared.answer.Side.{Side as Reader}
use Rattle.h1_head.specs.declared.answer.Side.TheVariants as readers
use Rattle.h1_head.specs.Sides.{kind_of}
use Rattle.h1_head.specs.Stream.{HeadOf}
use Rattle.h1_head.specs.Response.{ResponseOf}
use Rattle.session_model.specs.Stream.{Stream, Server, NotThere, Open, Sent}
use Rattle.session_model.specs.Env.{Pass, Reply, Deny, Fail, Amended, Edited, Plain as Spoilt, Env, response_env}
use Rattle.session_model.specs.Meaning.{Meaning, is_interim}
use Rattle.session_model.specs.Asking.{Asker, Forwarded, Request, Asked, Nothing, Refused, Replied, Sends, asker_of, asked_of, request_by}
use Rattle.session_model.specs.Amending.{amended, reply_sent, refusal_sent, plain_refusal}
use Rattle.session_model.specs.Answering.{Final, Refuses, Replies, Answers, Plain, AnswersFrom, AnswersReading, AnswersBy, AnswersWith, AnswersAmended, BeginsWithInterim, answer_by, response_fits, response_declares_too_much}
use Rattle.http_model.specs.declared.Close.TheVariants.{Clean, Failed}
use Rattle.session_model.specs.Session.{Exchange, After, Goes, Serves, ServerGets, ClientGets, IsSaid, SpellsFinal, Follow, Out, out_of, first_bit, interim_text}
use Rattle.px_sample.specs.Variables.{Variables, no_variables}
use Rattle.http_rules.specs.declared.config.Config.{Config}
use Rattle.http_rules.specs.Lives.{answering}
use Rattle.http_rules.specs.Rules.{Comes, rules_of}
use Rattle.forward_core.specs.Meaning.Product.{meaning_of}
use Rattle.forward_core.specs.Meaning.Beginning.{beginning}
use Rattle.px_peer.specs.declared.Peer.{Peer}
use Rattle.rec_format.specs.Entries.{ServerEntry}
use Rattle.rec_format.specs.Recorded.{Visit}
use Rattle.px_explain.specs.Traced as told
use Rattle.px_explain.specs.Traced.{Traced, TraceOf, code_of, plain_code, replied, refused, answer_code, passed, judged, ruled, answered, behind_lines, IsFinal, Reads, AnswerOf}
use Rattle.px_explain.specs.Sessions.{AreEntries, BeginsWithStatus, TellsStatus, IsSessionOf}

-- the reader's law
abbrev pub OneReading : Type 0
OneReading = (side : Reader) → (limits : Limits) (stream : List ℕ) (r q : HeadReading) → HeadOf (kind_of side) limits stream r → HeadOf (kind_of side) limits stream q → r ≡ q

-- ---- texts

-- a text that spells a message begins with its status
abbrev spelled : (whole no_body : Bool) (m : Message) (text more : List ℕ) (code : ℕ) → Spells whole no_body m text → code_of m.head.line ≡ code → BeginsWithStatus code (text ++ more)
spelled whole no_body m text more code s is =
    record {
      interim = [];
      are_interim = tt;
      head = m.head;
      rest = s.body ++ more;
      text_is = ap (λ (t : List ℕ). t ++ more) s.spelled ∙ append_assoc (head_text m.head) s.body more;
      status = is;
    }

-- interim heads may stand in front
behind_interim : (heads : List Head) → AllByRecursion (λ head. is_interim head ≡ true) heads → (code : ℕ) (text : List ℕ) → (b : BeginsWithStatus code text) → b.interim ≡ [] → BeginsWithStatus code (interim_text heads ++ text)
behind_interim heads are code text b none =
    record {
      interim = heads;
      are_interim = are;
      head = b.head;
      rest = b.rest;
      text_is = ap (λ (t : List ℕ). interim_text heads ++ t) (b.text_is ∙ ap (λ (hs : List Head). interim_text hs ++ (head_text b.head ++ b.rest)) none);
      status = b.status;
    }

-- whether the connection is kept changes no status
any_keep : (M : Meaning) (m : Message) (method : List ℕ) (vars : M.Vars) (keep : Bool) → code_of (reply_sent M m method vars keep).head.line ≡ code_of (reply_sent M m method vars false).head.line
any_keep M m method vars keep = by (amended M m method vars) refl keep
  where
    by : (a : Amended M.Vars) → amended M m method vars ≡ a → (k : Bool) → code_of (reply_sent M m method vars k).head.line ≡ code_of (reply_sent M m method vars false).head.line
    by a e false = refl
    by (Edited head after) e true = rw e refl
    by Spoilt e true = rw e refl

-- ---- what a final head is answered by

-- the status of the last that answers
abbrev final_line : (M : Meaning) → Asker → Final M.Vars → ℕ
final_line M asker (Refuses code method vars) = code_of (refusal_sent M code method vars).head.line
final_line M asker (Replies m method vars) = code_of (reply_sent M m method vars asker.keep).head.line
final_line M asker (Answers m cut vars) = code_of m.head.line
final_line M asker Plain = plain_code

-- its text begins with it
final_text : (M : Meaning) (asker : Asker) (final : Final M.Vars) (text more : List ℕ) (code : ℕ) → SpellsFinal M asker final text → final_line M asker final ≡ code → (b : BeginsWithStatus code (text ++ more)) × (b.interim ≡ [])
final_text M asker (Refuses c method vars) text more code s is = (spelled true asker.head_asked (refusal_sent M c method vars) text more code s is, refl)
final_text M asker (Replies m method vars) text more code s is = (spelled true asker.head_asked (reply_sent M m method vars asker.keep) text more code s is, refl)
final_text M asker (Answers m true vars) text more code s is = (spelled false asker.head_asked m text more code s is, refl)
final_text M asker (Answers m false vars) text more code s is = (spelled true asker.head_asked m text more code s is, refl)
final_text M asker Plain text more code s is = (spelled true asker.head_asked plain_refusal text more code s is, refl)

module _ (cfg : Config) (asker : Asker) where
  by_body : (received : Received) (head : Head) (vars : Variables) (body : BodyReading) → final_line (meaning_of cfg) asker (answer_by (meaning_of cfg) asker received head vars body) ≡ code_of head.line
  by_body received head vars (reading.Whole bytes trailers rest) = refl
  by_body received head vars (reading.Broke bytes) = refl
  by_body received head vars (reading.Bad bytes) = refl

  by_fit : (received : Received) (rest : Stream) (head : Head) (vars : Variables) (final : Final Variables) (fits : Bool) → response_fits (meaning_of cfg) asker received head ≡ fits
      → AnswersAmended (meaning_of cfg) asker received rest (Edited head vars) final → final_line (meaning_of cfg) asker final ≡ (if fits then code_of head.line else plain_code)
  by_fit received rest head vars final false e h = let k : final ≡ Plain = rw e at h in ap (λ (f : Final Variables). final_line (meaning_of cfg) asker f) k
  by_fit received rest head vars final true e h =
      let k : (body : BodyReading) × (meaning_of cfg).reads_body received.framing rest.bytes rest.ending body × (final ≡ answer_by (meaning_of cfg) asker received head vars body) = rw e at h in
      ap (λ (f : Final Variables). final_line (meaning_of cfg) asker f) k.2 ∙ by_body received head vars k.0

  by_amended : (received : Received) (rest : Stream) (a : Amended Variables) (final : Final Variables) → AnswersAmended (meaning_of cfg) asker received rest a final → final_line (meaning_of cfg) asker final ≡ answer_code cfg asker received a
  by_amended received rest Spoilt final is = ap (λ (f : Final Variables). final_line (meaning_of cfg) asker f) is
  by_amended received rest (Edited head vars) final h =
      by_fit received rest head vars final (response_fits (meaning_of cfg) asker received head) refl h

  by_length : (received : Received) (rest : Stream) (env : Env Variables) (final : Final Variables) (t : Bool) → response_declares_too_much (meaning_of cfg) received ≡ t
      → AnswersWith (meaning_of cfg) asker received rest env final → Some (final_line (meaning_of cfg) asker final) ≡ (passed cfg asker received env).answer
  by_length received rest env final true e h =
      let k : final ≡ Refuses 502 asker.method env.vars = rw e at h in
      ap (λ (f : Final Variables). Some (final_line (meaning_of cfg) asker f)) k ∙ rw e refl
  by_length received rest env final false e h =
      let k : AnswersAmended (meaning_of cfg) asker received rest ((meaning_of cfg).after_rules env) final = rw e at h in
      ap (λ (n : ℕ). Some n) (by_amended received rest ((meaning_of cfg).after_rules env) final k) ∙ rw e refl

  by_verdict : (received : Received) (rest : Stream) (v : Comes) (final : Final Variables) → AnswersBy (meaning_of cfg) asker received rest v final → Some (final_line (meaning_of cfg) asker final) ≡ (judged cfg asker received v).answer
  by_verdict received rest (Deny code env) final is = ap (λ (f : Final Variables). Some (final_line (meaning_of cfg) asker f)) is
  by_verdict received rest (Fail why env) final is = ap (λ (f : Final Variables). Some (final_line (meaning_of cfg) asker f)) is
  by_verdict received rest (Reply m env) final is =
      ap (λ (f : Final Variables). Some (final_line (meaning_of cfg) asker f)) is ∙ ap (λ (n : ℕ). Some n) (any_keep (meaning_of cfg) m asker.method env.vars asker.keep)
  by_verdict received rest (Pass env) final h = by_length received rest env final (response_declares_too_much (meaning_of cfg) received) refl h

  by_reading : (before : Variables) (ending : Ending) (head : HeadReading) (final : Final Variables) → AnswersReading (meaning_of cfg) asker before ending head final → Some (final_line (meaning_of cfg) asker final) ≡ (answered cfg asker before head).answer
  by_reading before ending reading.Nothing final is = ap (λ (f : Final Variables). Some (final_line (meaning_of cfg) asker f)) is
  by_reading before ending (reading.Refused code) final is = ap (λ (f : Final Variables). Some (final_line (meaning_of cfg) asker f)) is
  by_reading before ending (reading.Begins received rest) final h =
      by_verdict received (record { bytes = rest; ending = ending }) (rules_of cfg.limits.bufsize cfg.response (response_env before asker.method received.head)) final h.1

  -- ---- the same head decides

  final_of : (before : Variables) (ending : Ending) (head : HeadReading) (final : Final Variables) → AnswersReading (meaning_of cfg) asker before ending head final → IsFinal head
  final_of before ending reading.Nothing final h = tt
  final_of before ending (reading.Refused code) final h = tt
  final_of before ending (reading.Begins received rest) final h = h.0

  -- an interim head is no final one
  pub never : (one : OneReading) (stream : List ℕ) (received : Received) (rest : List ℕ) (head : HeadReading) → ResponseOf asker.head_asked cfg.limits stream (reading.Begins received rest) → is_interim received.head ≡ true
      → ResponseOf asker.head_asked cfg.limits stream head → IsFinal head → ⊥
  never one stream received rest head r on q final =
      let same : head ≡ reading.Begins received rest = one (readers.Response asker.head_asked) cfg.limits stream head (reading.Begins received rest) q r in
      let is : is_interim received.head ≡ false = subst (λ (h : HeadReading). IsFinal h) same final in
      false≢true (sym is ∙ on)

  -- the status of the answer is the one that is told
  meets : (one : OneReading) (before : Variables) (ending : Ending) (traced : Traced) (final : Final Variables) (heads others : List Head) (stream : List ℕ)
      → BeginsWithInterim (meaning_of cfg) asker heads stream (λ rest. (head : HeadReading) × (meaning_of cfg).reads_response asker.head_asked rest head × AnswersReading (meaning_of cfg) asker before ending head final)
      → BeginsWithInterim (meaning_of cfg) asker others stream (Reads cfg asker before traced)
      → Some (final_line (meaning_of cfg) asker final) ≡ traced.answer
  meets one before ending traced final [] [] stream a b =
      let same : a.0 ≡ b.head = one (readers.Response asker.head_asked) cfg.limits stream a.0 b.head a.1 b.reads in
      by_reading before ending a.0 final a.2 ∙ (ap (λ (h : HeadReading). (answered cfg asker before h).answer) same ∙ sym (ap (λ (t : Traced). t.answer) b.is))
  meets one before ending traced final [] (other ∷ others) stream a b =
      absurd (never one stream b.0 b.1 a.0 b.2 b.3 a.1 (final_of before ending a.0 final a.2))
  meets one before ending traced final (head ∷ heads) [] stream a b = absurd (never one stream a.0 a.1 b.head a.2 a.3 b.reads b.final)
  meets one before ending traced final (head ∷ heads) (other ∷ others) stream a b =
      let same : reading.Begins a.0 a.1 ≡ reading.Begins b.0 b.1 = one (readers.Response asker.head_asked) cfg.limits stream (reading.Begins a.0 a.1) (reading.Begins b.0 b.1) a.2 b.2 in
      let rest : a.1 ≡ b.1 = ap rest_of same in
      meets one before ending traced final heads others a.1 a.5 (subst (λ (r : List ℕ). BeginsWithInterim (meaning_of cfg) asker others r (Reads cfg asker before traced)) (sym rest) b.5)
    where
      rest_of : HeadReading → List ℕ
      rest_of reading.Nothing = []
      rest_of (reading.Refused code) = []
      rest_of (reading.Begins received rest) = rest

  -- what the client is sent of interim heads is interim heads
  interim_sent : (heads : List Head) (stream : List ℕ) (P : List ℕ → Type 0) → BeginsWithInterim (meaning_of cfg) asker heads stream P → AllByRecursion (λ head. is_interim head ≡ true) (map finish_interim heads)
  interim_sent [] stream P h = tt
  interim_sent (head ∷ heads) stream P h = (ap (λ (x : Head). is_interim x) h.4 ∙ h.3, interim_sent heads h.1 P h.5)

  sent_by : (t : Bool) (heads : List Head) → AllByRecursion (λ head. is_interim head ≡ true) (map finish_interim heads) → AllByRecursion (λ head. is_interim head ≡ true) (if t then map finish_interim heads else [])
  sent_by true heads all = all
  sent_by false heads all = tt

  -- the text that a client gets of a server's answer
  gets : (one : OneReading) (request : Request Variables) (whole : Bool) (server : Stream) (client more : List ℕ) (after : After Variables) (traced : Traced) → request.asker ≡ asker
      → ClientGets (meaning_of cfg) request whole server client after → AnswerOf cfg asker request.vars server.bytes traced → TellsStatus traced.answer (client ++ more)
  gets one request whole server client more after traced is g a =
      let answers : AnswersFrom (meaning_of cfg) asker request.vars server g.answered = subst (λ (k : Asker). AnswersFrom (meaning_of cfg) k request.vars server g.answered) is g.answers in
      let text : SpellsFinal (meaning_of cfg) asker g.answered.final g.final = subst (λ (k : Asker). SpellsFinal (meaning_of cfg) k g.answered.final g.final) is g.spelled in
      let same : Some (final_line (meaning_of cfg) asker g.answered.final) ≡ traced.answer = meets one (answering request.vars) server.ending traced g.answered.final answers.heads a.heads server.bytes answers.final a.begins in
      let all : AllByRecursion (λ head. is_interim head ≡ true) g.answered.interim = subst (λ (hs : List Head). AllByRecursion (λ head. is_interim head ≡ true) hs) (sym answers.interim) (sent_by asker.is_http_11 answers.heads (interim_sent answers.heads server.bytes _ answers.final)) in
      let t = final_text (meaning_of cfg) asker g.answered.final g.final more (final_line (meaning_of cfg) asker g.answered.final) text refl in
      let whole_text : client ++ more ≡ interim_text g.answered.interim ++ (g.final ++ more) = ap (λ (c : List ℕ). c ++ more) g.text ∙ append_assoc (interim_text g.answered.interim) g.final more in
      subst (λ (o : Option ℕ). TellsStatus o (client ++ more)) same
      (subst (λ (c : List ℕ). BeginsWithStatus (final_line (meaning_of cfg) asker g.answered.final) c) (sym whole_text)
      (behind_interim g.answered.interim all (final_line (meaning_of cfg) asker g.answered.final) (g.final ++ more) t.0 t.1))

-- ---- one exchange

module _ (cfg : Config) (one : OneReading) (more : List ℕ) where
  -- a message that is said
  says : (m : Message) (no_body : Bool) (connects : List (Option Sent)) (after : After Variables) (e : Exchange Variables) (code : Option ℕ) → Some (code_of m.head.line) ≡ code → IsSaid m no_body connects after e → TellsStatus code (e.client ++ more)
  says m no_body connects after e code is s =
      let text : e.client ≡ s.said = ap (λ (x : Exchange Variables). x.client) s.exchange in
      subst (λ (o : Option ℕ). TellsStatus o (e.client ++ more)) is
      (subst (λ (c : List ℕ). BeginsWithStatus (code_of m.head.line) (c ++ more)) (sym text) (spelled true no_body m s.said more (code_of m.head.line) s.spelled refl))

  asker_is : (received : Received) (head : Head) (vars : Variables) (ending : Ending) (body : BodyReading) → (request_by (meaning_of cfg) received head vars ending body).asker ≡ asker_of received head
  asker_is received head vars ending (reading.Whole bytes trailers rest) = refl
  asker_is received head vars ending (reading.Broke bytes) = refl
  asker_is received head vars ending (reading.Bad bytes) = refl

  vars_is : (received : Received) (head : Head) (vars : Variables) (ending : Ending) (body : BodyReading) → (request_by (meaning_of cfg) received head vars ending body).vars ≡ vars
  vars_is received head vars ending (reading.Whole bytes trailers rest) = refl
  vars_is received head vars ending (reading.Broke bytes) = refl
  vars_is received head vars ending (reading.Bad bytes) = refl

  serves : (received : Received) (head : Head) (vars : Variables) (ending : Ending) (body : BodyReading) (server : Stream) (stopped : Bool) (e : Exchange Variables) (traced : Traced) (cut : Option ℕ) (bit : Option Bool)
      → (request_by (meaning_of cfg) received head vars ending body).cut ≡ cut → e.bit ≡ bit → e.bit ≢ Some false → AnswerOf cfg (asker_of received head) vars server.bytes traced
      → Serves (meaning_of cfg) (request_by (meaning_of cfg) received head vars ending body) server stopped e → TellsStatus traced.answer (e.client ++ more)
  serves received head vars ending body server stopped e traced None None c t not a h =
      let k : ServerGets (request_by (meaning_of cfg) received head vars ending body).message true stopped Clean e.connects × ClientGets (meaning_of cfg) (request_by (meaning_of cfg) received head vars ending body) true server e.client e.after = rw (c, t) at h in
      gets cfg (asker_of received head) one (request_by (meaning_of cfg) received head vars ending body) true server e.client more e.after traced (asker_is received head vars ending body) k.1
      (subst (λ (v : Variables). AnswerOf cfg (asker_of received head) v server.bytes traced) (sym (vars_is received head vars ending body)) a)
  serves received head vars ending body server stopped e traced None (Some begun) c t not a h = let k : ⊥ = rw (c, t) at h in absurd k
  serves received head vars ending body server stopped e traced (Some code) None c t not a h = let k : ⊥ = rw (c, t) at h in absurd k
  serves received head vars ending body server stopped e traced (Some code) (Some true) c t not a h =
      let k : ServerGets (request_by (meaning_of cfg) received head vars ending body).message false stopped Failed e.connects × ClientGets (meaning_of cfg) (request_by (meaning_of cfg) received head vars ending body) false server e.client e.after = rw (c, t) at h in
      gets cfg (asker_of received head) one (request_by (meaning_of cfg) received head vars ending body) false server e.client more e.after traced (asker_is received head vars ending body) k.1
      (subst (λ (v : Variables). AnswerOf cfg (asker_of received head) v server.bytes traced) (sym (vars_is received head vars ending body)) a)
  serves received head vars ending body server stopped e traced (Some code) (Some false) c t not a h = absurd (not t)

  -- a head that goes to a server
  sends : (f : Forwarded Variables) (entries : List (Option ServerEntry)) (servers left : List Server) (e : Exchange Variables) (traced : Traced) → AreEntries entries servers → e.bit ≢ Some false
      → told.Serves cfg f entries traced → Goes (meaning_of cfg) (Sends f) servers left e → TellsStatus traced.answer (e.client ++ more)
  sends f entries [] left e traced are not a h = absurd h
  sends f [] (NotThere ∷ servers) left e traced are not a h = says _ _ _ _ e traced.answer (sym (ap (λ (t : Traced). t.answer) a)) h.1
  sends f (None ∷ entries) (NotThere ∷ servers) left e traced are not a h = says _ _ _ _ e traced.answer (sym (ap (λ (t : Traced). t.answer) a)) h.1
  sends f (Some entry ∷ entries) (NotThere ∷ servers) left e traced are not a h = absurd are.0
  sends f [] (Open server stopped ∷ servers) left e traced are not a h = absurd are.0
  sends f (None ∷ entries) (Open server stopped ∷ servers) left e traced are not a h = absurd are.0
  sends f (Some entry ∷ entries) (Open server stopped ∷ servers) left e traced are not a h =
      let body : BodyReading = h.1.0 in
      serves f.received f.head f.vars f.rest.ending body server stopped e traced (request_by (meaning_of cfg) f.received f.head f.vars f.rest.ending body).cut e.bit refl refl not
      (subst (λ (s : Stream). AnswerOf cfg (asker_of f.received f.head) f.vars s.bytes traced) (sym are.0) a) h.1.2

  goes : (asked : Asked Variables) (entries : List (Option ServerEntry)) (servers left : List Server) (e : Exchange Variables) (traced : Traced) → AreEntries entries servers → e.bit ≢ Some false
      → told.Answers cfg asked entries traced → Goes (meaning_of cfg) asked servers left e → TellsStatus traced.answer (e.client ++ more)
  goes Nothing entries servers left e traced are not a h = absurd h
  goes (Refused code no_body method vars) entries servers left e traced are not a h = says _ no_body _ _ e traced.answer (sym (ap (λ (t : Traced). t.answer) a)) h.1
  goes (Replied m no_body keep rest method vars) entries servers left e traced are not a h =
      says _ no_body _ _ e traced.answer (ap (λ (n : ℕ). Some n) (any_keep (meaning_of cfg) m method (answering vars) keep) ∙ sym (ap (λ (t : Traced). t.answer) a)) h.1
  goes (Sends f) entries servers left e traced are not a h = sends f entries servers left e traced are not a h

-- ---- a session

nothing_asked : (cfg : Config) (asked : Asked Variables) (entries : List (Option ServerEntry)) (behind : Traced) → asked ≡ Nothing → told.Answers cfg asked entries behind → behind.answer ≡ None
nothing_asked cfg Nothing entries behind is a = ap (λ (t : Traced). t.answer) a
nothing_asked cfg (Refused code no_body method vars) entries behind is a = cc
nothing_asked cfg (Replied m no_body keep rest method vars) entries behind is a = cc
nothing_asked cfg (Sends f) entries behind is a = cc

either : (bit later : Option Bool) (e : Exchange Variables) (es : List (Exchange Variables)) → e.bit ≡ bit → first_bit (e ∷ es) ≢ Some false → e.bit ≢ Some false
either (Some begun) later e es is not on = let same : first_bit (e ∷ es) ≡ Some begun = rw is refl in not (same ∙ (sym is ∙ on))
either None later e es is not on = cc

module _ (cfg : Config) (visit : Visit) (traced : Traced) (out : Out) (one : OneReading) (t : TraceOf cfg visit traced) (s : IsSessionOf cfg visit out) where
  answer_is : t.behind.answer ≡ traced.answer
  answer_is = sym (ap (λ (x : Traced). x.answer) t.is)

  -- no peer is told, so no variable is set
  follow : Follow (meaning_of cfg) s.session.exchanges no_variables visit.client s.servers out.how
  follow = subst (λ (p : Option Peer). Follow (meaning_of cfg) s.session.exchanges (beginning p) visit.client s.servers out.how) s.nobody s.session.follow

  by : (es : List (Exchange Variables)) → s.session.exchanges ≡ es → TellsStatus traced.answer out.client.bytes
  by [] is =
      let f : Follow (meaning_of cfg) [] no_variables visit.client s.servers out.how = subst (λ (es : List (Exchange Variables)). Follow (meaning_of cfg) es no_variables visit.client s.servers out.how) is follow in
      let same : t.head ≡ f.0.head = one readers.Request cfg.limits visit.client.bytes t.head f.0.head t.reads f.0.reads in
      let none : asked_of (meaning_of cfg) no_variables visit.client.ending t.head ≡ Nothing = ap (λ (h : HeadReading). asked_of (meaning_of cfg) no_variables visit.client.ending h) same ∙ sym f.0.asks in
      let empty : out.client.bytes ≡ [] = ap (λ (o : Out). o.client.bytes) s.session.comes_to ∙ ap (λ (es : List (Exchange Variables)). (out_of es out.how).client.bytes) is in
      subst (λ (o : Option ℕ). TellsStatus o out.client.bytes) (sym (nothing_asked cfg (asked_of (meaning_of cfg) no_variables visit.client.ending t.head) visit.servers t.behind none t.answers) ∙ answer_is) empty
  by (e ∷ es) is =
      let f : Follow (meaning_of cfg) (e ∷ es) no_variables visit.client s.servers out.how = subst (λ (es : List (Exchange Variables)). Follow (meaning_of cfg) es no_variables visit.client s.servers out.how) is follow in
      let same : t.head ≡ f.2.head = one readers.Request cfg.limits visit.client.bytes t.head f.2.head t.reads f.2.reads in
      let asked : asked_of (meaning_of cfg) no_variables visit.client.ending t.head ≡ f.0 = ap (λ (h : HeadReading). asked_of (meaning_of cfg) no_variables visit.client.ending h) same ∙ sym f.2.asks in
      let text : out.client.bytes ≡ e.client ++ flat_map (λ (x : Exchange Variables). x.client) es = ap (λ (o : Out). o.client.bytes) s.session.comes_to ∙ ap (λ (es : List (Exchange Variables)). (out_of es out.how).client.bytes) is in
      let bit : out.cut ≡ first_bit (e ∷ es) = ap (λ (o : Out). o.cut) s.session.comes_to ∙ ap (λ (es : List (Exchange Variables)). first_bit es) is in
      let not : e.bit ≢ Some false = either e.bit None e es refl (λ on. s.uncut (bit ∙ on)) in
      subst (λ (o : Option ℕ). TellsStatus o out.client.bytes) answer_is
      (subst (λ (c : List ℕ). TellsStatus t.behind.answer c) (sym text)
      (goes cfg one (flat_map (λ (x : Exchange Variables). x.client) es) f.0 visit.servers s.servers f.1 e t.behind s.found not
      (subst (λ (a : Asked Variables). told.Answers cfg a visit.servers t.behind) asked t.answers) f.3))

  pub answers_so : TellsStatus traced.answer out.client.bytes
  answers_so = by s.session.exchanges refl
