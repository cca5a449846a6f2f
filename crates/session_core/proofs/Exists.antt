-- Every stream has a session in which each server is refused.
use Rattle.std.proofs.Common.{◌≡◌, ◌≢◌, ℕ, ◌<◌, suc, zero, List, [], ◌∷◌, ◌++◌, Bool, true, false, ◌&&◌, Option, Some, None, length, refl, arith, replicate}
use Rattle.std.specs.List.{flat_map}
use Rattle.std.proofs.lemmas.List.{append-nil}
use Rattle.std.proofs.lemmas.List.Elements.{All-nil, All-cons}
use Rattle.http_model.specs.declared.End.{End}
use Rattle.http_model.specs.declared.End.TheVariants as end
use Rattle.http_model.specs.declared.Framing.{Framing}
use Rattle.http_model.specs.declared.Framing.TheVariants as framing
use Rattle.http_model.specs.Head.{Field, Head, Message}
use Rattle.http_model.specs.Reading.{HeadReading, Received, BodyReading}
use Rattle.http_model.specs.Reading as reading
use Rattle.http_model.specs.Spelling.{Spells, SpellsChunks, SpellsBody, SpellsBodyUnless, chunk_text, chunks_end, head_text}
use Rattle.session_model.specs.Stream.{Stream, NotThere}
use Rattle.session_model.specs.Env.{Verdict, Pass, Reply, Deny, Fail, request_env, method_of, method_in}
use Rattle.session_model.specs.Meaning.{Meaning, keeps, is_head_request, is_bodiless, declares_too_much}
use Rattle.session_model.specs.Asking.{Forwarded, Asked, asked_by, forwards, Asks, Refused, Replied, Sends, request_fits}
use Rattle.session_model.specs.Amending.{reply_sent, refusal_sent, behind_reply}
use Rattle.session_model.specs.Session.{Exchange, After, Over, Next, Follow, GoesOn, Goes, first_bit}
use Rattle.session_core.proofs.Said.{replied_exchange, is_replied}
use Rattle.session_core.specs.Consequences.{IsTotal}

-- ---- every message has a spelling

chunks_exist : (body : List ℕ) → (text : List ℕ) × SpellsChunks body text
chunks_exist [] = ([], record { chunks = []; nonempty = All-nil (λ chunk. chunk ≢ []); joined = refl; spelled = refl })
chunks_exist (x ∷ xs) = (
  flat_map chunk_text ((x ∷ xs) ∷ []),
  record {
    chunks = (x ∷ xs) ∷ [];
    nonempty = All-cons (λ chunk. chunk ≢ []) (x ∷ xs) [] (λ e. grind arith) (All-nil (λ chunk. chunk ≢ []));
    joined = append-nil (x ∷ xs);
    spelled = refl;
  },
)

body_exists : (whole : Bool) (framed : Framing) (body : List ℕ) (trailers : List Field) → (text : List ℕ) × SpellsBody whole framed body trailers text
body_exists whole framing.Absent body trailers = ([], refl)
body_exists whole (framing.Length n) body trailers = (body, refl)
body_exists whole framing.ToClose body trailers = (body, refl)
body_exists true framing.Chunked body trailers =
    let c : (text : List ℕ) × SpellsChunks body text = chunks_exist body in (c.0 ++ chunks_end trailers, (c.0, c.1, refl))
body_exists false framing.Chunked body trailers = chunks_exist body

unless_exists : (no_body whole : Bool) (m : Message) → (text : List ℕ) × SpellsBodyUnless no_body whole m text
unless_exists true whole m = ([], refl)
unless_exists false whole m = body_exists whole m.framing m.body m.trailers

pub spelling_exists : (whole no_body : Bool) (m : Message) → (text : List ℕ) × Spells whole no_body m text
spelling_exists whole no_body m =
    let b : (text : List ℕ) × SpellsBodyUnless no_body whole m text = unless_exists no_body whole m in
    (head_text m.head ++ b.0, record { body = b.0; spelled = refl; spells_body = b.1 })

-- ---- every stream has a session

-- some exchanges follow, in which each server is refused
pub record Exists (M : Meaning) (vars : M.Vars) (client : Stream) : Type 0 where
  pub exchanges : List (Exchange M.Vars)
  pub how : End
  pub refused : ℕ
  pub follow : Follow M exchanges vars client (replicate refused NotThere) how
  pub uncut : first_bit exchanges ≡ None

one_exists : (M : Meaning) (vars : M.Vars) (client : Stream) (asked : Asked M.Vars) (refused : ℕ) (text : List ℕ) (connects : _)
    → Asks M vars client asked
    → Goes M asked (replicate refused NotThere) [] (record { connects = connects; client = text; bit = None; after = Over end.Closed })
    → Exists M vars client
one_exists M vars client asked refused text connects asks goes =
    record {
      exchanges = record { connects = connects; client = text; bit = None; after = Over end.Closed } ∷ [];
      how = end.Closed;
      refused = refused;
      follow = (asked, [], asks, goes, (refl, refl, refl));
      uncut = refl;
    }

refusal_exists : (M : Meaning) (vars : M.Vars) (client : Stream) (code : ℕ) (no_body : Bool) (method : List ℕ) (behind : M.Vars) → Asks M vars client (Refused code no_body method behind) → Exists M vars client
refusal_exists M vars client code no_body method behind asks =
    let m : Message = refusal_sent M code method (M.answering behind) in
    let t : (text : List ℕ) × Spells true no_body m text = spelling_exists true no_body m in
    one_exists M vars client (Refused code no_body method behind) 0 t.0 [] asks (refl, record { said = t.0; spelled = t.1; exchange = refl })

-- ---- a session of each stream

unserved_exists : (M : Meaning) (vars : M.Vars) (client : Stream) (f : Forwarded M.Vars) → Asks M vars client (Sends f) → Exists M vars client
unserved_exists M vars client f asks =
    let m : Message = refusal_sent M 503 (method_of f.head.line) (M.answering f.vars) in
    let t : (text : List ℕ) × Spells true (is_head_request f.received.head) m text = spelling_exists true (is_head_request f.received.head) m in
    one_exists M vars client (Sends f) 1 t.0 (None ∷ []) asks (refl, record { said = t.0; spelled = t.1; exchange = refl })

reply_exists : (M : Meaning) (vars : M.Vars) (client : Stream) (m : Message) (no_body keep : Bool) (rest : Stream) (method : List ℕ) (next : M.Vars)
    → Asks M vars client (Replied m no_body keep rest method next) → ((after : M.Vars) → Exists M after rest) → Exists M vars client
reply_exists M vars client m no_body keep rest method next asks on =
    let t : (text : List ℕ) × Spells true no_body (reply_sent M m method (M.answering next) keep) text = spelling_exists true no_body (reply_sent M m method (M.answering next) keep) in
    by t.0 t.1 (behind_reply M m method (M.answering next) keep) refl
  where
    by : (text : List ℕ) → Spells true no_body (reply_sent M m method (M.answering next) keep) text → (behind : Option M.Vars) → behind_reply M m method (M.answering next) keep ≡ behind → Exists M vars client
    by text spelled None is =
        one_exists M vars client (Replied m no_body keep rest method next) 0 text [] asks (refl, is_replied M m no_body keep rest method next None text spelled is)
    by text spelled (Some after) is =
        let x : Exists M (M.renewed after) rest = on (M.renewed after) in
        record {
          exchanges = replied_exchange M rest text (Some after) ∷ x.exchanges;
          how = x.how;
          refused = x.refused;
          follow = (Replied m no_body keep rest method next, replicate x.refused NotThere, asks, (refl, is_replied M m no_body keep rest method next (Some after) text spelled is), x.follow);
          uncut = x.uncut;
        }

forward_exists : (M : Meaning) (vars : M.Vars) (client : Stream) (received : Received) (rest : Stream) (head : Head) (next : M.Vars)
    → ((asked : Asked M.Vars) → asked ≡ forwards M received head next rest → Asks M vars client asked)
    → (long fits : Bool) → declares_too_much M.request_filters received.declared ≡ long → request_fits M received head ≡ fits
    → Exists M vars client
forward_exists M vars client received rest head next up true fits l f =
    refusal_exists M vars client 413 (is_head_request received.head) (method_of head.line) next (up (Refused 413 (is_head_request received.head) (method_of head.line) next) (rw l refl))
forward_exists M vars client received rest head next up false false l f =
    refusal_exists M vars client 500 (is_head_request received.head) (method_of head.line) next (up (Refused 500 (is_head_request received.head) (method_of head.line) next) (rw l (rw f refl)))
forward_exists M vars client received rest head next up false true l f =
    unserved_exists M vars client (record { received = received; head = head; vars = next; rest = rest })
    (up (Sends (record { received = received; head = head; vars = next; rest = rest })) (rw l (rw f refl)))

verdict_exists : (M : Meaning) (vars : M.Vars) (client : Stream) (received : Received) (rest : Stream) (v : Verdict M.Vars)
    → ((asked : Asked M.Vars) → asked ≡ asked_by M received rest v → Asks M vars client asked)
    → ((next : M.Vars) → Exists M next rest)
    → Exists M vars client
verdict_exists M vars client received rest (Deny code env) up on =
    refusal_exists M vars client code (is_head_request received.head) (method_in env) env.vars (up (Refused code (is_head_request received.head) (method_in env) env.vars) refl)
verdict_exists M vars client received rest (Fail why env) up on =
    refusal_exists M vars client 500 (is_head_request received.head) (method_in env) env.vars (up (Refused 500 (is_head_request received.head) (method_in env) env.vars) refl)
verdict_exists M vars client received rest (Reply m env) up on =
    reply_exists M vars client m (is_head_request received.head) (keeps received && is_bodiless received.framing) rest (method_in env) env.vars
    (up (Replied m (is_head_request received.head) (keeps received && is_bodiless received.framing) rest (method_in env) env.vars) refl) on
verdict_exists M vars client received rest (Pass env) up on =
    forward_exists M vars client received rest env.head env.vars up (declares_too_much M.request_filters received.declared) (request_fits M received env.head) refl refl

head_exists : (M : Meaning) → IsTotal M → (vars : M.Vars) (client : Stream) (r : HeadReading) → M.reads_request client.bytes r
    → ((next : M.Vars) (rest : List ℕ) → length rest < length client.bytes → Exists M next (record { bytes = rest; ending = client.ending }))
    → Exists M vars client
head_exists M total vars client reading.Nothing reads on =
    record { exchanges = []; how = end.Done; refused = 0; follow = (record { head = reading.Nothing; reads = reads; asks = refl }, refl, refl); uncut = refl }
head_exists M total vars client (reading.Refused code) reads on =
    refusal_exists M vars client code false [] vars (record { head = reading.Refused code; reads = reads; asks = refl })
head_exists M total vars client (reading.Begins received rest) reads on =
    verdict_exists M vars client received (record { bytes = rest; ending = client.ending }) (M.request_rules (request_env vars received.head))
    (λ asked h. record { head = reading.Begins received rest; reads = reads; asks = h })
    (λ next. on next rest (total.shorter client.bytes received rest reads))

exists_within : (M : Meaning) → IsTotal M → (n : ℕ) (vars : M.Vars) (client : Stream) → length client.bytes < n → Exists M vars client
exists_within M total zero vars client short = absurd (omega (arith, short))
exists_within M total (suc n) vars client short =
    let h = total.heads client.bytes in
    head_exists M total vars client h.0 h.1 (λ next rest less. exists_within M total n next (record { bytes = rest; ending = client.ending }) (omega (arith, less, short)))

pub session_exists : (M : Meaning) → IsTotal M → (vars : M.Vars) (client : Stream) → Exists M vars client
session_exists M total vars client = exists_within M total (suc (length client.bytes)) vars client (omega arith)

-- ---- behind one exchange

pub record GoesOnSo (M : Meaning) (a : After M.Vars) : Type 0 where
  pub more : List (Exchange M.Vars)
  pub how : End
  pub refused : ℕ
  pub on : GoesOn a more (replicate refused NotThere) how (λ rest next. Follow M more next rest (replicate refused NotThere) how)
  pub uncut : first_bit more ≡ None

pub goes_on_so : (M : Meaning) → IsTotal M → (a : After M.Vars) → GoesOnSo M a
goes_on_so M total (Over how) = record { more = []; how = how; refused = 0; on = (refl, refl, refl); uncut = refl }
goes_on_so M total (Next rest vars) =
    let x : Exists M vars rest = session_exists M total vars rest in
    record { more = x.exchanges; how = x.how; refused = x.refused; on = x.follow; uncut = x.uncut }
