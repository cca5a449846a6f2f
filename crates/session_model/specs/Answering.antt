-- What a server's stream answers.
use Rattle.std.specs.Prelude.{◌≡◌, ℕ, List, [], ◌∷◌, Bool, true, false, not, ◌&&◌, ◌||◌, if◌then◌else◌, nat_le, map, Option, Some, None, codes, is_some}
use Rattle.std.specs.Str.{bytes_eq}
use Rattle.http_model.specs.declared.Ending.{Ending}
use Rattle.http_model.specs.Blocks.{load}
use Rattle.http_model.specs.Head.{Field, Head, Message, head_blocks}
use Rattle.http_model.specs.Finish.{finish_response, finish_interim, response_framing}
use Rattle.http_model.specs.Reading.{Received, HeadReading, BodyReading}
use Rattle.http_model.specs.Reading as reading
use Rattle.session_model.specs.Stream.{Stream}
use Rattle.session_model.specs.Env.{Env, Verdict, Pass, Reply, Deny, Fail, Amended, Edited, response_env}
use Rattle.session_model.specs.Env as env
use Rattle.session_model.specs.Meaning.{Meaning, Filtered, is_bodiless, is_interim, status_of, declares_too_much, sent_body}
use Rattle.session_model.specs.Asking.{Asker}

-- The last that answers a request: a refusal, a reply of the rules, the server's message, which may be cut, or the plain
-- refusal. A refusal and a reply have the request's method and the variables in front of the rules that run on them.
pub data Final (Vars : Type 0) : Type 0 where
  Refuses : (code : ℕ) → (method : List ℕ) → Vars → Final Vars
  Replies : Message → (method : List ℕ) → Vars → Final Vars
  Answers : Message → (cut : Bool) → Vars → Final Vars
  Plain : Final Vars

-- interim heads, and then the last
pub record Answered (Vars : Type 0) : Type 0 where
  pub interim : List Head
  pub final : Final Vars

-- the length that a response without a body tells all the same: one that was declared to a HEAD, or with status 304
abbrev pub declared_for : (M : Meaning) → Asker → Received → Option ℕ
declared_for M asker received =
    if not M.response_filters.replaces && (asker.head_asked || bytes_eq (status_of received.head.line) (codes "304"))
    then received.declared else None

abbrev pub finished_response : (M : Meaning) → Asker → Received → Head → Head
finished_response M asker received head =
    finish_response head (response_framing M.response_filters.replaces asker.is_http_11 received.framing)
    (declared_for M asker received) (not asker.keep)

abbrev pub response_fits : (M : Meaning) → Asker → Received → Head → Bool
response_fits M asker received head =
    nat_le (load (head_blocks (finished_response M asker received head))) M.limits.bufsize

-- the answer that a body's reading makes: whole, or cut where the body broke off, was malformed or a filter refused it
abbrev pub answer_by : (M : Meaning) → Asker → Received → Head → M.Vars → BodyReading → Final M.Vars
answer_by M asker received head vars body = by_reading body
  where
    made : Filtered → List Field → Final M.Vars
    made sent trailers =
        Answers (record {
          head = finished_response M asker received head;
          framing = response_framing M.response_filters.replaces asker.is_http_11 received.framing;
          body = sent.output;
          trailers = trailers;
        }) (is_some sent.refused) vars

    by_reading : BodyReading → Final M.Vars
    by_reading (reading.Whole bytes trailers rest) = made (sent_body M.response_filters None bytes) trailers
    by_reading (reading.Broke bytes) = made (sent_body M.response_filters (Some 502) bytes) []
    by_reading (reading.Bad bytes) = made (sent_body M.response_filters (Some 502) bytes) []

-- the declared length of a body that there is passes a limit
abbrev pub response_declares_too_much : (M : Meaning) → Received → Bool
response_declares_too_much M received =
    declares_too_much M.response_filters received.declared && not (is_bodiless received.framing)

-- Behind the rules on all that the client is sent: plain, also where the finished head doesn't fit, or the body is read.
abbrev pub AnswersAmended : (M : Meaning) → Asker → Received → (rest : Stream) → Amended M.Vars → Final M.Vars → Type 0
AnswersAmended M asker received rest env.Plain final = final ≡ Plain
AnswersAmended M asker received rest (Edited head vars) final = by_fit (response_fits M asker received head)
  where
    by_fit : Bool → Type 0
    by_fit false = final ≡ Plain
    by_fit true =
        (body : BodyReading) × M.reads_body received.framing rest.bytes rest.ending body
        × (final ≡ answer_by M asker received head vars body)

-- Behind the rules: a declared length that passes a limit, then the rules on all that the client is sent.
abbrev pub AnswersWith : (M : Meaning) → Asker → Received → (rest : Stream) → Env M.Vars → Final M.Vars → Type 0
AnswersWith M asker received rest env final = by_length (response_declares_too_much M received)
  where
    by_length : Bool → Type 0
    by_length true = final ≡ Refuses 502 asker.method env.vars
    by_length false = AnswersAmended M asker received rest (M.after_rules env) final

-- what the rules' verdict on a final head answers
abbrev pub AnswersBy : (M : Meaning) → Asker → Received → (rest : Stream) → Verdict M.Vars → Final M.Vars → Type 0
AnswersBy M asker received rest (Deny code env) final = final ≡ Refuses code asker.method env.vars
AnswersBy M asker received rest (Fail why env) final = final ≡ Refuses 500 asker.method env.vars
AnswersBy M asker received rest (Reply m env) final = final ≡ Replies m asker.method env.vars
AnswersBy M asker received rest (Pass env) final = AnswersWith M asker received rest env final

-- what a head, or none, answers in the place of a final head
abbrev pub AnswersReading : (M : Meaning) → Asker → (before : M.Vars) → Ending → HeadReading → Final M.Vars → Type 0
AnswersReading M asker before ending reading.Nothing final = final ≡ Refuses 502 asker.method before
AnswersReading M asker before ending (reading.Refused code) final = final ≡ Refuses 502 asker.method before
AnswersReading M asker before ending (reading.Begins received rest) final =
    (is_interim received.head ≡ false)
    × AnswersBy M asker received (record { bytes = rest; ending = ending })
    (M.response_rules (response_env before asker.method received.head)) final

-- the server's bytes begin with these interim heads, and the property holds of what follows them
abbrev pub BeginsWithInterim : (M : Meaning) → Asker → List Head → List ℕ → (List ℕ → Type 0) → Type 0
BeginsWithInterim M asker [] bytes P = P bytes
BeginsWithInterim M asker (head ∷ heads) bytes P =
    (received : Received) × (rest : List ℕ) × M.reads_response asker.head_asked bytes (reading.Begins received rest)
    × (is_interim received.head ≡ true) × (head ≡ received.head) × BeginsWithInterim M asker heads rest P

-- the interim heads as the client is sent them: an HTTP/1.0 client is sent none
abbrev pub sent_interim : Asker → List Head → List Head
sent_interim asker heads = if asker.is_http_11 then map finish_interim heads else []

-- the server's stream answers this; these are the variables behind the request's rules
pub record AnswersFrom (M : Meaning) (asker : Asker) (vars : M.Vars) (server : Stream) (a : Answered M.Vars) : Type 0 where
  pub heads : List Head
  pub interim : a.interim ≡ sent_interim asker heads
  pub final : BeginsWithInterim M asker heads server.bytes (λ rest.
      (head : HeadReading) × M.reads_response asker.head_asked rest head
      × AnswersReading M asker (M.answering vars) server.ending head a.final)
