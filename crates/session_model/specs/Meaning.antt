-- What the layers below give to a session: reading of heads and bodies, rules, filters.
use Rattle.std.specs.Prelude.{◌≡◌, ℕ, List, [], ◌++◌, Bool, true, false, not, ◌&&◌, ◌==◌, Option, Some, None, codes}
use Rattle.std.specs.Str.{bytes_eq}
use Rattle.http_model.specs.declared.Framing.{Framing}
use Rattle.http_model.specs.declared.Framing.TheVariants.{Absent, Length, Chunked, ToClose}
use Rattle.http_model.specs.declared.Limits.{Limits}
use Rattle.http_model.specs.declared.Ending.{Ending}
use Rattle.http_model.specs.Head.{Head, StartLine, RequestLine, StatusLine}
use Rattle.http_model.specs.Fields.{has_field}
use Rattle.http_model.specs.Reading.{Received, HeadReading, BodyReading}
use Rattle.session_model.specs.Env.{Env, Verdict, Amended, method_of}

-- what filters make of a whole body: its new bytes, and the code of the refusal where one refused
pub record Filtered : Type 0 where
  pub output : List ℕ
  pub refused : Option ℕ

-- The filters of one direction: what they make of a whole body; what they make of the bytes so far, where more may come
-- and some are kept back; whether they replace bytes; and whether a declared length passes a limit that stands in front of
-- any replacement.
pub record Filters : Type 0 where
  pub filter : List ℕ → Filtered
  pub filter_so_far : List ℕ → Filtered
  pub replaces : Bool
  pub passes_limit : ℕ → Bool

-- What is made of the bytes so far holds however the body goes on: the whole body's output begins with it, and a refusal
-- that was made stands, with nothing more behind it.
pub record HoldsOn (filters : Filters) : Type 0 where
  pub gives : (front rest : List ℕ)
      → (more : List ℕ) × ((filters.filter (front ++ rest)).output ≡ (filters.filter_so_far front).output ++ more)
  pub refuses : (front rest : List ℕ) (code : ℕ)
      → (filters.filter_so_far front).refused ≡ Some code → filters.filter (front ++ rest) ≡ filters.filter_so_far front

-- The meaning that a configuration and the layers below give. Readers are relations between a whole stream and its one
-- reading; the variables are those that live as long as the session and those of one exchange.
pub record Meaning : Type 1 where
  pub limits : Limits
  pub Vars : Type 0
  -- the variables of a new session
  pub begins : Vars
  -- what they are when the next exchange begins
  pub renewed : Vars → Vars
  -- what they are when the first rules run on an answer, a reply or a refusal
  pub answering : Vars → Vars
  pub reads_request : List ℕ → HeadReading → Type 0
  pub reads_response : (head_asked : Bool) → List ℕ → HeadReading → Type 0
  pub reads_body : Framing → List ℕ → Ending → BodyReading → Type 0
  pub request_rules : Env Vars → Verdict Vars
  pub response_rules : Env Vars → Verdict Vars
  -- the rules on each final answer, reply and refusal
  pub after_rules : Env Vars → Amended Vars
  pub request_filters : Filters
  pub response_filters : Filters

-- ---- what a head says of its connection

abbrev pub version_of : StartLine → List ℕ
version_of (RequestLine method target version) = version
version_of (StatusLine version status reason) = version

abbrev pub status_of : StartLine → List ℕ
status_of (RequestLine method target version) = []
status_of (StatusLine version status reason) = status

-- the request is HTTP/1.1, so its client knows chunks and interim responses
abbrev pub is_http_11 : Head → Bool
is_http_11 head = bytes_eq (version_of head.line) (codes "HTTP/1.1")

-- the method is HEAD, to which no body is written (RFC 9110 section 9.3.2)
abbrev pub is_head_request : Head → Bool
is_head_request head = bytes_eq (method_of head.line) (codes "HEAD")

-- the connection may be kept behind this request
abbrev pub keeps : Received → Bool
keeps received = is_http_11 received.head && not received.close && not (has_field (codes "expect") received.head.fields)

-- no body follows the head
abbrev pub is_bodiless : Framing → Bool
is_bodiless Absent = true
is_bodiless (Length n) = n == 0
is_bodiless Chunked = false
is_bodiless ToClose = false

-- an interim response: its status is 100 to 199 (RFC 9110 section 15.2)
abbrev pub is_interim : Head → Bool
is_interim head = begins_with_1 (status_of head.line)
  where
    begins_with_1 : List ℕ → Bool
    begins_with_1 status = bytes_eq (Rattle.std.specs.Prelude.take 1 status) (codes "1")

-- the length is declared and passes a limit
abbrev pub declares_too_much : Filters → Option ℕ → Bool
declares_too_much filters None = false
declares_too_much filters (Some n) = filters.passes_limit n

-- what a body comes to behind the filters: the bytes sent, and the code of the cut where it is cut
abbrev pub sent_body : Filters → (cut : Option ℕ) → (body : List ℕ) → Filtered
sent_body filters cut body = by_refusal (filters.filter body).refused
  where
    by_refusal : Option ℕ → Filtered
    by_refusal (Some code) = record { output = (filters.filter body).output; refused = Some code }
    by_refusal None = record { output = (filters.filter body).output; refused = cut }
