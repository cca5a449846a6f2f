-- What is decided on a stream that has no ending yet: what holds however it goes on.
use Rattle.std.specs.Prelude.{◌≡◌, ℕ, List, ◌++◌, Bool, true, Some}
use Rattle.http_model.specs.Reading.{Received, Refused, Begins, BodyReading, Whole, Broke, Bad}
use Rattle.session_model.specs.Stream.{Stream}
use Rattle.session_model.specs.Meaning.{Meaning, Filters}
use Rattle.session_model.specs.Asking.{Request}
use Rattle.session_model.specs.Answering.{Final, Refuses, Replies, Answers, Plain}

-- these bytes with a stream behind them
abbrev pub behind : (used : List ℕ) → Stream → Stream
behind used rest = record { bytes = used ++ rest.bytes; ending = rest.ending }

-- the bytes are refused as a request head, whatever follows them
abbrev pub RefusesHead : (M : Meaning) → (bytes : List ℕ) → (code : ℕ) → Type 0
RefusesHead M bytes code = (more : List ℕ) → M.reads_request (bytes ++ more) (Refused code)

-- the bytes are this request head, whatever follows them
abbrev pub IsRequestHead : (M : Meaning) → (used : List ℕ) → Received → Type 0
IsRequestHead M used received = (more : List ℕ) → M.reads_request (used ++ more) (Begins received more)

-- the bytes are this response head, whatever follows them
abbrev pub IsResponseHead : (M : Meaning) → (head_asked : Bool) → (used : List ℕ) → Received → Type 0
IsResponseHead M head_asked used received = (more : List ℕ) → M.reads_response head_asked (used ++ more) (Begins received more)

-- the body bytes of a reading
abbrev pub body_bytes : BodyReading → List ℕ
body_bytes (Whole bytes trailers rest) = bytes
body_bytes (Broke bytes) = bytes
body_bytes (Bad bytes) = bytes

-- the filters refuse the bytes so far, though some are kept back
abbrev pub RefusesSoFar : Filters → (front : List ℕ) → (code : ℕ) → Type 0
RefusesSoFar filters front code = (filters.filter_so_far front).refused ≡ Some code

-- the request is cut with this code, behind these body bytes
pub record IsCutRequest {Vars : Type 0} (request : Request Vars) (code : ℕ) (body : List ℕ) : Type 0 where
  pub cut : request.cut ≡ Some code
  pub sent : request.message.body ≡ body

-- the response is cut, behind these body bytes
abbrev pub IsCutAnswer : {Vars : Type 0} → Final Vars → (body : List ℕ) → Type 0
IsCutAnswer (Refuses code method vars) body = ⊥
IsCutAnswer (Replies m method vars) body = ⊥
IsCutAnswer (Answers m cut vars) body = (cut ≡ true) × (m.body ≡ body)
IsCutAnswer Plain body = ⊥
