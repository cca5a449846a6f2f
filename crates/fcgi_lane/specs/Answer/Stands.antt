-- What a translator stands for.
use Rattle.std.specs.Prelude.{◌≡◌, ◌≤◌, ℕ, true, length, List, [], ◌++◌, None, ⊤}
use Rattle.fcgi_lane.specs.Answer.Flow.{Flow, Place, fresh, is_going}
use Rattle.fcgi_lane.specs.Answer.Head.{head_at}
use Rattle.fcgi_lane.specs.Answer.Cgi.{HttpStream, HeadAt, InHead, Behind, NoHead, left_of, cgi_of}

-- a stream, of which these bytes were given already
abbrev pub behind_given : (given : List ℕ) → HttpStream → HttpStream
behind_given given stream = record { bytes = given ++ stream.bytes; ending = stream.ending }

-- how far a translator has come: the most bytes of a head, the head, and the records
pub record Translating : Type 0 where
  pub limit : ℕ
  pub head : HeadAt
  pub flow : Flow

-- what a translator that has come so far still gives, where these bytes follow
abbrev pub left_in : Translating → List ℕ → HttpStream
left_in t bytes = left_of t.limit t.head t.flow bytes

-- It stands for these bytes of the application, of which so much was given as HTTP: whatever follows, the HTTP stream is what was given and what is left.
pub record Stands (t : Translating) (given bytes : List ℕ) : Type 0 where
  pub all : (rest : List ℕ) → cgi_of t.limit (bytes ++ rest) ≡ behind_given given (left_in t rest)

-- the bytes that may be given at once
abbrev pub ready_in : HeadAt → List ℕ
ready_in (InHead text) = []
ready_in (Behind left) = left
ready_in NoHead = []

-- one that was fed nothing
abbrev pub starting : (limit : ℕ) → Translating
starting limit = record { limit = limit; head = InHead []; flow = fresh }

-- The head was looked for: where it isn't whole, the text has none yet, it may still come, and the request goes on.
abbrev pub IsDecidedAt : (limit : ℕ) → HeadAt → Place → Type 0
IsDecidedAt limit (InHead text) place = (head_at limit text ≡ None) × (length text ≤ limit) × (is_going place ≡ true)
IsDecidedAt limit (Behind left) place = ⊤
IsDecidedAt limit NoHead place = ⊤

abbrev pub IsDecided : Translating → Type 0
IsDecided t = IsDecidedAt t.limit t.head t.flow.place

-- more may come: the head isn't whole, or the request goes on behind it
abbrev pub IsOpenAt : HeadAt → Place → Type 0
IsOpenAt (InHead text) place = ⊤
IsOpenAt (Behind left) place = is_going place ≡ true
IsOpenAt NoHead place = ⊥

abbrev pub IsOpen : Translating → Type 0
IsOpen t = IsOpenAt t.head t.flow.place
