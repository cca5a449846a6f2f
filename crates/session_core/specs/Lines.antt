-- The request line of the exchange in hand, as it was received.
use Rattle.std.specs.Prelude.{◌≡◌, ◌≢◌, ◌⊎◌, ℕ, List, [], ◌++◌, Bool, Option, codes, ⊤}
use Rattle.http_model.specs.Head.{StartLine, RequestLine, StatusLine}
use Rattle.http_model.specs.Reading.{Received, HeadReading, Nothing, Refused, Begins}
use Rattle.session_model.specs.Stream.{Stream}
use Rattle.session_model.specs.Meaning.{Meaning}
use Rattle.session_core.specs.History.{Past, Coming, Continues}
use Rattle.session_core.specs.Sided.{Sided, RequestSeen, AnswerSeen}
use Rattle.session_core.specs.Lanes.{HeadCame}
use Rattle.session_core.specs.InHand.{ExchangesAre}
use Rattle.session_core.specs.Place.{Place, Reads, Opens, Serves, Says, Replies, Ends, place_serving}
use Rattle.session_core.specs.declared.Phase.{Phase}
use Rattle.session_core.specs.declared.Phase.TheVariants as phase
use Rattle.session_core.specs.declared.machine.At.{At}

-- the method of a request line, one space, and its target (RFC 9112 section 3)
abbrev pub request_words : StartLine → List ℕ
request_words (RequestLine method target version) = method ++ codes " " ++ target
request_words (StatusLine version status reason) = []

-- the client's stream begins with a head, however it goes on, and these are the words of its line
pub record HasLine (M : Meaning) (came : Coming) (line : List ℕ) : Type 0 where
  pub received : Received
  pub used : List ℕ
  pub left : Coming
  pub head : HeadCame M came received used left
  pub is : line ≡ request_words received.head.line
  pub some : line ≢ []

-- a reading that is no head
abbrev pub IsHeadless : HeadReading → Type 0
IsHeadless Nothing = ⊤
IsHeadless (Refused code) = ⊤
IsHeadless (Begins received rest) = ⊥

-- the stream reads as no head
pub record ReadsNoHead (M : Meaning) (stream : Stream) : Type 0 where
  pub head : HeadReading
  pub reads : M.reads_request stream.bytes head
  pub headless : IsHeadless head

-- no head comes, however the client's stream goes on
abbrev pub HasNoHead : (M : Meaning) → Coming → Type 0
HasNoHead M came = (stream : Stream) → Continues came stream → ReadsNoHead M stream

-- nothing, or the words of the head that came
abbrev pub IsLineOf : (M : Meaning) → (came : Coming) → (line : List ℕ) → Type 0
IsLineOf M came line = (line ≡ []) ⊎ HasLine M came line

-- the words of the head that came, and nothing only where none comes
abbrev pub ShowsLine : (M : Meaning) → (came : Coming) → (line : List ℕ) → Type 0
ShowsLine M came line = ((line ≡ []) × HasNoHead M came) ⊎ HasLine M came line

-- by where the directions stand in the exchange in hand
abbrev pub LineAt : Place → (M : Meaning) → (came : Coming) → (line : List ℕ) → Type 0
LineAt Reads M came line = line ≡ []
LineAt Opens M came line = HasLine M came line
LineAt Serves M came line = HasLine M came line
LineAt Says M came line = ShowsLine M came line
LineAt Replies M came line = HasLine M came line
LineAt Ends M came line = ShowsLine M came line

-- ---- the core

-- the same, by the phase of a core and the cut of its request
abbrev pub LineIn : Phase → (cut : Option Bool) → (M : Meaning) → (came : Coming) → (line : List ℕ) → Type 0
LineIn phase.Reading cut M came line = line ≡ []
LineIn phase.Opening cut M came line = HasLine M came line
LineIn phase.Unserved cut M came line = HasLine M came line
LineIn phase.Serving cut M came line = LineAt (place_serving cut) M came line
LineIn phase.Served cut M came line = LineAt (place_serving cut) M came line
LineIn phase.Refusing cut M came line = ShowsLine M came line
LineIn (phase.Replying kept) cut M came line = HasLine M came line
LineIn (phase.Over how) cut M came line = ShowsLine M came line

-- the line that is told is of the exchange in hand, the one that the count has reached
pub record LineInHand (M : Meaning) (stands : Sided M → Type 0) (q : RequestSeen) (a : AnswerSeen) (at : At) (past : Past) : Type 0 where
  pub exchanges : ExchangesAre M stands q a at past
  pub line : IsLineOf M exchanges.in_hand.came q.line

-- and it is all of that line, by the phase
pub record LineTold (M : Meaning) (stands : Sided M → Type 0) (q : RequestSeen) (a : AnswerSeen) (at : At) (past : Past) : Type 0 where
  pub exchanges : ExchangesAre M stands q a at past
  pub line : LineIn at.phase at.cut M exchanges.in_hand.came q.line
