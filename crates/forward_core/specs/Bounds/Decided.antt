-- What the bytes so far decide in the program's own meaning, where their stream has no ending yet.
use Rattle.std.specs.Prelude.{◌≡◌, ℕ, ◌⊎◌, List, ◌++◌, Bool, false, None}
use Rattle.http_model.specs.declared.Limits.{Limits}
use Rattle.http_model.specs.declared.Framing.{Framing}
use Rattle.http_model.specs.declared.Ending.{Ending}
use Rattle.http_model.specs.Reading.{BodyReading, Whole, Broke, Bad}
use Rattle.http_model.specs.Reading as reading
use Rattle.h1_head.specs.declared.answer.HeadWhy.{HeadWhy}
use Rattle.h1_head.specs.Kind.{HeadKind}
use Rattle.h1_head.specs.Stream.{HeadOf}
use Rattle.h1_head.specs.Decides.{MayWait, RefusesFor}
use Rattle.h1_body.specs.BodyOf.{Reads, More, IsBodyOf}
use Rattle.session_model.specs.Meaning.{Meaning}
use Rattle.session_model.specs.Asking.{Request}

-- A window decides that a head is refused with this code: no stream that begins so has a head, or the rows refuse the head
-- that stands there; or the window is refused where no more may be asked for.
abbrev pub DecidesRefusal : HeadKind → Limits → (window : List ℕ) → (code : ℕ) → Type 0
DecidesRefusal K limits window code =
    ((why : HeadWhy) × RefusesFor K limits false window why × (code ≡ K.code why))
    ⊎ (HeadOf K limits window (reading.Refused code) × ¬ (MayWait K limits false window))

-- the bytes decide a body: it is whole or malformed though no ending came
abbrev pub DecidesBody : Limits → Framing → (bytes : List ℕ) → BodyReading → Type 0
DecidesBody limits framing bytes body = IsBodyOf limits framing bytes None (Reads body)

-- the bytes have this data, and their body is still to be whole
abbrev pub HasBodySoFar : Limits → Framing → (bytes front : List ℕ) → Type 0
HasBodySoFar limits framing bytes front = IsBodyOf limits framing bytes None (More front)

-- a reading where more bytes follow
abbrev pub with_more : BodyReading → (more : List ℕ) → BodyReading
with_more (Whole body trailers rest) more = Whole body trailers (rest ++ more)
with_more (Broke body) more = Broke body
with_more (Bad body) more = Bad body

-- the bytes are refused as a response head, whatever follows them
abbrev pub RefusesResponse : (M : Meaning) → (head_asked : Bool) → (bytes : List ℕ) → (code : ℕ) → Type 0
RefusesResponse M head_asked bytes code = (more : List ℕ) → M.reads_response head_asked (bytes ++ more) (reading.Refused code)

-- the bytes come to this body, whatever follows them and however the stream ends
abbrev pub IsBody : (M : Meaning) → Framing → (bytes : List ℕ) → BodyReading → Type 0
IsBody M framing bytes body = (more : List ℕ) (ending : Ending) → M.reads_body framing (bytes ++ more) ending (with_more body more)

-- the same request but for what follows it
pub record IsSameRequest {Vars : Type 0} (a b : Request Vars) : Type 0 where
  pub message : a.message ≡ b.message
  pub cut : a.cut ≡ b.cut
  pub asker : a.asker ≡ b.asker
  pub vars : a.vars ≡ b.vars
