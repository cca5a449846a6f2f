-- The body that bytes come to (RFC 9112, sections 6.3, 7.1 and 8).
use Rattle.std.specs.Prelude.{◌≡◌, ℕ, ◌++◌, ◌⊎◌, List, [], ⊤, Option, Some, None}
use Rattle.std.specs.List.{fold}
use Rattle.httparse.specs.Grammar as grammar
use Rattle.http_model.specs.declared.Limits.{Limits}
use Rattle.http_model.specs.declared.Framing.{Framing}
use Rattle.http_model.specs.declared.Ending.{Ending}
use Rattle.http_model.specs.declared.Ending.TheVariants as ending
use Rattle.http_model.specs.Head.{Field}
use Rattle.http_model.specs.Reading.{BodyReading, Whole, Broke, Bad}
use Rattle.h1_body.specs.Body.{BodyAt, Left, UntilClose, InLine, InData, AtReturn, AtFeed, InSection, Over, Hopeless, step, Goes}
use Rattle.h1_body.specs.Chunked.{IsChunks}
use Rattle.h1_body.specs.Section.{section_limit, BeginsSection, HasNoSectionWithin, IsHopelessSection, trailers_of, HasTrailers}
use Rattle.h1_body.specs.declared.reader.BodyReader.{BodyReader}
use Rattle.h1_body.specs.declared.reader.BodyState.{BodyState}
use Rattle.h1_body.specs.declared.reader.BodyState.TheVariants as state
use Rattle.h1_body.specs.Stands.{start_of, HasRead}

-- what bytes come to: a reading that no further byte changes, or a body that is still to be whole
pub data BodyRead : Type 0 where
  Reads : (reading : BodyReading) → BodyRead
  More : (body : List ℕ) → BodyRead

-- in the middle of a body
abbrev pub unfinished : List ℕ → Option Ending → BodyRead
unfinished found None = More found
unfinished found (Some ending) = Reads (Broke found)

-- where all bytes are data
abbrev pub closes : List ℕ → Option Ending → BodyRead
closes found None = More found
closes found (Some ending.Closed) = Reads (Whole found [] [])
closes found (Some ending.Broke) = Reads (Broke found)

-- what bytes in the place of a section tell: they begin with one, or none can come, or neither
abbrev pub SectionTells : ℕ → List ℕ → List ℕ → Option Ending → BodyRead → Type 0
SectionTells most bytes found ending (Reads (Whole body trailers rest)) =
    (body ≡ found) × ((fields : List grammar.Field) × BeginsSection most bytes fields rest × (trailers ≡ trailers_of fields))
SectionTells most bytes found ending (Reads (Bad body)) = (body ≡ found) × IsHopelessSection most bytes
SectionTells most bytes found ending (Reads (Broke body)) =
    (unfinished found ending ≡ Reads (Broke body)) × HasNoSectionWithin most bytes × ¬ (IsHopelessSection most bytes)
SectionTells most bytes found ending (More body) =
    (unfinished found ending ≡ More body) × HasNoSectionWithin most bytes × ¬ (IsHopelessSection most bytes)

-- what a place tells
abbrev pub Tells : ℕ → BodyAt → List ℕ → Option Ending → BodyRead → Type 0
Tells most (Over rest) found ending read = read ≡ Reads (Whole found [] rest)
Tells most UntilClose found ending read = read ≡ closes found ending
Tells most Hopeless found ending read = read ≡ Reads (Bad found)
Tells most (InSection section) found ending read = SectionTells most section found ending read
Tells most (Left left) found ending read = read ≡ unfinished found ending
Tells most (InLine place n) found ending read = read ≡ unfinished found ending
Tells most (InData left) found ending read = read ≡ unfinished found ending
Tells most AtReturn found ending read = read ≡ unfinished found ending
Tells most AtFeed found ending read = read ≡ unfinished found ending

-- the bytes, and the ending that came behind them where one came, are this body
pub record IsBodyOf (limits : Limits) (framing : Framing) (bytes : List ℕ) (ending : Option Ending) (read : BodyRead) : Type 0 where
  pub at : BodyAt
  pub found : List ℕ
  pub goes : Goes (start_of framing) bytes at found
  pub tells : Tells (section_limit limits) at found ending read

-- where the bytes lead
abbrev pub place_of : Framing → List ℕ → BodyAt
place_of framing bytes = fold step (start_of framing) bytes

-- it is known what the place tells: in the place of a section, whether one begins there, and whether one may still come
abbrev pub IsKnownAt : ℕ → BodyAt → Type 0
IsKnownAt most (InSection section) =
    ((fields : List grammar.Field) × (rest : List ℕ) × BeginsSection most section fields rest)
    ⊎ (HasNoSectionWithin most section × (IsHopelessSection most section ⊎ (¬ (IsHopelessSection most section))))
IsKnownAt most (Over rest) = ⊤
IsKnownAt most UntilClose = ⊤
IsKnownAt most Hopeless = ⊤
IsKnownAt most (Left left) = ⊤
IsKnownAt most (InLine place n) = ⊤
IsKnownAt most (InData left) = ⊤
IsKnownAt most AtReturn = ⊤
IsKnownAt most AtFeed = ⊤

-- the reading of a stream that has ended
abbrev pub BodyOf : Limits → Framing → List ℕ → Ending → BodyReading → Type 0
BodyOf limits framing bytes ending reading = IsBodyOf limits framing bytes (Some ending) (Reads reading)

-- ---- a chunked body as a grammar over the whole text

-- the bytes are chunks, the last chunk and a trailer section within the limits, and then rest
pub record IsChunkedBody (limits : Limits) (bytes body : List ℕ) (trailers : List Field) (rest : List ℕ) : Type 0 where
  pub text : List ℕ
  pub behind : List ℕ
  pub fields : List grammar.Field
  pub spelled : bytes ≡ text ++ behind
  pub chunks : IsChunks text body
  pub section : BeginsSection (section_limit limits) behind fields rest
  pub kept : trailers ≡ trailers_of fields

-- whatever bytes follow, no front is a chunked body
abbrev pub HasNoChunkedBody : Limits → List ℕ → Type 0
HasNoChunkedBody limits bytes = (more body : List ℕ) (trailers : List Field) (rest : List ℕ) → ¬ (IsChunkedBody limits (bytes ++ more) body trailers rest)

-- ---- what a reader tells

-- what the state of a reader tells of the bytes that it used, their data and the section among them
abbrev pub StateTells : Limits → Framing → List ℕ → List ℕ → List ℕ → BodyState → Type 0
StateTells limits framing bytes found section state.Whole =
    (trailers : List Field) × HasTrailers section trailers
    × ((ending : Option Ending) → IsBodyOf limits framing bytes ending (Reads (Whole found trailers [])))
StateTells limits framing bytes found section state.Bad =
    (ending : Option Ending) → IsBodyOf limits framing bytes ending (Reads (Bad found))
StateTells limits framing bytes found section state.More = IsBodyOf limits framing bytes None (More found)

-- where an ending Closed comes behind the bytes that the reader used, the body is whole
abbrev pub ClosedIsWhole : BodyReader → Type 0
ClosedIsWhole reader =
    (limits : Limits) (framing : Framing) (bytes found section : List ℕ) → HasRead limits framing bytes found section reader
    → (trailers : List Field) × HasTrailers section trailers × BodyOf limits framing bytes ending.Closed (Whole found trailers [])

-- it is not whole there
abbrev pub ClosedIsCut : BodyReader → Type 0
ClosedIsCut reader =
    (limits : Limits) (framing : Framing) (bytes found section : List ℕ) → HasRead limits framing bytes found section reader
    → (body : List ℕ) (trailers : List Field) (rest : List ℕ) → ¬ (BodyOf limits framing bytes ending.Closed (Whole body trailers rest))
