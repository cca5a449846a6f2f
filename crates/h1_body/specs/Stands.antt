-- What a reader stands for.
use Rattle.std.specs.Prelude.{◌≡◌, ℕ, ◌+◌, ◌-◌, ◌^◌, ◌<◌, ◌≤◌, ◌⊎◌, Bool, true, false, List, [], ◌∷◌, ◌++◌, length, take, ⊤, Option, Some, None, if◌then◌else◌, ◌==◌, slice_range}
use Rattle.httparse.specs.Grammar as grammar
use Rattle.http_model.specs.declared.Limits.{Limits}
use Rattle.http_model.specs.declared.Framing.{Framing}
use Rattle.http_model.specs.declared.Framing.TheVariants as framing
use Rattle.h1_body.specs.declared.stages.Stage.{Stage}
use Rattle.h1_body.specs.declared.stages.Stage.TheVariants as stage
use Rattle.h1_body.specs.declared.reader.BodyReader.{BodyReader}
use Rattle.h1_body.specs.declared.reader.BodyState.{BodyState}
use Rattle.h1_body.specs.declared.reader.BodyState.TheVariants as state
use Rattle.h1_body.specs.declared.stages.Found.{Found}
use Rattle.h1_body.specs.declared.stages.Found.TheVariants as found
use Rattle.h1_body.specs.declared.stages.Fed.{Fed}
use Rattle.h1_body.specs.declared.reader.Span.{Span}
use Rattle.h1_body.specs.declared.line.LinePlace.{LinePlace}
use Rattle.h1_body.specs.Body.{BodyAt, Left, UntilClose, InLine, InData, AtReturn, AtFeed, InSection, Over, Hopeless, line_start, Goes}
use Rattle.h1_body.specs.Section.{section_limit, BeginsFields, BeginsSection, IsHopelessSection, MayComeSection}

-- the body that has not begun
abbrev pub start_of : Framing → BodyAt
start_of framing.Absent = Over []
start_of (framing.Length n) = if n == 0 then Over [] else Left n
start_of framing.Chunked = line_start
start_of framing.ToClose = UntilClose

-- a whole section of at most so many bytes
abbrev pub IsSection : ℕ → List ℕ → Type 0
IsSection most section = (fields : List grammar.Field) × BeginsSection most section fields []

-- a reader at the stage has read a body up to here
abbrev pub Stands : ℕ → Stage → BodyAt → Type 0
Stands most (stage.Left left) at = (0 < left) × (at ≡ Left left)
Stands most stage.UntilClose at = at ≡ UntilClose
Stands most stage.Line at = at ≡ line_start
Stands most (stage.Data left) at = (0 < left) × (at ≡ InData left)
Stands most stage.LineEnd at = at ≡ AtReturn
Stands most stage.Section at = at ≡ InSection []
Stands most stage.Over at = (at ≡ Over []) ⊎ ((section : List ℕ) × (at ≡ InSection section) × IsSection most section)
Stands most stage.Dead at = (at ≡ Hopeless) ⊎ ((section : List ℕ) × (at ≡ InSection section) × IsHopelessSection most section)

-- the bytes of the section up to here
abbrev pub section_at : BodyAt → List ℕ
section_at (InSection section) = section
section_at (Left left) = []
section_at UntilClose = []
section_at (InLine place behind) = []
section_at (InData left) = []
section_at AtReturn = []
section_at AtFeed = []
section_at (Over rest) = []
section_at Hopeless = []

-- the section that a reader at the stage has read whole
abbrev pub section_in : Stage → BodyAt → List ℕ
section_in stage.Over at = section_at at
section_in (stage.Left left) at = []
section_in stage.UntilClose at = []
section_in stage.Line at = []
section_in (stage.Data left) at = []
section_in stage.LineEnd at = []
section_in stage.Section at = []
section_in stage.Dead at = []

abbrev pub state_at : Stage → BodyState
state_at stage.Over = state.Whole
state_at stage.Dead = state.Bad
state_at (stage.Left left) = state.More
state_at stage.UntilClose = state.More
state_at stage.Line = state.More
state_at (stage.Data left) = state.More
state_at stage.LineEnd = state.More
state_at stage.Section = state.More

-- a Closed here makes the body whole
abbrev pub ends_at : Stage → Bool
ends_at stage.Over = true
ends_at stage.UntilClose = true
ends_at stage.Dead = false
ends_at (stage.Left left) = false
ends_at stage.Line = false
ends_at (stage.Data left) = false
ends_at stage.LineEnd = false
ends_at stage.Section = false

-- Nothing can be used of the window: data is next, and there is no room or no byte; or a line, an end of line or a
-- section is next, does not stand whole in the window and may still come.
abbrev pub WaitsAt : ℕ → Stage → List ℕ → ℕ → Type 0
WaitsAt most (stage.Left left) window room = (room ≡ 0) ⊎ (length window ≡ 0)
WaitsAt most stage.UntilClose window room = (room ≡ 0) ⊎ (length window ≡ 0)
WaitsAt most (stage.Data left) window room = (room ≡ 0) ⊎ (length window ≡ 0)
WaitsAt most stage.Line window room = (place : LinePlace) × Goes line_start window (InLine place (length window)) []
WaitsAt most stage.LineEnd window room = (window ≡ []) ⊎ (window ≡ 13 ∷ [])
WaitsAt most stage.Section window room = MayComeSection most window
WaitsAt most stage.Over window room = ⊤
WaitsAt most stage.Dead window room = ⊤

-- the bytes of data, and those of a section, at the front of what a step used
abbrev pub data_len : Found → ℕ
data_len found.Nothing = 0
data_len (found.Data n) = n
data_len (found.Section n) = 0

abbrev pub section_len : Found → ℕ
section_len found.Nothing = 0
section_len (found.Data n) = 0
section_len (found.Section n) = n

-- where a section lies, where one was found
abbrev pub span_of : Found → Option Span
span_of found.Nothing = None
span_of (found.Data n) = None
span_of (found.Section n) = Some (record { from = 0; len = n })

-- P of the bytes of a section, where one was found
abbrev pub OnSection : Found → (ℕ → Type 0) → Type 0
OnSection found.Nothing P = ⊤
OnSection (found.Data n) P = ⊤
OnSection (found.Section n) P = P n

-- so many bytes at the front of the window are a section within the limits
pub record IsGiven (most : ℕ) (window : List ℕ) (used n : ℕ) : Type 0 where
  pub some : 0 < n
  pub inside : n ≤ used
  pub short : n ≤ most
  pub fields : (fields : List grammar.Field) × BeginsFields (take n window) fields []

-- what a stage makes of a window, where a section has at most so many bytes
pub record Feeds (most : ℕ) (old : Stage) (window : List ℕ) (room : ℕ) (fed : Fed) : Type 0 where
  pub used : fed.used ≤ length window
  pub piece : (data_len fed.found ≤ room) × (data_len fed.found ≤ fed.used)
  pub leads : (at : BodyAt) → Stands most old at → (to : BodyAt) × Goes at (take fed.used window) to (take (data_len fed.found) window) × Stands most fed.stage to
      × (section_in fed.stage to ≡ section_in old at ++ take (section_len fed.found) window)
  pub waits : (at : BodyAt) → Stands most old at → fed.used ≡ 0 → WaitsAt most fed.stage window room
  pub section : OnSection fed.found (IsGiven most window fed.used)

-- how many bytes that come next are data, with no line between them, whatever they are; up to a close there is no end to them
abbrev pub ahead_at : Stage → ℕ
ahead_at (stage.Left left) = left
ahead_at stage.UntilClose = 2 ^ 64 - 1
ahead_at stage.Line = 0
ahead_at (stage.Data left) = 0
ahead_at stage.LineEnd = 0
ahead_at stage.Section = 0
ahead_at stage.Over = 0
ahead_at stage.Dead = 0

-- a window was used whole, no section was found, and as many bytes less are ahead
pub record TakesAll (old : Stage) (window : List ℕ) (fed : Fed) : Type 0 where
  pub used : fed.used ≡ length window
  pub none : span_of fed.found ≡ None
  pub ahead : ahead_at old ≤ ahead_at fed.stage + length window

-- a window of such bytes alone is used whole, where there is room for them
abbrev pub TakesAhead : Stage → List ℕ → ℕ → Fed → Type 0
TakesAhead old window room fed = 0 < length window → length window ≤ ahead_at old → length window ≤ room → TakesAll old window fed

-- ---- what callers see

-- The bytes so far have this data, the reader stands behind them, and a trailer section, where it is whole, was these
-- bytes.
pub record HasRead (limits : Limits) (framing : Framing) (bytes found section : List ℕ) (reader : BodyReader) : Type 0 where
  pub at : BodyAt
  pub sized : 1024 ≤ limits.bufsize
  pub limit : reader.section_limit ≡ section_limit limits
  pub goes : Goes (start_of framing) bytes at found
  pub stands : Stands (section_limit limits) reader.stage at
  pub sections : section_in reader.stage at ≡ section

-- whether the body is whole, may become whole, or cannot
abbrev pub state_of : BodyReader → BodyState
state_of reader = state_at reader.stage

-- how many bytes that come next are data, with no line between them
abbrev pub ahead_of : BodyReader → ℕ
ahead_of reader = ahead_at reader.stage

-- the most bytes of a trailer section
abbrev pub limit_of : BodyReader → ℕ
limit_of reader = reader.section_limit

-- nothing can be used of the window
abbrev pub Waits : BodyReader → List ℕ → ℕ → Type 0
Waits reader window room = WaitsAt reader.section_limit reader.stage window room

-- the bytes that a span of a window covers
abbrev pub bytes_of : List ℕ → Option Span → List ℕ
bytes_of window None = []
bytes_of window (Some span) = slice_range window span.from (span.from + span.len)

-- a Closed here makes the body whole
abbrev pub ends_of : BodyReader → Bool
ends_of reader = ends_at reader.stage
