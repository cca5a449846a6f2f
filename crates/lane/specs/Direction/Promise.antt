-- The contract of a lane that sends a message: its text, against the bytes that came behind the head and all that may follow them.
use Rattle.std.specs.Prelude.{◌≡◌, ℕ, ◌<◌, length, Option, Some, None, List, [], ◌++◌, true, false, ◌⊎◌, ⊤}
use Rattle.http_model.specs.declared.Limits.{Limits}
use Rattle.http_model.specs.declared.Framing.{Framing}
use Rattle.http_model.specs.declared.Ending.{Ending}
use Rattle.http_model.specs.Head.{Field}
use Rattle.http_model.specs.Reading.{Whole, Broke, Bad}
use Rattle.h1_body.specs.Body.{InSection}
use Rattle.h1_body.specs.BodyOf.{BodyRead, Reads, More, IsBodyOf, place_of}
use Rattle.httparse.specs.Grammar.{HasNoSection}
use Rattle.h1_body.specs.Section.{section_limit}
use Rattle.body_filter.specs.declared.filter_spec.FilterSpec.{FilterSpec}
use Rattle.body_filter.specs.declared.filter_spec.FedState.{FedState}
use Rattle.body_filter.specs.declared.filter_spec.FedState.TheVariants.{Going, Over, Refused}
use Rattle.body_filter.specs.Filter.{Filtered, filtered}
use Rattle.lane.specs.Direction.Sent.{Finish, Cut, Ends, SpellsAs, IsFrontOf}
use Rattle.lane.specs.Direction.Sends.{Past, put_out}
use Rattle.lane.specs.declared.direction.stage.Stage.TheVariants as stage
use Rattle.http_model.specs.declared.Source.TheVariants as source
use Rattle.lane.specs.Direction.State.{LaneState}

-- the bytes of a body, however far it is
abbrev pub body_in : BodyRead → List ℕ
body_in (Reads (Whole body trailers rest)) = body
body_in (Reads (Broke body)) = body
body_in (Reads (Bad body)) = body
body_in (More body) = body

-- what the filters make of a body: of all of it where it is whole, of all that came where it broke off or is none, else of the bytes so far
abbrev pub filter_of : List FilterSpec → BodyRead → Filtered
filter_of filters (Reads (Whole body trailers rest)) = filtered filters true body
filter_of filters (Reads (Broke body)) = filtered filters true body
filter_of filters (Reads (Bad body)) = filtered filters true body
filter_of filters (More body) = filtered filters false body

-- a body that the filters accepted ends as its framing asks for, with its trailers
abbrev pub ends_as : FedState → List Field → Finish
ends_as Over trailers = Ends trailers
ends_as Going trailers = Cut
ends_as (Refused code) trailers = Cut

-- how such a body is ended: as its framing asks where it is whole and was accepted, else behind its bytes
abbrev pub finish_of : List FilterSpec → BodyRead → Finish
finish_of filters (Reads (Whole body trailers rest)) = ends_as (filtered filters true body).state trailers
finish_of filters (Reads (Broke body)) = Cut
finish_of filters (Reads (Bad body)) = Cut
finish_of filters (More body) = Cut

-- how a stream may go on, of which this ending came or none: one that has ended with nothing
abbrev pub GoesOnWith : Option Ending → (more : List ℕ) → Option Ending → Type 0
GoesOnWith None more ending = ⊤
GoesOnWith (Some how) more ending = (more ≡ []) × (ending ≡ Some how)

-- what the bytes taken behind the head come to with those that follow
abbrev pub BodyTaken : LaneState → Past → (more : List ℕ) → Option Ending → BodyRead → Type 0
BodyTaken lane p more ending read = IsBodyOf lane.limits p.reads (p.bytes ++ more) ending read

-- however the stream goes on, what was taken comes to some body
abbrev pub HasBody : LaneState → Past → Type 0
HasBody lane p = (more : List ℕ) (ending : Option Ending) → GoesOnWith lane.ended more ending → (read : BodyRead) × BodyTaken lane p more ending read

-- P of each body that the stream may come to, however it goes on
abbrev pub OnEachBody : LaneState → Past → (BodyRead → Type 0) → Type 0
OnEachBody lane p P = (more : List ℕ) (ending : Option Ending) → GoesOnWith lane.ended more ending → (read : BodyRead) → BodyTaken lane p more ending read → P read

-- the body broke off, or was none
abbrev pub IsCut : BodyRead → Type 0
IsCut (Reads (Whole body trailers rest)) = ⊥
IsCut (Reads (Broke body)) = Unit {0}
IsCut (Reads (Bad body)) = Unit {0}
IsCut (More body) = ⊥

-- why it is cut with this code: a filter refused it, or it broke off or was none, and no filter refused what came
abbrev pub IsCutWith : ℕ → List FilterSpec → BodyRead → Type 0
IsCutWith code filters read = ((filter_of filters read).state ≡ Refused code) ⊎ ((code ≡ 400) × IsCut read × ((filter_of filters read).state ≡ Over))

-- it is whole, with what follows it, and the filters accepted it
abbrev pub IsWholeWith : List FilterSpec → (rest : List ℕ) → BodyRead → Type 0
IsWholeWith filters rest read = (body : List ℕ) × (trailers : List Field) × (read ≡ Reads (Whole body trailers rest)) × ((filtered filters true body).state ≡ Over)

-- the bytes that are sent of a body
abbrev pub body_sent : Past → BodyRead → List ℕ
body_sent p read = p.sent.given ++ (filter_of p.filters read).output

-- the bytes that are sent of a body so far, where more of it may come
abbrev pub sent_so_far : Past → BodyRead → List ℕ
sent_so_far p read = p.sent.given ++ (filtered p.filters false (body_in read)).output

pub record Promise (lane : LaneState) (p : Past) : Type 0 where
  -- at every moment the text is a front of the spelling of what comes
  pub front : lane.dropped ≡ false → OnEachBody lane p (λ read. IsFrontOf p.sent (body_sent p read) (finish_of p.filters read) (put_out lane p))
  -- once it is done it is the spelling, whole or cut
  pub spelled : lane.stage ≡ stage.Done → lane.dropped ≡ false → OnEachBody lane p (λ read. SpellsAs p.sent (body_sent p read) (finish_of p.filters read) (put_out lane p))
  -- the source is whole only where the body is and was accepted, and the input window holds what follows it
  pub whole : lane.source ≡ source.Whole → (more : List ℕ) (ending : Option Ending) → GoesOnWith lane.ended more ending
      → (read : BodyRead) → BodyTaken lane p more ending read → IsWholeWith p.filters (lane.input.items ++ more) read
  -- it is cut with a code only where the body is cut for it
  pub cut : (code : ℕ) → lane.source ≡ source.Cut code → OnEachBody lane p (IsCutWith code p.filters)

-- the bytes of a body lead into a trailer section, which is not whole and not past its limit
pub record EndsInSection (limits : Limits) (framing : Framing) (bytes : List ℕ) : Type 0 where
  pub section : List ℕ
  pub place : place_of framing bytes ≡ InSection section
  pub none : HasNoSection section
  pub short : length section < section_limit limits

-- No ending came, the filters refused nothing, and the bytes taken show no cut: the body is still to be whole, or they end in a trailer
-- section that is not whole and not past its limit.
pub record ShowsNoCut (lane : LaneState) (p : Past) : Type 0 where
  pub ended : lane.ended ≡ None
  pub still : (read : BodyRead) → BodyTaken lane p [] lane.ended read → (read ≡ More (body_in read)) ⊎ EndsInSection lane.limits p.reads p.bytes
  pub accepted : (read : BodyRead) → BodyTaken lane p [] lane.ended read → (filtered p.filters false (body_in read)).state ≡ Going
