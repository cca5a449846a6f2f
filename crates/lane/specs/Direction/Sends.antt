-- What a lane stands for while it sends a message.
use Rattle.std.specs.Prelude.{◌≡◌, ◌≢◌, ℕ, ◌+◌, ◌*◌, ◌<◌, ◌≤◌, ◌⊎◌, List, [], ◌++◌, Bool, true, false, Option, Some, None, length, ⊤, nat_lt, if◌then◌else◌}
use Rattle.http_model.specs.declared.Framing.{Framing}
use Rattle.http_model.specs.declared.Framing.TheVariants as framing
use Rattle.http_model.specs.declared.Ending.{Ending}
use Rattle.http_model.specs.Head.{Head}
use Rattle.http_model.specs.Sizes.{least_size, most_size, least_head}
use Rattle.body_filter.specs.declared.filter_spec.FilterSpec.{FilterSpec}
use Rattle.body_filter.specs.declared.filter_spec.FedState.TheVariants as fed
use Rattle.body_filter.specs.Filter.{filtered}
use Rattle.lane.specs.Sieve.Sieved.{end_of, is_open}
use Rattle.lane.specs.declared.sieve.sieve.Sieve.{Sieve}
use Rattle.lane.specs.Direction.Filtering.{HasPassed, AreThese, SieveFits, SieveRests, IsWholeAt, GoesOnBy, CutBy, held_left}
use Rattle.h1_head.specs.declared.answer.Side.{Side}
use Rattle.h1_head.specs.Sides.{kind_of}
use Rattle.h1_head.specs.Scanned.{IsScanned}
use Rattle.h1_body.specs.declared.reader.BodyReader.{BodyReader}
use Rattle.h1_body.specs.declared.reader.BodyState.{BodyState}
use Rattle.h1_body.specs.declared.reader.BodyState.TheVariants as state
use Rattle.h1_body.specs.Stands.{HasRead, state_of, ahead_of}
use Rattle.h1_body.specs.Body.{BodyAt, Left, UntilClose, InLine, InData, AtReturn, AtFeed, InSection, Over, Hopeless}
use Rattle.h1_body.specs.BodyOf.{place_of}
use Rattle.lane.specs.Direction.Sent.{Sent}
use Rattle.h1_write.specs.Spelled.{IsEven, IsPlain}
use Rattle.lane.specs.Direction.Carried.{Carries, EndIsOut}
use Rattle.lane.specs.Direction.Pulled.{IsWaiting}
use Rattle.lane.specs.declared.direction.stage.Stage.TheVariants as stage
use Rattle.http_model.specs.declared.Source.{Source}
use Rattle.http_model.specs.declared.Source.TheVariants as source
use Rattle.lane.specs.Direction.State.{LaneState}

-- What happened to a lane since `send`: the message that was begun, the filters of its body, how that body is framed where it
-- comes from, the bytes taken behind the head, and the text that was taken from the output window.
pub record Past : Type 0 where
  pub sent : Sent
  pub filters : List FilterSpec
  pub reads : Framing
  pub bytes : List ℕ
  pub took : List ℕ

-- put out: taken, or standing in the window
abbrev pub put_out : LaneState → Past → List ℕ
put_out lane p = p.took ++ lane.output.items

-- the arrays, the input window and the filters have the configured size
pub record IsSized (lane : LaneState) : Type 0 where
  pub least : least_size ≤ lane.limits.bufsize
  pub msg : lane.msg.size ≡ lane.limits.bufsize
  pub out : lane.out.size ≡ lane.limits.bufsize
  pub input : lane.input.capacity ≡ lane.limits.bufsize
  pub output : 64 ≤ lane.output.capacity
  pub sieve : SieveFits lane.limits.bufsize lane.sieve
  pub filters : (filters : List FilterSpec) × AreThese lane.sieve filters

-- why the source is what it is
abbrev pub SourceIs : Source → Option Sieve → List FilterSpec → BodyReader → Option Ending → (input section found passed : List ℕ) → Type 0
SourceIs source.Going sieve filters reader ended input section found passed = GoesOnBy sieve reader ended input section
SourceIs source.Whole sieve filters reader ended input section found passed =
    IsWholeAt reader ended input section × (filtered filters true found ≡ record { output = passed; state = fed.Over })
SourceIs (source.Cut code) sieve filters reader ended input section found passed = CutBy filters reader ended input section found passed code

-- the lane sends the message of this past
pub record Sends (lane : LaneState) (p : Past) : Type 0 where
  pub used : List ℕ
  pub found : List ℕ
  pub section : List ℕ
  pub passed : List ℕ
  pub sized : IsSized lane
  pub has_read : HasRead lane.limits p.reads used found section lane.reader
  pub bytes : p.bytes ≡ used ++ lane.input.items
  pub has_passed : HasPassed lane.sieve p.filters found passed
  pub source : SourceIs lane.source lane.sieve p.filters lane.reader lane.ended lane.input.items section found passed
  pub text : lane.dropped ≡ false → Carries lane.source lane.writer p.sent (p.sent.given ++ passed) section (put_out lane p) lane.out.blocks lane.msg.blocks

-- a call leads from a lane that sends to one that sends the same
abbrev pub Leads : LaneState → LaneState → Type 0
Leads old new = (p : Past) → Sends old p → Sends new p

-- ---- inside a step

-- what a step never changes
pub record Keeps (old new : LaneState) : Type 0 where
  pub limits : new.limits ≡ old.limits
  pub ended : new.ended ≡ old.ended
  pub stage : new.stage ≡ old.stage
  pub dropped : new.dropped ≡ old.dropped
  pub capacity : new.output.capacity ≡ old.output.capacity
  pub input_capacity : new.input.capacity ≡ old.input.capacity
  pub shrinks : length new.input.items ≤ length old.input.items
  pub filters : (filters : List FilterSpec) → AreThese old.sieve filters → AreThese new.sieve filters

-- nothing comes: the body is over, or the lane waits for the stream
pub data RestsFor (lane : LaneState) : Type 0 where
  IsOver : lane.source ≢ source.Going → RestsFor lane
  Waits : lane.source ≡ source.Going → lane.ended ≡ None → IsWaiting lane.reader lane.input.items → state_of lane.reader ≡ state.More → SieveRests lane.sieve → RestsFor lane

-- all that came was put out
pub record IsAtRest (lane : LaneState) : Type 0 where
  pub msg : lane.msg.blocks ≡ []
  pub out : lane.out.blocks ≡ []
  pub rests : IsEven lane.writer
  pub end : EndIsOut lane.source lane.writer
  pub for : RestsFor lane

-- all that was read was put out, but for what the filters keep back
pub record IsDrained (lane : LaneState) : Type 0 where
  pub msg : lane.msg.blocks ≡ []
  pub out : lane.out.blocks ≡ []
  pub rests : IsEven lane.writer
  pub end : EndIsOut lane.source lane.writer
  pub sieve : lane.source ≡ source.Going → SieveRests lane.sieve

-- what is left to read: bytes, and an end
abbrev pub end_left : Source → Option Sieve → ℕ
end_left source.Going None = 1
end_left source.Going (Some sieve) = is_open (end_of sieve)
end_left source.Whole sieve = 0
end_left (source.Cut code) sieve = 0

abbrev pub reads_left : LaneState → ℕ
reads_left lane = 2 * length lane.input.items + end_left lane.source lane.sieve

-- what is left to bring of what was read: bytes of the filters, an end, blocks to move
abbrev pub is_going : Source → ℕ
is_going source.Going = 1
is_going source.Whole = 0
is_going (source.Cut code) = 0

abbrev pub brings_left : LaneState → ℕ
brings_left lane = 2 * (held_left lane.sieve + is_going lane.source) + (if nat_lt 0 (length lane.msg.blocks) then 1 else 0)

-- ---- what callers see

-- all text of the message is out
pub record IsAllOut (lane : LaneState) : Type 0 where
  pub msg : lane.msg.blocks ≡ []
  pub out : lane.out.blocks ≡ []
  pub source : lane.source ≢ source.Going
  pub end : EndIsOut lane.source lane.writer

-- The lane sends the message of this past, or has put it out; text that is dropped stands nowhere.
pub record Stands (lane : LaneState) (p : Past) : Type 0 where
  pub sends : Sends lane p
  pub over : lane.stage ≡ stage.Done → lane.dropped ≡ false → IsAllOut lane
  pub done : lane.stage ≡ stage.Done → lane.source ≢ source.Going

-- a lane that stopped short of the end waits for its output to be taken, or for the stream
abbrev pub GoesOn : LaneState → Type 0
GoesOn lane = (0 < length lane.output.items) ⊎ ((lane.source ≡ source.Going) × (length lane.input.items < lane.input.capacity) × (lane.ended ≡ None))

-- the lane where these bytes more came
abbrev pub with_more : LaneState → List ℕ → LaneState
with_more lane bytes = record lane { input = record lane.input { items = lane.input.items ++ bytes } }

-- nothing stands between the stream and the text: the message is sent without filters, its body still comes, and nothing of it waits
pub record IsStraight (lane : LaneState) : Type 0 where
  pub stage : lane.stage ≡ stage.Sending
  pub kept : lane.dropped ≡ false
  pub going : lane.source ≡ source.Going
  pub sieve : lane.sieve ≡ None
  pub input : lane.input.items ≡ []
  pub msg : lane.msg.blocks ≡ []
  pub out : lane.out.blocks ≡ []
  pub plain : IsPlain lane.writer

-- what comes next of a body is data without lines between
abbrev pub IsAtData : BodyAt → Type 0
IsAtData (Left left) = ⊤
IsAtData UntilClose = ⊤
IsAtData (InLine place behind) = ⊥
IsAtData (InData left) = ⊥
IsAtData AtReturn = ⊥
IsAtData AtFeed = ⊥
IsAtData (InSection section) = ⊥
IsAtData (Over rest) = ⊥
IsAtData Hopeless = ⊥

-- some of these bytes can go to the text at once
pub record MayPass (lane : LaneState) (bytes : List ℕ) : Type 0 where
  pub past : Past
  pub stands : Stands lane past
  pub straight : IsStraight lane
  pub at : IsAtData (place_of past.reads past.bytes)
  pub any : 0 < length bytes
  pub room : length lane.output.items < lane.output.capacity

-- So many bytes, whatever they are, go to the text at once where they come: none, or no more than are surely data, for which there is room
-- behind the text that waits.
pub data GoesAtOnce (lane : LaneState) (count : ℕ) : Type 0 where
  IsNone : count ≡ 0 → GoesAtOnce lane count
  IsAhead : IsStraight lane → count ≤ ahead_of lane.reader → length lane.output.items + count ≤ lane.output.capacity → GoesAtOnce lane count

-- what a reader's state says of the source
abbrev pub source_told : BodyState → Source
source_told state.More = source.Going
source_told state.Whole = source.Whole
source_told state.Bad = source.Cut 400

-- the sizes of a lane, and the limits that it was made with
pub record IsSound (lane : LaneState) : Type 0 where
  pub sized : IsSized lane
  pub most : lane.limits.bufsize ≤ most_size
  pub reserve : lane.limits.maxrewrite + least_head ≤ lane.limits.bufsize
  pub held : length lane.input.items ≤ lane.input.capacity

-- nothing of a message goes out; text of the one before may still stand in the output window
pub record IsReady (lane : LaneState) : Type 0 where
  pub sound : IsSound lane
  pub out : lane.out.blocks ≡ []
  pub kept : lane.dropped ≡ false

-- a head is to be read
pub record IsReading (side : Side) (lane : LaneState) : Type 0 where
  pub scanned : IsScanned (kind_of side) lane.limits lane.input.items lane.scanned
  pub ready : IsReady lane
  pub stage : lane.stage ≡ stage.Reading
  pub empty : lane.msg.blocks ≡ []

-- the message that `send` begins
abbrev pub begun : LaneState → List FilterSpec → Head → Framing → Bool → Past
begun lane filters head framing no_body =
    record {
      sent = record { head = head; given = []; framing = framing; no_body = no_body; before = lane.output.items };
      filters = filters;
      reads = lane.framing;
      bytes = lane.input.items;
      took = [];
    }

-- the message of a list that is put out in place of another, its body with it
abbrev pub said : LaneState → List FilterSpec → Head → (body : List ℕ) → Bool → Past
said lane filters head body no_body =
    record {
      sent = record { head = head; given = body; framing = framing.ToClose; no_body = no_body; before = lane.output.items };
      filters = filters;
      reads = framing.Absent;
      bytes = lane.input.items;
      took = [];
    }
