-- What a lane says of the head that comes.
use Rattle.std.specs.Prelude.{◌≡◌, ℕ, ◌<◌, List, ◌++◌, true, false, None, is_some, length}
use Rattle.http_model.specs.Head.{Head, head_blocks}
use Rattle.http_model.specs.Reading.{Nothing, Refused, Begins}
use Rattle.h1_head.specs.declared.answer.Side.{Side}
use Rattle.h1_head.specs.Sides.{kind_of}
use Rattle.h1_head.specs.Stream.{behind, HeadOf}
use Rattle.h1_head.specs.Received.{IsReceived}
use Rattle.h1_head.specs.Decides.{OnEachStream, MayWait}
use Rattle.lane.specs.Direction.Sends.{IsSound, IsReady, IsReading}
use Rattle.lane.specs.declared.direction.stage.LaneHead.{LaneHead}
use Rattle.lane.specs.declared.direction.stage.LaneHead.TheVariants as says
use Rattle.lane.specs.declared.direction.stage.Stage.TheVariants as stage
use Rattle.lane.specs.Direction.State.{LaneState}

-- the stream goes on, no head stands in the window, and there is room for more of it
pub record Waits (side : Side) (old new : LaneState) : Type 0 where
  pub reading : IsReading side new
  pub ended : old.ended ≡ None
  pub waits : MayWait (kind_of side) old.limits false old.input.items
  pub same : behind new.input.items ≡ behind old.input.items
  pub front : (more : List ℕ) → behind (old.input.items ++ more) ≡ behind (new.input.items ++ more)
  pub output : new.output ≡ old.output
  pub room : length new.input.items < new.input.capacity

-- the stream has ended, and only empty lines are left
pub record IsEnd (side : Side) (old new : LaneState) : Type 0 where
  pub reading : IsReading side new
  pub ended : is_some old.ended ≡ true
  pub nothing : HeadOf (kind_of side) old.limits old.input.items Nothing

-- A head stands in the array, with its framing, length and mark: each stream that begins with the bytes in the window
-- begins with it, and then comes what is left in the window.
pub record HasHead (side : Side) (old new : LaneState) : Type 0 where
  pub ready : IsReady new
  pub stage : new.stage ≡ stage.Head
  pub output : new.output ≡ old.output
  pub head : Head
  pub blocks : new.msg.blocks ≡ head_blocks head
  pub begins : OnEachStream (is_some old.ended) (λ more. HeadOf (kind_of side) old.limits (old.input.items ++ more)
      (Begins (record { head = head; framing = new.framing; declared = new.declared; close = new.close }) (new.input.items ++ more)))
  pub received : IsReceived (kind_of side) old.limits head

-- it is refused with this code, however the stream goes on
pub record IsRefused (side : Side) (old new : LaneState) (code : ℕ) : Type 0 where
  pub sound : IsSound new
  pub stage : new.stage ≡ stage.Done
  pub refused : OnEachStream (is_some old.ended) (λ more. HeadOf (kind_of side) old.limits (old.input.items ++ more) (Refused code))

-- what the answer says
abbrev pub HeadTells : Side → LaneState → LaneState → LaneHead → Type 0
HeadTells side old new says.More = Waits side old new
HeadTells side old new says.Nothing = IsEnd side old new
HeadTells side old new says.Head = HasHead side old new
HeadTells side old new (says.Refuse code) = IsRefused side old new code
