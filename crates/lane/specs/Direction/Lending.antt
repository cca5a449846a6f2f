-- What a lane is once what it lends is given back.
use Rattle.std.specs.Prelude.{ℕ, List, length}
use Rattle.std.specs.Borrow.{Lends, MutBor, Fml, Array, u8}
use Rattle.std.specs.List.{refill}
use Rattle.wire_buf.specs.Buffer.{buffer}
use Rattle.htx_arena.specs.Layout.Contents.{Contents}
use Rattle.htx_arena.specs.contracts.arena.Arena as arena
use Rattle.lane.specs.Direction.State.{LaneState}
use Rattle.lane.specs.contracts.direction.lane.Lane.{the_row}

-- the lane with this array
abbrev pub with_msg : LaneState → Contents → LaneState
with_msg lane msg = record lane { msg = msg }

-- the lane has the array that the borrow leaves
abbrev pub LendsMsg : MutBor LaneState → MutBor Contents → Fml
LendsMsg lane r = Lends the_row arena.the_row lane r (with_msg lane.now)

-- the lane with these bytes in its output window, as many as stood there
abbrev pub with_output : LaneState → List ℕ → LaneState
with_output lane text = record lane { output = buffer (refill (length lane.output.items) lane.output.items text) lane.output.capacity }

abbrev pub LendsOutput : MutBor LaneState → MutBor (List ℕ) → Fml
LendsOutput lane r = Lends the_row (Array u8 0) lane r (with_output lane.now)
