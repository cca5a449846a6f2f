-- Bytes of a server that go to the client at once.
use Rattle.std.specs.Prelude.{◌≡◌, ℕ, ◌≤◌, true}
use Rattle.std.proofs.Common.{arith}
use Rattle.lane.specs.Direction.State.{LaneState}
use Rattle.lane.specs.Direction.Sends as sends
use Rattle.lane.specs.Answering as answering
use Rattle.lane.specs.declared.response_lane.ResponseLane.{ResponseLane}
use Rattle.forward_core.specs.Answer.Seen.{is_last}
use Rattle.forward_core.specs.declared.answer.side.AnswerSide.{AnswerSide}

-- So many bytes of the server, whatever they are, go to the client at once where they come: none, or where the last that answers goes out as many as
-- the lane passes on so.
pub data TakesAtOnce (side : AnswerSide) (count : ℕ) : Type 0 where
  IsNone : count ≡ 0 → TakesAtOnce side count
  IsLast : is_last side.place ≡ true → answering.AnswerGoesAtOnce side.lane count → TakesAtOnce side count

-- where nothing stands between the server and the client as many go so as surely are data, and as there is room for
abbrev pub IsStraightSide : AnswerSide → Type 0
IsStraightSide side = (is_last side.place ≡ true) × answering.AnswerIsStraight side.lane

abbrev pub straight_room_of : AnswerSide → ℕ
straight_room_of side = answering.straight_room side.lane

-- ---- of fewer bytes it is so too

fewer_of_lane : (lane : LaneState) (most count : ℕ) → sends.GoesAtOnce lane most → count ≤ most → sends.GoesAtOnce lane count
fewer_of_lane lane most count (sends.IsNone none) fewer = sends.IsNone (omega arith)
fewer_of_lane lane most count (sends.IsAhead straight ahead free) fewer = sends.IsAhead straight (omega arith) (omega arith)

fewer_of_answer : (lane : ResponseLane) (most count : ℕ) → answering.AnswerGoesAtOnce lane most → count ≤ most → answering.AnswerGoesAtOnce lane count
fewer_of_answer lane most count (answering.IsNone none) fewer = answering.IsNone (omega arith)
fewer_of_answer lane most count (answering.IsAnswer at goes) fewer = answering.IsAnswer at (fewer_of_lane lane.lane most count goes fewer)

pub fewer_at_once : (side : AnswerSide) (most count : ℕ) → TakesAtOnce side most → count ≤ most → TakesAtOnce side count
fewer_at_once side most count (IsNone none) fewer = IsNone (omega arith)
fewer_at_once side most count (IsLast last goes) fewer = IsLast last (fewer_of_answer side.lane most count goes fewer)
