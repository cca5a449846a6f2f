-- A lane of answers at the reading of a head.
use Rattle.std.specs.Prelude.{◌≡◌, ℕ, List, false}
use Rattle.lane.specs.Answering.{Exchange, HeadsCame, SameLines, interim_text}
use Rattle.lane.specs.declared.response_lane.ResponseLane.{ResponseLane}

-- Nothing was put out but the interim heads that passed, no answer has begun, and the window holds what those heads left of
-- the stream, but for empty lines.
pub record AtReading (lane : ResponseLane) (p : Exchange) : Type 0 where
  pub put : p.put ≡ interim_text p.passed
  pub unbegun : lane.begun ≡ false
  pub left : List ℕ
  pub came : HeadsCame p.asked lane.lane.limits lane.lane.ended p.read p.bytes left
  pub same : SameLines left lane.lane.input.items
