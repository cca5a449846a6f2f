-- What it means that the request direction is at rest: nothing was left undone that could be done with what has come.
use Rattle.std.specs.Prelude.{◌≡◌, ◌⊎◌, [], true, false, None, ⊤}
use Rattle.h1_head.specs.Decides.{MayWait}
use Rattle.h1_head.specs.Kind.{request_heads}
use Rattle.http_model.specs.declared.Source.TheVariants as source
use Rattle.lane.specs.Direction.Sends.{IsAtRest, RestsFor}
use Rattle.lane.specs.Direction.State.{LaneState}
use Rattle.forward_core.specs.declared.request.place.Place.{Place}
use Rattle.forward_core.specs.declared.request.place.Place.TheVariants as place

-- once the server has taken all text, or takes no more, the lane waits for the client's stream, and it holds nothing back that may go out
pub record IsStill (lane : LaneState) : Type 0 where
  pub no_cut : (lane.output.items ≡ []) ⊎ (lane.dropped ≡ true) → RestsFor lane
  pub nothing_back : lane.output.items ≡ [] → lane.dropped ≡ false → IsAtRest lane

-- the client's stream hasn't ended, and no head stands in the input window, which allows More
pub record WaitsForHead (lane : LaneState) : Type 0 where
  pub ended : lane.ended ≡ None
  pub waits : MayWait request_heads lane.limits false lane.input.items

-- how the lane stands at rest, by what is made of the next request
abbrev pub RestsAt : Place → LaneState → Type 0
RestsAt place.Reading lane = WaitsForHead lane
RestsAt place.Sending lane = lane.source ≡ source.Going → IsStill lane
RestsAt place.Idle lane = ⊤
RestsAt place.Replied lane = ⊤
