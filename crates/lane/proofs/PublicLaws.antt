-- The public laws of a lane of answers that reads.
use Rattle.std.proofs.Common.{◌≡◌, ℕ, List, false}
use Rattle.lane.specs.Answering.{Exchange, Answers, IsSoundAnswer}
use Rattle.lane.specs.declared.response_lane.ResponseLane.{ResponseLane}
use Rattle.lane.specs.AtReading.{AtReading}
use Rattle.h1_head.specs.Decides.{MayWait}
use Rattle.h1_head.specs.Kind.{HeadKind}
use Rattle.h1_head.specs.Stream.{behind}
use Rattle.http_model.specs.declared.Limits.{Limits}
use Rattle.lane.specs.declared.direction.stage.Stage.TheVariants as stage
use Rattle.lane.proofs.ComeLemmas as come_lemmas

-- A sound lane of answers that reads a head, and answers its exchange, stands at its reading.
pub at_reading : (lane : ResponseLane) (p : Exchange) → IsSoundAnswer lane → lane.lane.stage ≡ stage.Reading → Answers lane p → AtReading lane p
at_reading = come_lemmas.at_reading

-- Windows that differ by empty lines in front may wait alike.
pub may_wait : (K : HeadKind) (limits : Limits) (a b : List ℕ) → behind a ≡ behind b → MayWait K limits false a → MayWait K limits false b
may_wait = come_lemmas.may_wait
