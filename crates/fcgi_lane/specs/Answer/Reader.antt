-- What a reader of records stands for.
use Rattle.std.specs.Prelude.{ℕ, ◌<◌, ◌-◌, ◌==◌, if◌then◌else◌, List, [], take, ⊤}
use Rattle.fcgi_lane.specs.Answer.Flow.{Place, InRecord, InOutput, Skipping, InEnd, Over, Faulty, skip}
use Rattle.fcgi_lane.specs.declared.answer.records.Stage.{Stage}
use Rattle.fcgi_lane.specs.declared.answer.records.Stage.TheVariants as stage
use Rattle.fcgi_lane.specs.declared.answer.records.Run.{Run}
use Rattle.fcgi_lane.specs.declared.answer.records.Run.TheVariants as run

abbrev pub place_of : Stage → Place
place_of (stage.Head head len) = InRecord (take len head)
place_of (stage.Output left pad) = InOutput left pad
place_of (stage.Skip left) = Skipping left
place_of (stage.End behind) = InEnd behind
place_of stage.Over = Over
place_of stage.Faulty = Faulty

-- numbers that a stage can have
abbrev pub IsStage : Stage → Type 0
IsStage (stage.Head head len) = len < 8
IsStage (stage.Output left pad) = 0 < left
IsStage (stage.Skip left) = 0 < left
IsStage (stage.End behind) = behind < 8
IsStage stage.Over = ⊤
IsStage stage.Faulty = ⊤

-- how many bytes a run uses
abbrev pub used_by : Run → ℕ
used_by (run.Output n) = n
used_by (run.Quiet n) = n

-- the output among the bytes that a run uses: all of them, or none
abbrev pub output_by : Run → List ℕ → List ℕ
output_by (run.Output n) bytes = take n bytes
output_by (run.Quiet n) bytes = []

-- behind so many bytes of output
abbrev pub after_output : (left pad n : ℕ) → Place
after_output left pad n = if left - n == 0 then skip pad else InOutput (left - n) pad
