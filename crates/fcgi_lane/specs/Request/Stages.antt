-- What a reader of bodies stands for, by its fields.
use Rattle.std.specs.Prelude.{ℕ, ◌<◌, List, [], take, ⊤}
use Rattle.fcgi_lane.specs.declared.request.body_stages.BodyStage.{BodyStage}
use Rattle.fcgi_lane.specs.declared.request.body_stages.BodyStage.TheVariants as stage
use Rattle.fcgi_lane.specs.declared.request.body_stages.BodyRun.{BodyRun}
use Rattle.fcgi_lane.specs.declared.request.body_stages.BodyRun.TheVariants as run
use Rattle.fcgi_model.specs.Body.{Place, InLength, InSize, BehindSize, InChunk, BehindChunk, BehindReturn, AtTrailer, InTrailer, BehindTrailer, AtLast, Whole, Broken}

abbrev pub place_of : BodyStage → Place
place_of (stage.Length left) = InLength left
place_of (stage.Size some size) = InSize some size
place_of (stage.BehindSize size) = BehindSize size
place_of (stage.Chunk left) = InChunk left
place_of stage.BehindChunk = BehindChunk
place_of stage.BehindReturn = BehindReturn
place_of stage.AtTrailer = AtTrailer
place_of stage.InTrailer = InTrailer
place_of stage.BehindTrailer = BehindTrailer
place_of stage.AtLast = AtLast
place_of stage.Whole = Whole
place_of stage.Broken = Broken

-- numbers that a stage can have
abbrev pub IsStage : BodyStage → Type 0
IsStage (stage.Length left) = 0 < left
IsStage (stage.Size some size) = ⊤
IsStage (stage.BehindSize size) = ⊤
IsStage (stage.Chunk left) = 0 < left
IsStage stage.BehindChunk = ⊤
IsStage stage.BehindReturn = ⊤
IsStage stage.AtTrailer = ⊤
IsStage stage.InTrailer = ⊤
IsStage stage.BehindTrailer = ⊤
IsStage stage.AtLast = ⊤
IsStage stage.Whole = ⊤
IsStage stage.Broken = ⊤

-- how many bytes a run is
abbrev pub used_by : BodyRun → ℕ
used_by (run.Body n) = n
used_by run.Frame = 1

-- those of the body among them: all of them, or none
abbrev pub found_by : BodyRun → List ℕ → List ℕ
found_by (run.Body n) bytes = take n bytes
found_by run.Frame bytes = []
