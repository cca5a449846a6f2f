-- What a command came to, and what is told of one that stopped: what was written with which status.
use Rattle.std.specs.Prelude.{◌≡◌, ℕ, List, ◌⊎◌, Option, Result, Ok, Err}
use Rattle.px_link.specs.Told.{Gains, Rose}
use Rattle.http_rules.specs.declared.config.Config.{Config}
use Rattle.serve_run.specs.declared.outcome.ServeFault.{ServeFault}
use Rattle.proxy_commands.specs.Answers.{IsAnswer, IsGood, WritesFront}
use Rattle.proxy_commands.specs.Files.{IsBuilt}
use Rattle.px_command.specs.declared.options.RunOptions.{RunOptions}
use Rattle.px_run.specs.declared.plan.RunFault.{RunFault}
use Rattle.proxy_commands.specs.Running.{Running}
use Rattle.proxy_commands.specs.Serving.{Serving}
use Rattle.proxy_commands.specs.Stops.{Input, StopsBy, stop_of_running, stop_of_serving}
use Rattle.proxy_commands.specs.declared.status.Status.{Status}
use Rattle.proxy_commands.specs.declared.status.Status.TheVariants as ended
use Rattle.proxy_commands.specs.declared.stop.Stop.{Stop}
use Rattle.proxy_commands.specs.declared.stop.Stop.TheVariants as stops

-- what became of the output: the count of failed writes before and now, and what was written before and now
pub record Output : Type 0 where
  pub writes : ℕ
  pub writes_now : ℕ
  pub old : Option (List ℕ)
  pub new : Option (List ℕ)

abbrev pub put : (writes writes_now : ℕ) → (old new : Option (List ℕ)) → Output
put writes writes_now old new = record { writes = writes; writes_now = writes_now; old = old; new = new }

-- nothing was written, and no write failed
pub record IsUntouched (output : Output) : Type 0 where
  pub written : output.new ≡ output.old
  pub writes : output.writes_now ≡ output.writes

-- a front was written of what some status writes that has its cause
abbrev pub PutsFront : Input → Output → Type 0
PutsFront input output = WritesFront input.words input.files input.builder input.last input.reads input.reads_now output.old output.new

-- the text that the words ask for was written, and no pattern was refused; or the command stopped before anything was, or while it was
-- written
abbrev pub Writes : Input → Output → Result (Unit {0}) Stop → Type 0
Writes input output (Ok done) = (text : List ℕ) × IsGood input.words input.files text × Gains output.old output.new text × IsBuilt input.builder
Writes input output (Err (stops.Usage text)) = StopsBy input (stops.Usage text) × IsUntouched output
Writes input output (Err (stops.Refused line kind)) = StopsBy input (stops.Refused line kind) × IsUntouched output
Writes input output (Err (stops.RefusedAll text)) = StopsBy input (stops.RefusedAll text) × IsUntouched output
Writes input output (Err (stops.Record place kind)) = StopsBy input (stops.Record place kind) × IsUntouched output
Writes input output (Err (stops.File name)) = StopsBy input (stops.File name) × IsUntouched output
Writes input output (Err stops.Output) = Rose output.writes output.writes_now × PutsFront input output
Writes input output (Err stops.Net) = ⊥
Writes input output (Err stops.OutOfMemory) = (output.new ≡ output.old) ⊎ PutsFront input output

-- what `serve` answers, as the result of a command
abbrev pub served_as : Result (Unit {0}) ServeFault → Result (Unit {0}) Stop
served_as (Ok done) = Ok done
served_as (Err fault) = Err (stop_of_serving fault)

-- What a command came to: it left the net as it was; or it is `serve`, no pattern was refused, and it did what serving by its configuration
-- does, with this answer.
abbrev pub Ran : Input → Output → (quiet : Type 0) → (Serves : Config → ℕ → Result (Unit {0}) ServeFault → Type 0) → Result (Unit {0}) Stop → Type 0
Ran input output quiet Serves result =
    (Writes input output result × quiet)
    ⊎ (IsBuilt input.builder × Serving input.words input.files (λ cfg count. (answer : Result (Unit {0}) ServeFault) × Serves cfg count answer × (result ≡ served_as answer)))

-- what `run` answers, as the result of a command
abbrev pub ran_as : Result (Unit {0}) RunFault → Result (Unit {0}) Stop
ran_as (Ok done) = Ok done
ran_as (Err fault) = Err (stop_of_running fault)

-- the command is `run`, no pattern was refused, and it did what running by its configuration does, with this answer
abbrev pub RanMany : Input → (Runs : Config → RunOptions → Result (Unit {0}) RunFault → Type 0) → Result (Unit {0}) Stop → Type 0
RanMany input Runs result =
    IsBuilt input.builder × Running input.words input.files (λ cfg options. (answer : Result (Unit {0}) RunFault) × Runs cfg options answer × (result ≡ ran_as answer))

-- What any command came to: `run` left the net as it was, and any other command what `run` is handed (`idle`).
abbrev pub RanAny : Input → Output → (quiet idle : Type 0) → (Serves : Config → ℕ → Result (Unit {0}) ServeFault → Type 0) → (Runs : Config → RunOptions → Result (Unit {0}) RunFault → Type 0)
    → Result (Unit {0}) Stop → Type 0
RanAny input output quiet idle Serves Runs result = (Ran input output quiet Serves result × idle) ⊎ (RanMany input Runs result × quiet)

-- the same of `run` alone, which makes no call on the net
abbrev pub RanRun : Input → Output → (idle : Type 0) → (Runs : Config → RunOptions → Result (Unit {0}) RunFault → Type 0) → Result (Unit {0}) Stop → Type 0
RanRun input output idle Runs result = (Writes input output result × idle) ⊎ RanMany input Runs result

-- an answer was written whole, with its cause in the count where it tells a fault, and with no pattern refused where it is good
pub record Answered (input : Input) (output : Output) (status : Status) : Type 0 where
  pub text : List ℕ
  pub answer : IsAnswer input.words input.files input.builder input.last status text
  pub gains : Gains output.old output.new text
  pub cause : status ≡ ended.FileFault → Rose input.reads input.reads_now
  pub built : status ≡ ended.Good → IsBuilt input.builder

-- what was written with this status, by every command but `serve`
abbrev pub Tells : Input → Output → Status → Type 0
Tells input output ended.Good = Answered input output ended.Good
Tells input output ended.Usage = Answered input output ended.Usage
Tells input output ended.Config = Answered input output ended.Config
Tells input output ended.Record = Answered input output ended.Record
Tells input output ended.FileFault = Answered input output ended.FileFault
Tells input output ended.OutFault = Rose output.writes output.writes_now × PutsFront input output
Tells input output ended.NetFault = ⊥
Tells input output ended.OutOfMemory = (output.new ≡ output.old) ⊎ PutsFront input output

-- what writing the text of a stop came to
abbrev pub Says : Input → Output → Result Status Stop → Type 0
Says input output (Ok status) = Answered input output status
Says input output (Err (stops.Usage text)) = ⊥
Says input output (Err (stops.Refused line kind)) = ⊥
Says input output (Err (stops.RefusedAll text)) = ⊥
Says input output (Err (stops.Record place kind)) = ⊥
Says input output (Err (stops.File name)) = ⊥
Says input output (Err stops.Output) = Rose output.writes output.writes_now × PutsFront input output
Says input output (Err stops.Net) = ⊥
Says input output (Err stops.OutOfMemory) = (output.new ≡ output.old) ⊎ PutsFront input output
