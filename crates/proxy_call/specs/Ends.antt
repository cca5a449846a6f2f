-- How the call ends, by what a command came to.
use Rattle.std.specs.Prelude.{◌≡◌, ℕ, List, ◌⊎◌, Option, Result, Ok, Err}
use Rattle.px_link.specs.Told.{NamedBytes}
use Rattle.http_rules.specs.declared.config.Config.{Config}
use Rattle.serve_run.specs.declared.outcome.ServeFault.{ServeFault}
use Rattle.px_command.specs.declared.options.RunOptions.{RunOptions}
use Rattle.px_run.specs.declared.plan.RunFault.{RunFault}
use Rattle.proxy_commands.specs.Ends.{Output, Tells}
use Rattle.proxy_commands.specs.Files.{IsBuilt}
use Rattle.proxy_commands.specs.Running.{Running}
use Rattle.proxy_commands.specs.Serving.{Serving}
use Rattle.proxy_commands.specs.Stops.{Input, status_of, stop_of_running, stop_of_serving}
use Rattle.proxy_commands.specs.declared.status.Status.{Status}
use Rattle.proxy_commands.specs.declared.status.Status.TheVariants as ended

-- the status of what `serve` answers
abbrev pub status_after : Result (Unit {0}) ServeFault → Status
status_after (Ok done) = ended.Good
status_after (Err fault) = status_of (stop_of_serving fault)

-- how the call ended: it left the net as it was; or it is `serve`, no pattern was refused, and it did what serving by its configuration does
abbrev pub Ended : Input → Output → (quiet : Type 0) → (Serves : Config → ℕ → Result (Unit {0}) ServeFault → Type 0) → Status → Type 0
Ended input output quiet Serves status =
    (Tells input output status × quiet)
    ⊎ (IsBuilt input.builder × Serving input.words input.files (λ cfg count. (answer : Result (Unit {0}) ServeFault) × Serves cfg count answer × (status ≡ status_after answer)))

-- the status of what `run` answers
abbrev pub status_of_run : Result (Unit {0}) RunFault → Status
status_of_run (Ok done) = ended.Good
status_of_run (Err fault) = status_of (stop_of_running fault)

-- the words are `run`, and it did what running by the configuration in its file does, with this status
abbrev pub RunsTo : List (List ℕ) → Option (List NamedBytes) → (Runs : Config → RunOptions → Result (Unit {0}) RunFault → Type 0) → Status → Type 0
RunsTo words files Runs status =
    Running words files (λ cfg options. (answer : Result (Unit {0}) RunFault) × Runs cfg options answer × (status ≡ status_of_run answer))

-- How the call ended, whatever the command: `run` left the net as it was, and refused no pattern; any other command left what `run` is handed as it was.
abbrev pub EndedAny : Input → Output → (quiet idle : Type 0) → (Serves : Config → ℕ → Result (Unit {0}) ServeFault → Type 0) → (Runs : Config → RunOptions → Result (Unit {0}) RunFault → Type 0)
    → Status → Type 0
EndedAny input output quiet idle Serves Runs status =
    (Ended input output quiet Serves status × idle) ⊎ (IsBuilt input.builder × RunsTo input.words input.files Runs status × quiet)
