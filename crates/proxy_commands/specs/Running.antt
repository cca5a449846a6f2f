-- What `run` is asked for, by the configuration in its file.
use Rattle.std.specs.Prelude.{ℕ, List, Option, Result, Ok}
use Rattle.px_link.specs.Told.{NamedBytes}
use Rattle.http_rules.specs.declared.config.Config.{Config}
use Rattle.px_command.specs.Command.{IsRun}
use Rattle.px_command.specs.declared.options.RunOptions.{RunOptions}
use Rattle.proxy_commands.specs.Files.{IfTold, Configured}

-- the words are `run`
abbrev pub NamesRun : List (List ℕ) → Type 0
NamesRun words = (cfg_name : List ℕ) × (options : RunOptions) × IsRun words cfg_name options

-- The words are `run`, and this holds of the configuration in its file, where files are told, and of the options.
abbrev pub Running : List (List ℕ) → Option (List NamedBytes) → (Config → RunOptions → Type 0) → Type 0
Running words files P =
    (cfg_name : List ℕ) × (options : RunOptions) × IsRun words cfg_name options × (cfg : Config) × IfTold files (λ fs. Configured fs cfg_name (Ok cfg)) × P cfg options
