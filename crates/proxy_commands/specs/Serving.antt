-- What `serve` is asked for, by the configuration in its file.
use Rattle.std.specs.Prelude.{ℕ, List, Option, Result, Ok}
use Rattle.px_link.specs.Told.{NamedBytes}
use Rattle.http_rules.specs.declared.config.Config.{Config}
use Rattle.px_command.specs.Command.{IsServe}
use Rattle.proxy_commands.specs.Files.{IfTold, Configured}

-- The words are `serve`, and this holds of the configuration in its file, where files are told, and of the number of connections.
abbrev pub Serving : List (List ℕ) → Option (List NamedBytes) → (Config → ℕ → Type 0) → Type 0
Serving words files P =
    (cfg_name : List ℕ) × (connections : ℕ) × IsServe words cfg_name connections × (cfg : Config) × IfTold files (λ fs. Configured fs cfg_name (Ok cfg)) × P cfg connections
