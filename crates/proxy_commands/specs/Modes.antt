-- Which configurations a command takes: `replay`, like `serve` and `run`, each; `explain` none whose server is an application or whose clients begin with a header of the
-- PROXY protocol; `weave`, whose sessions share cores, none whose server is an application or with such a header on either side.
use Rattle.std.specs.Prelude.{◌≡◌, ℕ, ◌||◌, List, Bool, true, false, Option, Ok, is_some}
use Rattle.px_link.specs.Told.{NamedBytes}
use Rattle.http_rules.specs.declared.config.Config.{Config}
use Rattle.cfg_parse.specs.declared.fault.CfgKind.{CfgKind}
use Rattle.cfg_parse.specs.declared.fault.CfgKind.TheVariants.{Mode}
use Rattle.px_command.specs.Command.{IsReplay, Explains, IsWeave}
use Rattle.proxy_commands.specs.Files.{IfTold, Builder, Configured, IsBuilt}
use Rattle.proxy_commands.specs.declared.record_command.RecordCommand.{RecordCommand}
use Rattle.proxy_commands.specs.declared.record_command.RecordCommand.TheVariants.{Replay, Explain, Weave}

-- the words are this command of these two files
abbrev pub RunsSo : RecordCommand → List (List ℕ) → (cfg_name rec_name : List ℕ) → Type 0
RunsSo Replay words cfg_name rec_name = IsReplay words cfg_name rec_name
RunsSo Explain words cfg_name rec_name = Explains words cfg_name rec_name
RunsSo Weave words cfg_name rec_name = (cores : ℕ) × IsWeave words cfg_name rec_name cores

-- the server is an application
abbrev pub asks_application : Config → Bool
asks_application cfg = is_some cfg.application

-- the command refuses the configuration as a whole
abbrev pub refuses : RecordCommand → Config → Bool
refuses Replay cfg = false
refuses Explain cfg = asks_application cfg || cfg.accept_proxy
refuses Weave cfg = asks_application cfg || (cfg.accept_proxy || is_some cfg.send_proxy)

-- the words are of a command that takes the configuration
abbrev pub Takes : List (List ℕ) → (cfg_name rec_name : List ℕ) → Config → Type 0
Takes words cfg_name rec_name cfg = (command : RecordCommand) × RunsSo command words cfg_name rec_name × (refuses command cfg ≡ false)

-- the words are of a command that refuses the configuration as a whole
abbrev pub Refuses : List (List ℕ) → (cfg_name rec_name : List ℕ) → Config → Type 0
Refuses words cfg_name rec_name cfg = (command : RecordCommand) × RunsSo command words cfg_name rec_name × (refuses command cfg ≡ true)

-- The file's text is accepted as a configuration, each of its patterns was built, and the words are of a command that refuses it as a whole.
pub record IsOtherMode (words : List (List ℕ)) (files : Option (List NamedBytes)) (builder : Builder) (line : ℕ) (kind : CfgKind) : Type 0 where
  pub cfg_name : List ℕ
  pub rec_name : List ℕ
  pub cfg : Config
  pub refuses : Refuses words cfg_name rec_name cfg
  pub accepted : IfTold files (λ fs. Configured fs cfg_name (Ok cfg))
  pub built : IsBuilt builder
  pub whole : line ≡ 0
  pub mode : kind ≡ Mode
