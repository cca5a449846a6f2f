-- What `check --print` writes of a configuration, and which it refuses as a whole.
use Rattle.std.specs.Prelude.{◌≡◌, ℕ, List, true, false, Option, Ok}
use Rattle.px_link.specs.Told.{NamedBytes}
use Rattle.http_rules.specs.declared.config.Config.{Config}
use Rattle.cfg_parse.specs.declared.fault.CfgKind.{CfgKind}
use Rattle.cfg_parse.specs.declared.fault.CfgKind.TheVariants.{Limit}
use Rattle.cfg_print.specs.Fits.{fits}
use Rattle.cfg_print.specs.Printed.{config_text}
use Rattle.px_command.specs.Command.{IsCheckPrint}
use Rattle.proxy_commands.specs.Files.{IfTold, Builder, Configured, IsBuilt}

-- the text is the canonical one of an accepted configuration, and is no longer than a configuration's text may be
abbrev pub IsPrintedOf : Option (List NamedBytes) → (cfg_name text : List ℕ) → Type 0
IsPrintedOf files cfg_name text =
    (cfg : Config) × IfTold files (λ fs. Configured fs cfg_name (Ok cfg)) × (fits cfg ≡ true) × (text ≡ config_text cfg)

-- The words are `check --print`, and the file's text is accepted as a configuration, with each of its patterns built, whose canonical text would be longer than a
-- configuration's text may be.
pub record IsOverlong (words : List (List ℕ)) (files : Option (List NamedBytes)) (builder : Builder) (line : ℕ) (kind : CfgKind) : Type 0 where
  pub cfg_name : List ℕ
  pub cfg : Config
  pub prints : IsCheckPrint words cfg_name
  pub accepted : IfTold files (λ fs. Configured fs cfg_name (Ok cfg))
  pub built : IsBuilt builder
  pub overlong : fits cfg ≡ false
  pub whole : line ≡ 0
  pub limit : kind ≡ Limit
