-- The status that words and files call for.
use Rattle.std.specs.Prelude.{◌≡◌, ℕ, List, ◌⊎◌, true, false, Ok, Err}
use Rattle.px_link.specs.Told.{NamedBytes}
use Rattle.http_rules.specs.declared.config.Config.{Config}
use Rattle.cfg_parse.specs.declared.fault.CfgKind.{CfgKind}
use Rattle.cfg_print.specs.Fits.{fits}
use Rattle.px_command.specs.Command.{IsCheckPrint, IsCheckRecord, RunsRecord, IsServe, IsDrill, AsksText, IsUsage, ReadsConfig}
use Rattle.rec_format.specs.declared.record.RecKind.{RecKind}
use Rattle.rec_format.specs.Recorded.{Recorded}
use Rattle.proxy_commands.specs.Answers.{Checks}
use Rattle.proxy_commands.specs.Files.{Configured, RecordIs, Say}
use Rattle.proxy_commands.specs.Modes.{Refuses, Takes}
use Rattle.proxy_commands.specs.declared.status.Status.{Status}
use Rattle.proxy_commands.specs.declared.status.Status.TheVariants.{Good, Usage, FileFault, OutFault, NetFault, OutOfMemory}
use Rattle.proxy_commands.specs.declared.status.Status.TheVariants as ended

-- the words ask for what no file says: a generated session, or a text of help or of the version
abbrev pub AsksNoFile : List (List ℕ) → Type 0
AsksNoFile words = ((seed : ℕ) × (exchanges : ℕ) × IsDrill words seed exchanges) ⊎ AsksText words

-- the words are `check --print` of a file whose text is accepted as this configuration
abbrev pub Prints : List (List ℕ) → List NamedBytes → (cfg_name : List ℕ) → Config → Type 0
Prints words files cfg_name cfg = IsCheckPrint words cfg_name × Configured files cfg_name (Ok cfg)

-- The words and the files, where they are told, call for this status: nothing but a fault or memory is in the way.
abbrev pub IsDue : List (List ℕ) → List NamedBytes → Status → Type 0
IsDue words files Good =
    ((cfg_name : List ℕ) × (Checks words cfg_name ⊎ ((connections : ℕ) × IsServe words cfg_name connections)) × (cfg : Config) × Configured files cfg_name (Ok cfg))
    ⊎ (((rec_name : List ℕ) × IsCheckRecord words rec_name × (r : Recorded) × RecordIs files rec_name (Ok r))
    ⊎ (((cfg_name : List ℕ) × (rec_name : List ℕ) × RunsRecord words cfg_name rec_name × (cfg : Config) × (r : Recorded) × Say files cfg_name rec_name cfg r × Takes words cfg_name rec_name cfg)
    ⊎ (AsksNoFile words
    ⊎ ((cfg_name : List ℕ) × (cfg : Config) × Prints words files cfg_name cfg × (fits cfg ≡ true)))))
IsDue words files Usage = IsUsage words
IsDue words files ended.Config =
    ((cfg_name : List ℕ) × ReadsConfig words cfg_name × (line : ℕ) × (kind : CfgKind) × Configured files cfg_name (Err (line, kind)))
    ⊎ (((cfg_name : List ℕ) × (rec_name : List ℕ) × (cfg : Config) × Configured files cfg_name (Ok cfg) × Refuses words cfg_name rec_name cfg)
    ⊎ ((cfg_name : List ℕ) × (cfg : Config) × Prints words files cfg_name cfg × (fits cfg ≡ false)))
IsDue words files ended.Record =
    (rec_name : List ℕ) × (place : ℕ) × (kind : RecKind) × RecordIs files rec_name (Err (record { place = place; kind = kind }))
    × (IsCheckRecord words rec_name ⊎ ((cfg_name : List ℕ) × RunsRecord words cfg_name rec_name × (cfg : Config) × Configured files cfg_name (Ok cfg) × Takes words cfg_name rec_name cfg))
IsDue words files FileFault = ⊥
IsDue words files OutFault = ⊥
IsDue words files NetFault = ⊥
IsDue words files OutOfMemory = ⊥
