-- What a command is answered: which text is written with which status, by the words and the files.
use Rattle.std.specs.Prelude.{◌≡◌, ℕ, ◌+◌, ◌≤◌, List, ◌⊎◌, ⊤, length, false, Option, None, Ok, Err}
use Rattle.px_link.specs.Told.{NamedBytes, GainsFront, Rose}
use Rattle.http_rules.specs.declared.config.Config.{Config}
use Rattle.cfg_parse.specs.Whole.{config_of}
use Rattle.cfg_parse.specs.declared.fault.CfgKind.{CfgKind}
use Rattle.cfg_parse.specs.declared.refused.RefusedLine.{RefusedLine}
use Rattle.htx_drive.specs.Drill.Drill.{configuration}
use Rattle.forward_core.specs.Meaning.Product.{meaning_of}
use Rattle.px_command.specs.Command.{IsCheck, IsCheckAll, IsCheckPrint, IsCheckRecord, IsReplay, IsExplain, IsExplainBlocks, IsWeave, RunsRecord, IsServe, IsDrill, AsksText, IsUsage, NamesConfig, ReadsConfig}
use Rattle.px_command.specs.Texts.{EndsLine}
use Rattle.rec_format.specs.declared.record.RecKind.{RecKind}
use Rattle.rec_format.specs.Recorded.{Recorded}
use Rattle.rec_format.specs.Written.{written}
use Rattle.htx_drive.specs.Replay.Written.{IsReportOf, IsReplayOf, IsDrillOf}
use Rattle.htx_drive.specs.Weave.Recorded.{IsWeaveOf}
use Rattle.proxy_sessions.specs.Driven.{stands_for, seen_of}
use Rattle.proxy_sessions.specs.Recorded.{ReplaysFor}
use Rattle.proxy_commands.specs.Explained.{IsExplanation, IsBlockExplanation}
use Rattle.proxy_commands.specs.Lines.{accepted_line, refused_line, record_line, file_line}
use Rattle.proxy_commands.specs.Modes.{IsOtherMode, Takes, refuses}
use Rattle.proxy_commands.specs.Printing.{IsOverlong, IsPrintedOf}
use Rattle.proxy_commands.specs.declared.record_command.RecordCommand.TheVariants.{Explain, Weave}
use Rattle.proxy_commands.specs.Refusals.{refused_text}
use Rattle.proxy_commands.specs.Files.{IfTold, Builder, Configured, IsBuilt, RecordIs, Refuses, RefusesAll, Say}
use Rattle.proxy_commands.specs.declared.status.Status.{Status}
use Rattle.proxy_commands.specs.declared.status.Status.TheVariants.{Good, Usage, FileFault, OutFault, NetFault, OutOfMemory}
use Rattle.proxy_commands.specs.declared.status.Status.TheVariants as ended

-- the file's text is accepted as a configuration that the command takes, where files are told
abbrev pub IsAccepted : List (List ℕ) → Option (List NamedBytes) → (cfg_name rec_name : List ℕ) → Type 0
IsAccepted words files cfg_name rec_name = IfTold files (λ fs. (cfg : Config) × Configured fs cfg_name (Ok cfg) × Takes words cfg_name rec_name cfg)

-- the text is the line of an accepted configuration
abbrev pub IsCheckOf : Option (List NamedBytes) → (cfg_name text : List ℕ) → Type 0
IsCheckOf files cfg_name text =
    (cfg : Config) × IfTold files (λ fs. Configured fs cfg_name (Ok cfg)) × (text ≡ accepted_line (length cfg.request) (length cfg.response + length cfg.after) (length cfg.req_filters + length cfg.res_filters))

-- the file's text is refused as a configuration, at this line and with this pattern that the builder refused, if it did
abbrev pub IsRefused : Option (List NamedBytes) → Builder → (cfg_name : List ℕ) → (line : ℕ) → CfgKind → Type 0
IsRefused files builder cfg_name line kind = IfTold files (λ fs. (r : Option ℕ) × Refuses fs builder cfg_name r (line, kind))

-- the text is the line of a refused configuration
abbrev pub IsRefusedOf : Option (List NamedBytes) → Builder → (cfg_name text : List ℕ) → Type 0
IsRefusedOf files builder cfg_name text =
    (line : ℕ) × (kind : CfgKind) × IsRefused files builder cfg_name line kind × (text ≡ refused_line line kind)

-- the text is that of each refused line of a configuration
abbrev pub IsAllRefusedOf : Option (List NamedBytes) → Builder → (cfg_name text : List ℕ) → Type 0
IsAllRefusedOf files builder cfg_name text = (all : List RefusedLine) × IfTold files (λ fs. RefusesAll fs builder cfg_name all) × (text ≡ refused_text cfg_name all)

-- The text is what is written of a refused configuration: of `check --all` each refused line, of any other command the first; or the command takes none that is
-- such a one, and that is written; or `check --print` would write too long a text of it.
abbrev pub IsRefusedBy : List (List ℕ) → Option (List NamedBytes) → Builder → (text : List ℕ) → Type 0
IsRefusedBy words files builder text =
    ((cfg_name : List ℕ) × NamesConfig words cfg_name × IsRefusedOf files builder cfg_name text)
    ⊎ (((cfg_name : List ℕ) × IsCheckAll words cfg_name × IsAllRefusedOf files builder cfg_name text)
    ⊎ (((line : ℕ) × (kind : CfgKind) × IsOtherMode words files builder line kind × (text ≡ refused_line line kind))
    ⊎ ((line : ℕ) × (kind : CfgKind) × IsOverlong words files builder line kind × (text ≡ refused_line line kind))))

-- the text is the record of the file in the second format
abbrev pub IsRewritten : Option (List NamedBytes) → (rec_name text : List ℕ) → Type 0
IsRewritten files rec_name text = (r : Recorded) × IfTold files (λ fs. RecordIs fs rec_name (Ok r)) × (text ≡ written r)

-- the text is the line of a record that is refused
abbrev pub IsRecordRefusedOf : Option (List NamedBytes) → (rec_name text : List ℕ) → Type 0
IsRecordRefusedOf files rec_name text =
    (place : ℕ) × (kind : RecKind) × IfTold files (λ fs. RecordIs fs rec_name (Err (record { place = place; kind = kind }))) × (text ≡ record_line place kind)

-- the text is the report of the record in its format, by what the configuration makes of its connections, each by its own turns
abbrev pub IsReplayed : Option (List NamedBytes) → (cfg_name rec_name text : List ℕ) → Type 0
IsReplayed files cfg_name rec_name text =
    (cfg : Config) × (rec : Recorded) × IfTold files (λ fs. Say fs cfg_name rec_name cfg rec) × IsReportOf (ReplaysFor cfg) rec text

-- the text is what is told of the first exchange of the record's first connection, by what the configuration makes of it
abbrev pub IsExplanationOf : Option (List NamedBytes) → (cfg_name rec_name text : List ℕ) → Type 0
IsExplanationOf files cfg_name rec_name text =
    (cfg : Config) × (rec : Recorded) × IfTold files (λ fs. Say fs cfg_name rec_name cfg rec) × (refuses Explain cfg ≡ false) × IsExplanation cfg rec text

-- the text is that with the arrays that the rules left
abbrev pub IsBlockExplanationOf : Option (List NamedBytes) → (cfg_name rec_name text : List ℕ) → Type 0
IsBlockExplanationOf files cfg_name rec_name text =
    (cfg : Config) × (rec : Recorded) × IfTold files (λ fs. Say fs cfg_name rec_name cfg rec) × (refuses Explain cfg ≡ false) × IsBlockExplanation cfg rec text

-- the text is what `explain` of these files tells, with the flag or without
abbrev pub IsExplained : List (List ℕ) → Option (List NamedBytes) → (cfg_name rec_name text : List ℕ) → Type 0
IsExplained words files cfg_name rec_name text =
    (IsExplain words cfg_name rec_name × IsExplanationOf files cfg_name rec_name text)
    ⊎ (IsExplainBlocks words cfg_name rec_name × IsBlockExplanationOf files cfg_name rec_name text)

-- The text is the report of a record, always in the second format, by what the configuration makes of its connections over so many cores that they share, each by its
-- own turns behind those that found none. With a core for each connection none waits: it is the report of `replay` in that format.
pub record IsWoven (cfg : Config) (cores : ℕ) (rec : Recorded) (text : List ℕ) : Type 0 where
  pub woven : IsWeaveOf (meaning_of cfg) (stands_for cfg) seen_of rec text
  pub at_once : length rec.connections ≤ cores → IsReplayOf (meaning_of cfg) (stands_for cfg) seen_of (record rec { version = 2 }) text

-- the text is such a report of the record, by what the configuration makes of its connections
abbrev pub IsWovenReportOf : Option (List NamedBytes) → (cfg_name rec_name : List ℕ) → (cores : ℕ) → (text : List ℕ) → Type 0
IsWovenReportOf files cfg_name rec_name cores text =
    (cfg : Config) × (rec : Recorded) × IfTold files (λ fs. Say fs cfg_name rec_name cfg rec) × (refuses Weave cfg ≡ false) × IsWoven cfg cores rec text

-- the text is the lines of the generated session, by what its own configuration makes of it
abbrev pub IsDrilled : (seed exchanges : ℕ) → (text : List ℕ) → Type 0
IsDrilled seed exchanges text = (cfg : Config) × (config_of configuration None ≡ Ok cfg) × IsDrillOf (meaning_of cfg) (stands_for cfg) seen_of seed exchanges text

-- The name is that of the record: `check --record` reads it at once, and `replay`, `explain` and `weave` only where the configuration is accepted, the command
-- takes it, and each of its patterns was built.
abbrev pub DecidesRecord : List (List ℕ) → Option (List NamedBytes) → Builder → (name : List ℕ) → Type 0
DecidesRecord words files builder name =
    IsCheckRecord words name ⊎ ((cfg_name : List ℕ) × RunsRecord words cfg_name name × IsAccepted words files cfg_name name × IsBuilt builder)

-- the name is that of a file whose read decides: the configuration's, which is read first, or the record's
abbrev pub DecidesBy : List (List ℕ) → Option (List NamedBytes) → Builder → (name : List ℕ) → Type 0
DecidesBy words files builder name = ReadsConfig words name ⊎ DecidesRecord words files builder name

-- the words are `serve`
abbrev pub NamesServe : List (List ℕ) → Type 0
NamesServe words = (cfg_name : List ℕ) × (connections : ℕ) × IsServe words cfg_name connections

-- the words are `check` or `check --all` of this file
abbrev pub Checks : List (List ℕ) → (cfg_name : List ℕ) → Type 0
Checks words cfg_name = IsCheck words cfg_name ⊎ IsCheckAll words cfg_name

-- The text is what the words ask for: the line of `check`, the record of `check --record`, the report of `replay` or of `weave`, what `explain`
-- tells, the lines of `drill`, lines of help or of the version, which tests show, or the canonical text of `check --print`. What `serve` writes is said with what
-- it does.
abbrev pub IsGood : List (List ℕ) → Option (List NamedBytes) → (text : List ℕ) → Type 0
IsGood words files text =
    ((cfg_name : List ℕ) × Checks words cfg_name × IsCheckOf files cfg_name text)
    ⊎ (((rec_name : List ℕ) × IsCheckRecord words rec_name × IsRewritten files rec_name text)
    ⊎ (((cfg_name : List ℕ) × (rec_name : List ℕ) × IsReplay words cfg_name rec_name × IsReplayed files cfg_name rec_name text)
    ⊎ (((cfg_name : List ℕ) × (rec_name : List ℕ) × IsExplained words files cfg_name rec_name text)
    ⊎ (((cfg_name : List ℕ) × (rec_name : List ℕ) × (cores : ℕ) × IsWeave words cfg_name rec_name cores × IsWovenReportOf files cfg_name rec_name cores text)
    ⊎ (((seed : ℕ) × (exchanges : ℕ) × IsDrill words seed exchanges × IsDrilled seed exchanges text)
    ⊎ ((AsksText words × EndsLine text)
    ⊎ ((cfg_name : List ℕ) × IsCheckPrint words cfg_name × IsPrintedOf files cfg_name text)))))))

-- The text is what is written with this status, where the last failed read was of this name. The lines of a usage text are shown by tests.
abbrev pub IsAnswer : List (List ℕ) → Option (List NamedBytes) → Builder → (last : List ℕ) → Status → (text : List ℕ) → Type 0
IsAnswer words files builder last Good text = IsGood words files text
IsAnswer words files builder last Usage text = IsUsage words × EndsLine text
IsAnswer words files builder last ended.Config text = IsRefusedBy words files builder text
IsAnswer words files builder last ended.Record text = (rec_name : List ℕ) × DecidesRecord words files builder rec_name × IsRecordRefusedOf files rec_name text
IsAnswer words files builder last FileFault text = DecidesBy words files builder last × (text ≡ file_line last)
IsAnswer words files builder last OutFault text = ⊥
IsAnswer words files builder last NetFault text = ⊥
IsAnswer words files builder last OutOfMemory text = ⊥

-- the words, a configuration, a record or a file was refused
abbrev pub IsRefusal : Status → Type 0
IsRefusal Good = ⊥
IsRefusal Usage = ⊤
IsRefusal ended.Config = ⊤
IsRefusal ended.Record = ⊤
IsRefusal FileFault = ⊤
IsRefusal OutFault = ⊥
IsRefusal NetFault = ⊥
IsRefusal OutOfMemory = ⊥

-- the status has its cause: a file's fault in the count of failed reads, which rose; and it is good only where no pattern was refused
abbrev pub HasCause : Builder → (reads reads_now : ℕ) → Status → Type 0
HasCause builder reads reads_now status = (status ≡ FileFault → Rose reads reads_now) × (status ≡ Good → IsBuilt builder)

-- a front was written of what some status writes that has its cause
abbrev pub WritesFront : List (List ℕ) → Option (List NamedBytes) → Builder → (last : List ℕ) → (reads reads_now : ℕ) → (old new : Option (List ℕ)) → Type 0
WritesFront words files builder last reads reads_now old new =
    (status : Status) × (text : List ℕ) × IsAnswer words files builder last status text × HasCause builder reads reads_now status × GainsFront old new text
