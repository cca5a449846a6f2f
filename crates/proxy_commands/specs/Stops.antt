-- Why a command stops, and what the steps of the program give.
use Rattle.std.specs.Prelude.{◌≡◌, ℕ, ◌+◌, ◌⊎◌, List, length, ⊤, Option, Result, Ok, Err}
use Rattle.px_link.specs.Told.{NamedBytes, Rose}
use Rattle.px_link.specs.declared.fault.Fault.{Fault}
use Rattle.px_link.specs.declared.fault.Fault.TheVariants as links
use Rattle.cfg_parse.specs.declared.fault.CfgFault.{CfgFault}
use Rattle.cfg_parse.specs.declared.fault.CfgFault.TheVariants as configurations
use Rattle.cfg_parse.specs.declared.fault.CfgKind.TheVariants.{Limit}
use Rattle.cfg_parse.specs.Judged.{Lists}
use Rattle.cfg_parse.specs.declared.refused.RefusedLine.{RefusedLine}
use Rattle.cfg_parse.specs.declared.refused.RefusedLines.{RefusedLines}
use Rattle.cfg_parse.specs.declared.refused.Verdict.{Verdict}
use Rattle.cfg_parse.specs.declared.refused.Verdict.TheVariants.{Accepted, Refused}
use Rattle.cfg_print.specs.declared.fault.PrintFault.{PrintFault}
use Rattle.cfg_print.specs.declared.fault.PrintFault.TheVariants as printing
use Rattle.px_command.specs.Command.{IsCheckAll, IsUsage, NamesConfig}
use Rattle.px_command.specs.Texts.{EndsLine}
use Rattle.rec_format.specs.declared.record.RecFault.{RecFault}
use Rattle.rec_format.specs.declared.record.RecFault.TheVariants as records
use Rattle.serve_run.specs.declared.outcome.ServeFault.{ServeFault}
use Rattle.serve_run.specs.declared.outcome.ServeFault.TheVariants as serving
use Rattle.px_run.specs.declared.plan.RunFault.{RunFault}
use Rattle.px_run.specs.declared.plan.RunFault.TheVariants as running
use Rattle.proxy_commands.specs.Answers.{DecidesBy, DecidesRecord, IsAllRefusedOf, IsAnswer, IsGood, IsRefusal, IsRefused}
use Rattle.proxy_commands.specs.Files.{IfTold, Builder, IsBuilt, RecordIs}
use Rattle.proxy_commands.specs.Lines.{accepted_line}
use Rattle.proxy_commands.specs.Modes.{IsOtherMode}
use Rattle.proxy_commands.specs.Printing.{IsOverlong}
use Rattle.proxy_commands.specs.Refusals.{refused_text}
use Rattle.proxy_commands.specs.declared.status.Status.{Status}
use Rattle.proxy_commands.specs.declared.status.Status.TheVariants as ended
use Rattle.proxy_commands.specs.declared.reply.Reply.{Reply}
use Rattle.proxy_commands.specs.declared.stop.Stop.{Stop}
use Rattle.proxy_commands.specs.declared.stop.Stop.TheVariants as stops

-- ---- the stop of a fault

abbrev pub stop_of_output : Fault → Stop
stop_of_output links.Failed = stops.Output
stop_of_output links.OutOfMemory = stops.OutOfMemory

abbrev pub stop_of_configuration : CfgFault → Stop
stop_of_configuration (configurations.Refused line kind) = stops.Refused line kind
stop_of_configuration configurations.OutOfMemory = stops.OutOfMemory

-- a canonical text that would be too long is a refusal of the configuration as a whole
abbrev pub stop_of_printing : PrintFault → Stop
stop_of_printing printing.TooLong = stops.Refused 0 Limit
stop_of_printing printing.OutOfMemory = stops.OutOfMemory

abbrev pub stop_of_record : RecFault → Stop
stop_of_record (records.Refused place kind) = stops.Record place kind
stop_of_record records.OutOfMemory = stops.OutOfMemory

abbrev pub stop_of_serving : ServeFault → Stop
stop_of_serving serving.Net = stops.Net
stop_of_serving serving.Output = stops.Output
stop_of_serving serving.OutOfMemory = stops.OutOfMemory

abbrev pub stop_of_running : RunFault → Stop
stop_of_running running.Net = stops.Net
stop_of_running running.OutOfMemory = stops.OutOfMemory
stop_of_running running.Spent = stops.Net

-- ---- what a stop means

-- the status of a stop
abbrev pub status_of : Stop → Status
status_of (stops.Usage text) = ended.Usage
status_of (stops.Refused line kind) = ended.Config
status_of (stops.RefusedAll text) = ended.Config
status_of (stops.Record place kind) = ended.Record
status_of (stops.File name) = ended.FileFault
status_of stops.Output = ended.OutFault
status_of stops.Net = ended.NetFault
status_of stops.OutOfMemory = ended.OutOfMemory

-- What a command was given: its words, the files, the builder, the name of the last failed read, and the count of failed reads before
-- and now.
pub record Input : Type 0 where
  pub words : List (List ℕ)
  pub files : Option (List NamedBytes)
  pub builder : Builder
  pub last : List ℕ
  pub reads : ℕ
  pub reads_now : ℕ

abbrev pub given : List (List ℕ) → Option (List NamedBytes) → Builder → (last : List ℕ) → (reads reads_now : ℕ) → Input
given words files builder last reads reads_now = record {
  words = words;
  files = files;
  builder = builder;
  last = last;
  reads = reads;
  reads_now = reads_now;
}

-- The words and the files make a command stop so, before anything is written.
abbrev pub StopsBy : Input → Stop → Type 0
StopsBy input (stops.Usage text) = IsUsage input.words × EndsLine text
StopsBy input (stops.Refused line kind) =
    ((cfg_name : List ℕ) × NamesConfig input.words cfg_name × IsRefused input.files input.builder cfg_name line kind)
    ⊎ (IsOtherMode input.words input.files input.builder line kind ⊎ IsOverlong input.words input.files input.builder line kind)
StopsBy input (stops.RefusedAll text) = (cfg_name : List ℕ) × IsCheckAll input.words cfg_name × IsAllRefusedOf input.files input.builder cfg_name text
StopsBy input (stops.Record place kind) =
    (rec_name : List ℕ) × DecidesRecord input.words input.files input.builder rec_name × IfTold input.files (λ fs. RecordIs fs rec_name (Err (record { place = place; kind = kind })))
StopsBy input (stops.File name) = Rose input.reads input.reads_now × (input.last ≡ name.now) × DecidesBy input.words input.files input.builder name.now
StopsBy input stops.Output = ⊥
StopsBy input stops.Net = ⊥
StopsBy input stops.OutOfMemory = ⊤

-- a read of this name stops so
abbrev pub ReadStops : (name last : List ℕ) → (before now : ℕ) → Stop → Type 0
ReadStops name last before now (stops.Usage text) = ⊥
ReadStops name last before now (stops.Refused line kind) = ⊥
ReadStops name last before now (stops.RefusedAll text) = ⊥
ReadStops name last before now (stops.Record place kind) = ⊥
ReadStops name last before now (stops.File failed) = Rose before now × (last ≡ failed.now) × (failed.now ≡ name)
ReadStops name last before now stops.Output = ⊥
ReadStops name last before now stops.Net = ⊥
ReadStops name last before now stops.OutOfMemory = ⊤

-- a command makes the text that its words and files ask for, and the builder refused none of its patterns, or it stops
abbrev pub Answers : Input → Result (List ℕ) Stop → Type 0
Answers input (Ok text) = IsGood input.words input.files text × IsBuilt input.builder
Answers input (Err stop) = StopsBy input stop

-- the text of this stop is that of all refused lines, or memory ran out
abbrev pub SaysAll : (name : List ℕ) → RefusedLines → Stop → Type 0
SaysAll name refused (stops.Usage text) = ⊥
SaysAll name refused (stops.Refused line kind) = ⊥
SaysAll name refused (stops.RefusedAll text) = (all : List RefusedLine) → Lists refused all → text ≡ refused_text name all
SaysAll name refused (stops.Record place kind) = ⊥
SaysAll name refused (stops.File failed) = ⊥
SaysAll name refused stops.Output = ⊥
SaysAll name refused stops.Net = ⊥
SaysAll name refused stops.OutOfMemory = ⊤

-- nothing is written for a stop
abbrev pub IsSilent : Stop → Type 0
IsSilent (stops.Usage text) = ⊥
IsSilent (stops.Refused line kind) = ⊥
IsSilent (stops.RefusedAll text) = ⊥
IsSilent (stops.Record place kind) = ⊥
IsSilent (stops.File name) = ⊥
IsSilent stops.Output = ⊤
IsSilent stops.Net = ⊤
IsSilent stops.OutOfMemory = ⊤

-- a reply tells what was refused, with its cause in the count where it tells a fault, or memory ran out
abbrev pub Replies : Input → Result Reply Stop → Type 0
Replies input (Ok reply) =
    IsAnswer input.words input.files input.builder input.last reply.status reply.text × (reply.status ≡ ended.FileFault → Rose input.reads input.reads_now)
    × IsRefusal reply.status
Replies input (Err stop) = stop ≡ stops.OutOfMemory

-- what `check --all` says of what a configuration's text in this file comes to: its line, or each refused line
abbrev pub SaysVerdict : (name : List ℕ) → Verdict → Result (List ℕ) Stop → Type 0
SaysVerdict name (Accepted cfg) (Ok text) = text ≡ accepted_line (length cfg.request) (length cfg.response + length cfg.after) (length cfg.req_filters + length cfg.res_filters)
SaysVerdict name (Refused refused) (Ok text) = ⊥
SaysVerdict name (Accepted cfg) (Err stop) = stop ≡ stops.OutOfMemory
SaysVerdict name (Refused refused) (Err stop) = SaysAll name refused stop
