-- What a step that stops says of the whole command.
use Rattle.std.proofs.Common.{◌≡◌, ◌≤◌, true, false, ℕ, List, inl, inr, refl, sym, subst, arith}
use Rattle.std.specs.Prelude.{Option, Result, Ok, Err, IfErr, IsErrAnd}
use Rattle.px_link.specs.Told.{NamedBytes, Reads, Rose}
use Rattle.http_rules.specs.declared.config.Config.{Config}
use Rattle.cfg_parse.specs.Whole.{Loads}
use Rattle.cfg_parse.specs.Judged.{Judges, refused_of}
use Rattle.cfg_parse.specs.declared.refused.RefusedLines.{RefusedLines}
use Rattle.cfg_parse.specs.declared.refused.Verdict.{Verdict}
use Rattle.cfg_parse.specs.declared.refused.Verdict.TheVariants.{Accepted, Refused}
use Rattle.cfg_parse.specs.declared.fault.CfgFault.{CfgFault}
use Rattle.cfg_parse.specs.declared.fault.CfgFault.TheVariants as configurations
use Rattle.cfg_parse.specs.declared.fault.CfgKind.{CfgKind}
use Rattle.cfg_parse.specs.declared.fault.CfgKind.TheVariants.{Mode}
use Rattle.cfg_print.specs.Fits.{fits}
use Rattle.cfg_print.specs.declared.fault.PrintFault.{PrintFault}
use Rattle.cfg_print.specs.declared.fault.PrintFault.TheVariants as printing
use Rattle.rec_format.specs.declared.record.RecFault.{RecFault}
use Rattle.rec_format.specs.declared.record.RecFault.TheVariants as records
use Rattle.rec_format.specs.Parts.{Refuses}
use Rattle.rec_format.specs.Recorded.{record_of}
use Rattle.px_command.specs.Command.{IsCheckAll, IsCheckPrint, NamesConfig, RunsRecord}
use Rattle.proxy_commands.specs.Answers.{DecidesBy, DecidesRecord, IsAccepted, IsRefusedBy}
use Rattle.proxy_commands.specs.Lines.{refused_line}
use Rattle.proxy_commands.specs.Files.{IfTold, Configured, IsBuilt}
use Rattle.proxy_commands.specs.Modes.{RunsSo, Takes, refuses}
use Rattle.proxy_commands.specs.declared.record_command.RecordCommand.{RecordCommand}
use Rattle.proxy_commands.specs.declared.record_command.RecordCommand.TheVariants.{Replay, Explain, Weave}
use Rattle.proxy_commands.specs.Stops.{Input, Answers, ReadStops, SaysAll, SaysVerdict, StopsBy, stop_of_configuration, stop_of_printing, stop_of_record}
use Rattle.proxy_commands.specs.declared.stop.Stop.{Stop}
use Rattle.proxy_commands.specs.declared.stop.Stop.TheVariants as stops
use Rattle.proxy_commands.proofs.Told.{configured, recorded, refused, refused_all, weaker}

-- ---- what a `?` passes on

pub passed_on : {T : Type 0} (r : Result T Stop) (s : Stop) (P : Stop → Type 0) → IsErrAnd r (λ (y : Stop). y ≡ s) → P s → IfErr r P
passed_on (Ok x) s P is p = absurd is
passed_on (Err y) s P is p = subst P (sym is) p

pub answers_err : (input : Input) (r : Result (List ℕ) Stop) (s : Stop) → IsErrAnd r (λ (y : Stop). y ≡ s) → StopsBy input s → Answers input r
answers_err input (Ok x) s is p = absurd is
answers_err input (Err y) s is p = subst (StopsBy input) (sym is) p

-- ---- why a step stops

rose_over : (first before now : ℕ) → first ≤ before → Rose before now → Rose first now
rose_over first before now least (inl more) = inl (omega (arith, least, more))
rose_over first before now least (inr most) = inr most

-- a file that can't be read, where reads had failed so often before
pub read_stops : (input : Input) (name : List ℕ) (before : ℕ) (stop : Stop) → DecidesBy input.words input.files input.builder name → input.reads ≤ before
    → ReadStops name input.last before input.reads_now stop → StopsBy input stop
read_stops input name before (stops.Usage text) decides least reads = absurd reads
read_stops input name before (stops.Refused line kind) decides least reads = absurd reads
read_stops input name before (stops.RefusedAll text) decides least reads = absurd reads
read_stops input name before (stops.Record place kind) decides least reads = absurd reads
read_stops input name before (stops.File failed) decides least reads =
    (rose_over input.reads before input.reads_now least reads.0, reads.1, subst (DecidesBy input.words input.files input.builder) (sym reads.2) decides)
read_stops input name before stops.Output decides least reads = absurd reads
read_stops input name before stops.Net decides least reads = absurd reads
read_stops input name before stops.OutOfMemory decides least reads = tt

-- a configuration that is refused
pub load_stops : (input : Input) (name bytes : List ℕ) (fault : CfgFault) → NamesConfig input.words name → Reads input.files name 1048577 bytes
    → Loads bytes input.builder.before input.builder.now input.builder.kept (Err fault) → StopsBy input (stop_of_configuration fault)
load_stops input name bytes (configurations.Refused line kind) named read loads = inl (name, named, refused input.files input.builder name bytes line kind read loads)
load_stops input name bytes configurations.OutOfMemory named read loads = tt

-- a record that is refused
pub record_stops : (input : Input) (name bytes : List ℕ) (fault : RecFault) → DecidesRecord input.words input.files input.builder name → Reads input.files name 67108865 bytes
    → Refuses (record_of bytes) fault → StopsBy input (stop_of_record fault)
record_stops input name bytes (records.Refused place kind) decides read refuses =
    (name, decides, recorded input.files name bytes (Err (record { place = place; kind = kind })) read refuses)
record_stops input name bytes records.OutOfMemory decides read refuses = tt

-- a configuration that is accepted and taken is one
pub accepted : (words : List (List ℕ)) (files : Option (List NamedBytes)) (cfg_name rec_name : List ℕ) (cfg : Config) → Takes words cfg_name rec_name cfg
    → IfTold files (λ fs. Configured fs cfg_name (Ok cfg)) → IsAccepted words files cfg_name rec_name
accepted words files cfg_name rec_name cfg takes is =
    weaker files (λ fs. Configured fs cfg_name (Ok cfg)) (λ fs. (c : Config) × Configured fs cfg_name (Ok c) × Takes words cfg_name rec_name c) (λ fs h. (cfg, h, takes)) is

-- ---- which configurations a command takes

pub runs_record : (command : RecordCommand) (words : List (List ℕ)) (cfg_name rec_name : List ℕ) → RunsSo command words cfg_name rec_name → RunsRecord words cfg_name rec_name
runs_record Replay words cfg_name rec_name so = inl so
runs_record Explain words cfg_name rec_name so = inr (inl so)
runs_record Weave words cfg_name rec_name so = inr (inr so)

pub mode_stops : (input : Input) (command : RecordCommand) (cfg_name rec_name : List ℕ) (cfg : Config) → RunsSo command input.words cfg_name rec_name
    → IfTold input.files (λ fs. Configured fs cfg_name (Ok cfg)) → IsBuilt input.builder → refuses command cfg ≡ true → StopsBy input (stops.Refused 0 Mode)
mode_stops input command cfg_name rec_name cfg so accepts built refused =
    inr (inl (record { cfg_name = cfg_name; rec_name = rec_name; cfg = cfg; refuses = (command, so, refused); accepted = accepts; built = built; whole = refl; mode = refl }))

-- what is written of a configuration that is refused, or that the command doesn't take
pub refused_by : (input : Input) (line : ℕ) (kind : CfgKind) (text : List ℕ) → StopsBy input (stops.Refused line kind) → text ≡ refused_line line kind → IsRefusedBy input.words input.files input.builder text
refused_by input line kind text (inl (name, named, refused)) is = inl (name, named, (line, kind, refused, is))
refused_by input line kind text (inr (inl other)) is = inr (inr (inl (line, kind, other, is)))
refused_by input line kind text (inr (inr overlong)) is = inr (inr (inr (line, kind, overlong, is)))

-- ---- the canonical text

-- one that would be too long
pub print_stops : (input : Input) (name : List ℕ) (cfg : Config) (fault : PrintFault) → IsCheckPrint input.words name → IfTold input.files (λ fs. Configured fs name (Ok cfg))
    → IsBuilt input.builder → (fault ≡ printing.TooLong → fits cfg ≡ false) → StopsBy input (stop_of_printing fault)
print_stops input name cfg printing.TooLong is accepts built overlong =
    inr (inr (record { cfg_name = name; cfg = cfg; prints = is; accepted = accepts; built = built; overlong = overlong refl; whole = refl; limit = refl }))
print_stops input name cfg printing.OutOfMemory is accepts built overlong = tt

-- ---- all refused lines

all_stops : (input : Input) (name bytes : List ℕ) (refused : RefusedLines) (stop : Stop) → IsCheckAll input.words name → Reads input.files name 1048577 bytes
    → Judges bytes input.builder.before input.builder.now (Refused refused) → SaysAll name refused stop → StopsBy input stop
all_stops input name bytes refused (stops.Usage text) is read judges says = absurd says
all_stops input name bytes refused (stops.Refused line kind) is read judges says = absurd says
all_stops input name bytes refused (stops.RefusedAll text) is read judges says =
    (name, is, (refused_of bytes judges.answers, refused_all input.files input.builder name bytes (Refused refused) judges read judges.is.1, says (refused_of bytes judges.answers) judges.is.0))
all_stops input name bytes refused (stops.Record place kind) is read judges says = absurd says
all_stops input name bytes refused (stops.File failed) is read judges says = absurd says
all_stops input name bytes refused stops.Output is read judges says = absurd says
all_stops input name bytes refused stops.Net is read judges says = absurd says
all_stops input name bytes refused stops.OutOfMemory is read judges says = tt

-- what `check --all` says of a text that was read
pub all_answers : (input : Input) (name bytes : List ℕ) (verdict : Verdict) (result : Result (List ℕ) Stop) → IsCheckAll input.words name → Reads input.files name 1048577 bytes
    → Judges bytes input.builder.before input.builder.now verdict → SaysVerdict name verdict result → Answers input result
all_answers input name bytes (Accepted cfg) (Ok text) is read judges says =
    (inl (name, inr is, (cfg, configured input.files name bytes (Ok cfg) read judges.is.1, says)), judges.built)
all_answers input name bytes (Accepted cfg) (Err stop) is read judges says = subst (StopsBy input) (sym says) tt
all_answers input name bytes (Refused refused) (Ok text) is read judges says = absurd says
all_answers input name bytes (Refused refused) (Err stop) is read judges says = all_stops input name bytes refused stop is read judges says
