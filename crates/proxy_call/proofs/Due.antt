-- What words and files call for is one status, and what the call gives is that one, or a fault or want of memory is in the way.
use Rattle.std.proofs.lemmas.Bool.{true≢false}
use Rattle.std.proofs.Common.{◌≡◌, ℕ, ◌<◌, List, [], ◌∷◌, length, ◌⊎◌, inl, inr, true, false, refl, sym, ◌∙◌, subst, arith}
use Rattle.std.specs.Prelude.{Option, Some, None, Result, Ok, Err}
use Rattle.px_link.specs.Told.{NamedBytes, Rose, content_of}
use Rattle.http_rules.specs.declared.config.Config.{Config}
use Rattle.cfg_parse.specs.Whole.{config_of, Refusal}
use Rattle.cfg_parse.specs.Judged.{IsNamed, StandsIn}
use Rattle.cfg_parse.specs.declared.fault.CfgKind.{CfgKind}
use Rattle.cfg_parse.specs.declared.refused.RefusedLine.{RefusedLine}
use Rattle.rec_format.specs.Recorded as records
use Rattle.rec_format.specs.Recorded.{Recorded, record_of}
use Rattle.cfg_print.specs.Fits.{fits}
use Rattle.px_command.specs.Command.{IsCheckAll, IsCheckPrint, IsCheckRecord, RunsRecord, IsServe, IsRun, IsUsage, NamesConfig, ReadsConfig}
use Rattle.px_command.specs.declared.options.RunOptions.{RunOptions}
use Rattle.proxy_commands.specs.Answers.{Checks, DecidesRecord, IsGood, IsRefused, IsRefusedBy}
use Rattle.proxy_call.specs.Due.{IsDue, Prints}
use Rattle.proxy_commands.specs.Files.{Builder, Configured, Holds, IfTold, RecordIs, RefusesAll}
use Rattle.proxy_commands.specs.Modes.{RunsSo, Refuses, Takes, refuses}
use Rattle.proxy_commands.specs.declared.record_command.RecordCommand.{RecordCommand}
use Rattle.proxy_commands.specs.declared.record_command.RecordCommand.TheVariants.{Replay, Explain, Weave}
use Rattle.proxy_commands.specs.declared.status.Status.{Status}
use Rattle.proxy_commands.specs.declared.status.Status.TheVariants.{Good, Usage, FileFault, OutFault, NetFault, OutOfMemory}
use Rattle.proxy_commands.specs.declared.status.Status.TheVariants as ended
use Rattle.proxy_call.proofs.Words.{record_or_config, fileless_or_config, fileless_or_record, check_or_record, serve_or_record, print_or_record, print_or_check, print_or_serve, run_or_check, run_or_print, run_or_serve, run_or_record, run_or_fileless, same_config_name, same_record_name, same_command, runs_record}

-- ---- a file has one content

some_is : (a b : List ℕ) (o : Option (List ℕ)) → o ≡ Some a → o ≡ Some b → a ≡ b
some_is a b o p q = cc

both_hold : (files : List NamedBytes) (name : List ℕ) (P Q : List ℕ → Type 0) → Holds files name P → Holds files name Q → (text : List ℕ) × P text × Q text
both_hold files name P Q p q = (q.0, subst P (some_is p.0 q.0 (content_of files name) p.1 q.1) p.2, q.2)

ok_or_err : (r : Result Config Refusal) (cfg : Config) (refusal : Refusal) → r ≡ Ok cfg → r ≡ Err refusal → ⊥
ok_or_err r cfg refusal p q = cc

accepted_or_refused : (files : List NamedBytes) (name other : List ℕ) (cfg : Config) (refusal : Refusal) → name ≡ other → Configured files name (Ok cfg) → Configured files other (Err refusal) → ⊥
accepted_or_refused files name other cfg refusal same ok err =
    let both = both_hold files other (λ t. config_of t None ≡ Ok cfg) (λ t. config_of t None ≡ Err refusal) (subst (λ (n : List ℕ). Configured files n (Ok cfg)) same ok) err in
    ok_or_err (config_of both.0 None) cfg refusal both.1 both.2

read_or_not : (r : Result Recorded records.Refusal) (found : Recorded) (refusal : records.Refusal) → r ≡ Ok found → r ≡ Err refusal → ⊥
read_or_not r found refusal p q = cc

record_or_refused : (files : List NamedBytes) (name other : List ℕ) (found : Recorded) (refusal : records.Refusal) → name ≡ other → RecordIs files name (Ok found) → RecordIs files other (Err refusal) → ⊥
record_or_refused files name other found refusal same ok err =
    let both = both_hold files other (λ t. record_of t ≡ Ok found) (λ t. record_of t ≡ Err refusal) (subst (λ (n : List ℕ). RecordIs files n (Ok found)) same ok) err in
    read_or_not (record_of both.0) found refusal both.1 both.2

-- ---- words and files call for one status

abbrev NamesRecord : List (List ℕ) → List ℕ → Type 0
NamesRecord words rec = IsCheckRecord words rec ⊎ ((cfg : List ℕ) × RunsRecord words cfg rec)

record_named : (words : List (List ℕ)) (files : List NamedBytes) (rec : List ℕ) → IsCheckRecord words rec ⊎ ((cfg_name : List ℕ) × RunsRecord words cfg_name rec × (cfg : Config) × Configured files cfg_name (Ok cfg) × Takes words cfg_name rec cfg) → NamesRecord words rec
record_named words files rec (inl is) = inl is
record_named words files rec (inr (cfg_name, is, cfg, ok, takes)) = inr (cfg_name, is)

-- a configuration that the command takes isn't one that it refuses as a whole
same_config : (r : Result Config Refusal) (a b : Config) → r ≡ Ok a → r ≡ Ok b → a ≡ b
same_config r a b p q = cc

refused_or_not : (command other : RecordCommand) (a b : Config) → command ≡ other → a ≡ b → refuses command a ≡ false → refuses other b ≡ true → ⊥
refused_or_not command other a b same one taken refused =
    let P : RecordCommand → Config → Type 0 = λ c cfg. refuses c cfg ≡ false in
    let not_so : refuses other b ≡ false = subst (λ (cfg : Config). P other cfg) one (subst (λ (c : RecordCommand). P c a) same taken) in
    absurd (true≢false (sym refused ∙ not_so))

taken_or_mode : (words : List (List ℕ)) (files : List NamedBytes) (name rec other last : List ℕ) (cfg c : Config) → Takes words name rec cfg → Refuses words other last c → name ≡ other
    → Configured files name (Ok cfg) → Configured files other (Ok c) → ⊥
taken_or_mode words files name rec other last cfg c takes refused same ok accepted =
    let both = both_hold files other (λ t. config_of t None ≡ Ok cfg) (λ t. config_of t None ≡ Ok c) (subst (λ (n : List ℕ). Configured files n (Ok cfg)) same ok) accepted in
    refused_or_not takes.0 refused.0 cfg c (same_command takes.0 refused.0 words name rec other last takes.1 refused.1) (same_config (config_of both.0 None) cfg c both.1 both.2) takes.2 refused.2

-- nor is one whose canonical text is not too long one whose is
fits_or_not : (a b : Config) → a ≡ b → fits a ≡ true → fits b ≡ false → ⊥
fits_or_not a b one fit overlong = absurd (true≢false (sym (subst (λ (cfg : Config). fits cfg ≡ true) one fit) ∙ overlong))

-- the name of a configuration's file that is printed
print_named : (words : List (List ℕ)) (name : List ℕ) → IsCheckPrint words name → ReadsConfig words name
print_named words name is = inl (inr (inr (inr (inr is))))

printed_or_overlong : (words : List (List ℕ)) (files : List NamedBytes) (name other : List ℕ) (cfg c : Config) → Prints words files name cfg → Prints words files other c
    → fits cfg ≡ true → fits c ≡ false → ⊥
printed_or_overlong words files name other cfg c is that fit overlong =
    let same = same_config_name words name other (print_named words name is.0) (print_named words other that.0) in
    let both = both_hold files other (λ t. config_of t None ≡ Ok cfg) (λ t. config_of t None ≡ Ok c) (subst (λ (n : List ℕ). Configured files n (Ok cfg)) same is.1) that.1 in
    fits_or_not cfg c (same_config (config_of both.0 None) cfg c both.1 both.2) fit overlong

config_named : (words : List (List ℕ)) (name : List ℕ) → Checks words name ⊎ ((connections : ℕ) × IsServe words name connections) → ReadsConfig words name
config_named words name (inl (inl check)) = inl (inl check)
config_named words name (inl (inr all)) = inr all
config_named words name (inr serve) = inl (inr (inr (inl serve)))

runs_or_usage : (words : List (List ℕ)) (cfg rec : List ℕ) → RunsRecord words cfg rec → IsUsage words → ⊥
runs_or_usage words cfg rec (inl replay) usage = usage.replay cfg rec replay
runs_or_usage words cfg rec (inr (inl (inl explain))) usage = usage.explain cfg rec explain
runs_or_usage words cfg rec (inr (inl (inr blocks))) usage = usage.explain_blocks cfg rec blocks
runs_or_usage words cfg rec (inr (inr (cores, weave))) usage = usage.weave cfg rec cores weave

good_or_usage : (words : List (List ℕ)) (files : List NamedBytes) → IsDue words files Good → IsUsage words → ⊥
good_or_usage words files (inl (name, inl (inl check), cfg, ok)) usage = usage.check name check
good_or_usage words files (inl (name, inl (inr all), cfg, ok)) usage = usage.check_all name all
good_or_usage words files (inl (name, inr (count, serve), cfg, ok)) usage = usage.serve name count serve
good_or_usage words files (inr (inl (rec, is, r, ok))) usage = usage.check_record rec is
good_or_usage words files (inr (inr (inl (cfg, rec, is, c, r, say, takes)))) usage = runs_or_usage words cfg rec is usage
good_or_usage words files (inr (inr (inr (inl (inl (seed, exchanges, is)))))) usage = usage.drill seed exchanges is
good_or_usage words files (inr (inr (inr (inl (inr asks))))) usage = usage.text asks
good_or_usage words files (inr (inr (inr (inr (name, cfg, is, fit))))) usage = usage.check_print name is.0

config_or_usage : (words : List (List ℕ)) (files : List NamedBytes) → IsDue words files ended.Config → IsUsage words → ⊥
config_or_usage words files (inl (name, inl (inl check), line, kind, refused)) usage = usage.check name check
config_or_usage words files (inl (name, inl (inr (inl (rec, is))), line, kind, refused)) usage = runs_or_usage words name rec is usage
config_or_usage words files (inl (name, inl (inr (inr (inl (count, is)))), line, kind, refused)) usage = usage.serve name count is
config_or_usage words files (inl (name, inl (inr (inr (inr (inl (options, is))))), line, kind, refused)) usage = usage.run name options is
config_or_usage words files (inl (name, inl (inr (inr (inr (inr is)))), line, kind, refused)) usage = usage.check_print name is
config_or_usage words files (inl (name, inr all, line, kind, refused)) usage = usage.check_all name all
config_or_usage words files (inr (inl (name, rec, cfg, ok, (command, so, refused)))) usage = runs_or_usage words name rec (runs_record command words name rec so) usage
config_or_usage words files (inr (inr (name, cfg, is, overlong))) usage = usage.check_print name is.0

record_or_usage : (words : List (List ℕ)) (files : List NamedBytes) → IsDue words files ended.Record → IsUsage words → ⊥
record_or_usage words files (rec, place, kind, refused, inl is) usage = usage.check_record rec is
record_or_usage words files (rec, place, kind, refused, inr (cfg, is, c, ok, takes)) usage = runs_or_usage words cfg rec is usage

good_or_config : (words : List (List ℕ)) (files : List NamedBytes) → IsDue words files Good → IsDue words files ended.Config → ⊥
good_or_config words files (inl (name, how, cfg, ok)) (inl (other, named, line, kind, refused)) =
    accepted_or_refused files name other cfg (line, kind) (same_config_name words name other (config_named words name how) named) ok refused
good_or_config words files (inr (inl (rec, is, r, ok))) (inl (other, named, line, kind, refused)) = record_or_config words rec other is named
good_or_config words files (inr (inr (inl (name, rec, is, cfg, r, say, takes)))) (inl (other, named, line, kind, refused)) =
    accepted_or_refused files name other cfg (line, kind) (same_config_name words name other (inl (inr (inl (rec, is)))) named) say.configuration refused
good_or_config words files (inr (inr (inr (inl none)))) (inl (other, named, line, kind, refused)) = fileless_or_config words other none named
good_or_config words files (inr (inr (inr (inr (name, cfg, is, fit))))) (inl (other, named, line, kind, refused)) =
    accepted_or_refused files name other cfg (line, kind) (same_config_name words name other (print_named words name is.0) named) is.1 refused
good_or_config words files (inl (name, inl check, cfg, ok)) (inr (inl (other, rec, c, accepted, (command, so, refused)))) = check_or_record words name rec check (inr (other, runs_record command words other rec so))
good_or_config words files (inl (name, inr (count, serve), cfg, ok)) (inr (inl (other, rec, c, accepted, (command, so, refused)))) = serve_or_record words name rec count serve (inr (other, runs_record command words other rec so))
good_or_config words files (inr (inl (name, is, r, ok))) (inr (inl (other, rec, c, accepted, (command, so, refused)))) = record_or_config words name other is (inl (inr (inl (rec, runs_record command words other rec so))))
good_or_config words files (inr (inr (inl (name, rec, is, cfg, r, say, takes)))) (inr (inl (other, last, c, accepted, (command, so, refused)))) =
    taken_or_mode words files name rec other last cfg c takes (command, so, refused) (same_config_name words name other (inl (inr (inl (rec, is)))) (inl (inr (inl (last, runs_record command words other last so))))) say.configuration accepted
good_or_config words files (inr (inr (inr (inl none)))) (inr (inl (other, rec, c, accepted, (command, so, refused)))) = fileless_or_config words other none (inl (inr (inl (rec, runs_record command words other rec so))))
good_or_config words files (inr (inr (inr (inr (name, cfg, is, fit))))) (inr (inl (other, rec, c, accepted, (command, so, refused)))) = print_or_record words name rec is.0 (inr (other, runs_record command words other rec so))
good_or_config words files (inl (name, inl check, cfg, ok)) (inr (inr (other, c, that, overlong))) = print_or_check words other name that.0 check
good_or_config words files (inl (name, inr (count, serve), cfg, ok)) (inr (inr (other, c, that, overlong))) = print_or_serve words other name count that.0 serve
good_or_config words files (inr (inl (name, is, r, ok))) (inr (inr (other, c, that, overlong))) = print_or_record words other name that.0 (inl is)
good_or_config words files (inr (inr (inl (name, rec, is, cfg, r, say, takes)))) (inr (inr (other, c, that, overlong))) = print_or_record words other rec that.0 (inr (name, is))
good_or_config words files (inr (inr (inr (inl none)))) (inr (inr (other, c, that, overlong))) = fileless_or_config words other none (print_named words other that.0)
good_or_config words files (inr (inr (inr (inr (name, cfg, is, fit))))) (inr (inr (other, c, that, overlong))) = printed_or_overlong words files name other cfg c is that fit overlong

good_or_record : (words : List (List ℕ)) (files : List NamedBytes) → IsDue words files Good → IsDue words files ended.Record → ⊥
good_or_record words files (inl (name, inl check, cfg, ok)) (rec, place, kind, refused, how) = check_or_record words name rec check (record_named words files rec how)
good_or_record words files (inl (name, inr (count, serve), cfg, ok)) (rec, place, kind, refused, how) = serve_or_record words name rec count serve (record_named words files rec how)
good_or_record words files (inr (inl (name, is, r, ok))) (rec, place, kind, refused, how) =
    record_or_refused files name rec r (record { place = place; kind = kind }) (same_record_name words name rec (inl is) (record_named words files rec how)) ok refused
good_or_record words files (inr (inr (inl (cfg_name, name, is, cfg, r, say, takes)))) (rec, place, kind, refused, how) =
    record_or_refused files name rec r (record { place = place; kind = kind }) (same_record_name words name rec (inr (cfg_name, is)) (record_named words files rec how)) say.accepted refused
good_or_record words files (inr (inr (inr (inl none)))) (rec, place, kind, refused, how) = fileless_or_record words rec none (record_named words files rec how)
good_or_record words files (inr (inr (inr (inr (name, cfg, is, fit))))) (rec, place, kind, refused, how) = print_or_record words name rec is.0 (record_named words files rec how)

config_or_record : (words : List (List ℕ)) (files : List NamedBytes) → IsDue words files ended.Config → IsDue words files ended.Record → ⊥
config_or_record words files (inl (name, named, line, kind, refused)) (rec, place, what, err, inl is) = record_or_config words rec name is named
config_or_record words files (inl (name, named, line, kind, refused)) (rec, place, what, err, inr (cfg_name, is, cfg, ok, takes)) =
    accepted_or_refused files cfg_name name cfg (line, kind) (same_config_name words cfg_name name (inl (inr (inl (rec, is)))) named) ok refused
config_or_record words files (inr (inl (name, last, c, accepted, (command, so, refused)))) (rec, place, what, err, inl is) = record_or_config words rec name is (inl (inr (inl (last, runs_record command words name last so))))
config_or_record words files (inr (inr (name, c, that, overlong))) (rec, place, what, err, how) = print_or_record words name rec that.0 (record_named words files rec how)
config_or_record words files (inr (inl (name, last, c, accepted, (command, so, refused)))) (rec, place, what, err, inr (cfg_name, is, cfg, ok, takes)) =
    taken_or_mode words files cfg_name rec name last cfg c takes (command, so, refused) (same_config_name words cfg_name name (inl (inr (inl (rec, is)))) (inl (inr (inl (last, runs_record command words name last so))))) ok accepted

pub due_once : (words : List (List ℕ)) (files : List NamedBytes) (a b : Status) → IsDue words files a → IsDue words files b → a ≡ b
due_once words files Good Good p q = refl
due_once words files Good Usage p q = absurd (good_or_usage words files p q)
due_once words files Good ended.Config p q = absurd (good_or_config words files p q)
due_once words files Good ended.Record p q = absurd (good_or_record words files p q)
due_once words files Usage Good p q = absurd (good_or_usage words files q p)
due_once words files Usage Usage p q = refl
due_once words files Usage ended.Config p q = absurd (config_or_usage words files q p)
due_once words files Usage ended.Record p q = absurd (record_or_usage words files q p)
due_once words files ended.Config Good p q = absurd (good_or_config words files q p)
due_once words files ended.Config Usage p q = absurd (config_or_usage words files p q)
due_once words files ended.Config ended.Config p q = refl
due_once words files ended.Config ended.Record p q = absurd (config_or_record words files p q)
due_once words files ended.Record Good p q = absurd (good_or_record words files q p)
due_once words files ended.Record Usage p q = absurd (record_or_usage words files p q)
due_once words files ended.Record ended.Config p q = absurd (config_or_record words files q p)
due_once words files ended.Record ended.Record p q = refl
due_once words files FileFault b p q = absurd p
due_once words files OutFault b p q = absurd p
due_once words files NetFault b p q = absurd p
due_once words files OutOfMemory b p q = absurd p
due_once words files Good FileFault p q = absurd q
due_once words files Good OutFault p q = absurd q
due_once words files Good NetFault p q = absurd q
due_once words files Good OutOfMemory p q = absurd q
due_once words files Usage FileFault p q = absurd q
due_once words files Usage OutFault p q = absurd q
due_once words files Usage NetFault p q = absurd q
due_once words files Usage OutOfMemory p q = absurd q
due_once words files ended.Config FileFault p q = absurd q
due_once words files ended.Config OutFault p q = absurd q
due_once words files ended.Config NetFault p q = absurd q
due_once words files ended.Config OutOfMemory p q = absurd q
due_once words files ended.Record FileFault p q = absurd q
due_once words files ended.Record OutFault p q = absurd q
due_once words files ended.Record NetFault p q = absurd q
due_once words files ended.Record OutOfMemory p q = absurd q

-- Where the words are `run` and its configuration is accepted, no status is due: it may go on without end.
pub run_not_due : (words : List (List ℕ)) (files : List NamedBytes) (name : List ℕ) (options : RunOptions) (cfg : Config) (wanted : Status) → IsRun words name options → Configured files name (Ok cfg)
    → IsDue words files wanted → ⊥
run_not_due words files name options cfg Good is ok (inl (other, inl checks, c, other_ok)) = run_or_check words other (name, options, is) checks
run_not_due words files name options cfg Good is ok (inl (other, inr (count, serve), c, other_ok)) = run_or_serve words (name, options, is) (other, count, serve)
run_not_due words files name options cfg Good is ok (inr (inl (rec, record_is, r, other_ok))) = run_or_record words rec (name, options, is) (inl record_is)
run_not_due words files name options cfg Good is ok (inr (inr (inl (other, rec, runs, c, r, say, takes)))) = run_or_record words rec (name, options, is) (inr (other, runs))
run_not_due words files name options cfg Good is ok (inr (inr (inr (inl none)))) = run_or_fileless words (name, options, is) none
run_not_due words files name options cfg Good is ok (inr (inr (inr (inr (other, c, that, fit))))) = run_or_print words other (name, options, is) that.0
run_not_due words files name options cfg Usage is ok usage = usage.run name options is
run_not_due words files name options cfg ended.Config is ok (inl (other, named, line, kind, refused)) =
    accepted_or_refused files name other cfg (line, kind) (same_config_name words name other (inl (inr (inr (inr (inl (options, is)))))) named) ok refused
run_not_due words files name options cfg ended.Config is ok (inr (inl (other, rec, c, accepted, (command, so, refused)))) = run_or_record words rec (name, options, is) (inr (other, runs_record command words other rec so))
run_not_due words files name options cfg ended.Config is ok (inr (inr (other, c, that, overlong))) = run_or_print words other (name, options, is) that.0
run_not_due words files name options cfg ended.Record is ok (rec, place, kind, refused, how) = run_or_record words rec (name, options, is) (record_named words files rec how)
run_not_due words files name options cfg FileFault is ok due = due
run_not_due words files name options cfg OutFault is ok due = due
run_not_due words files name options cfg NetFault is ok due = due
run_not_due words files name options cfg OutOfMemory is ok due = due

-- ---- what is written is what is due

pub of_told : (files : Option (List NamedBytes)) (fs : List NamedBytes) (P : List NamedBytes → Type 0) → files ≡ Some fs → IfTold files P → P fs
of_told files fs P is told = subst (λ (f : Option (List NamedBytes)). IfTold f P) is told

pub good_due : (words : List (List ℕ)) (files : Option (List NamedBytes)) (fs : List NamedBytes) (text : List ℕ) → files ≡ Some fs → IsGood words files text → IsDue words fs Good
good_due words files fs text told (inl (name, is, (cfg, ok, line))) = inl (name, inl is, cfg, of_told files fs _ told ok)
good_due words files fs text told (inr (inl (rec, is, (r, ok, wrote)))) = inr (inl (rec, is, r, of_told files fs _ told ok))
good_due words files fs text told (inr (inr (inl (name, rec, is, (cfg, r, say, wrote))))) = inr (inr (inl (name, rec, inl is, cfg, r, of_told files fs _ told say, (Replay, is, refl))))
good_due words files fs text told (inr (inr (inr (inl (name, rec, inl (is, (cfg, r, say, plain, wrote))))))) = inr (inr (inl (name, rec, inr (inl (inl is)), cfg, r, of_told files fs _ told say, (Explain, inl is, plain))))
good_due words files fs text told (inr (inr (inr (inl (name, rec, inr (is, (cfg, r, say, plain, wrote))))))) = inr (inr (inl (name, rec, inr (inl (inr is)), cfg, r, of_told files fs _ told say, (Explain, inr is, plain))))
good_due words files fs text told (inr (inr (inr (inr (inl (name, rec, cores, is, (cfg, r, say, plain, wrote))))))) = inr (inr (inl (name, rec, inr (inr (cores, is)), cfg, r, of_told files fs _ told say, (Weave, (cores, is), plain))))
good_due words files fs text told (inr (inr (inr (inr (inr (inl (seed, exchanges, is, wrote))))))) = inr (inr (inr (inl (inl (seed, exchanges, is)))))
good_due words files fs text told (inr (inr (inr (inr (inr (inr (inl texts))))))) = inr (inr (inr (inl (inr texts.0))))
good_due words files fs text told (inr (inr (inr (inr (inr (inr (inr (name, is, (cfg, ok, fit, wrote))))))))) = inr (inr (inr (inr (name, cfg, (is, of_told files fs _ told ok), fit))))

unbuilt : (fs : List NamedBytes) (builder : Builder) (name : List ℕ) (line : ℕ) (kind : CfgKind) → (Rose builder.before builder.now → ⊥) → IsRefused (Some fs) builder name line kind → Configured fs name (Err (line, kind))
unbuilt fs builder name line kind never (None, (text, content, (refuses, builds))) = (text, content, refuses)
unbuilt fs builder name line kind never (Some number, (text, content, (refuses, builds))) = absurd (never builds.0)

refused_due : (words : List (List ℕ)) (files : Option (List NamedBytes)) (fs : List NamedBytes) (builder : Builder) (name : List ℕ) (line : ℕ) (kind : CfgKind) → files ≡ Some fs → (Rose builder.before builder.now → ⊥)
    → NamesConfig words name → IsRefused files builder name line kind → IsDue words fs ended.Config
refused_due words files fs builder name line kind told never named refused =
    inl (name, inl named, line, kind, unbuilt fs builder name line kind never (subst (λ (f : Option (List NamedBytes)). IsRefused f builder name line kind) told refused))

-- the first of all refused lines is the one that a load names
first_due : (text : List ℕ) (builder : Builder) (all : List RefusedLine) → (Rose builder.before builder.now → ⊥) → 0 < length all
    → ((line : RefusedLine) (others : List RefusedLine) → all ≡ line ∷ others → IsNamed text builder.before builder.now line) → (line : ℕ) × (kind : CfgKind) × (config_of text None ≡ Err (line, kind))
first_due text builder [] never some first = absurd (omega arith)
first_due text builder (line ∷ others) never some first = let named = first line others refl in by named.r named.names named.builds
  where
    by : (r : Option ℕ) → config_of text r ≡ Err (line.line, line.kind) → StandsIn text line.line r builder.before builder.now → (l : ℕ) × (k : CfgKind) × (config_of text None ≡ Err (l, k))
    by None names builds = (line.line, line.kind, names)
    by (Some place) names builds = absurd (never builds.0)

all_due : (words : List (List ℕ)) (files : Option (List NamedBytes)) (fs : List NamedBytes) (builder : Builder) (name : List ℕ) (all : List RefusedLine) → files ≡ Some fs → (Rose builder.before builder.now → ⊥)
    → IsCheckAll words name → IfTold files (λ f. RefusesAll f builder name all) → IsDue words fs ended.Config
all_due words files fs builder name all told never is refused =
    let held = of_told files fs (λ f. RefusesAll f builder name all) told refused in
    let first = first_due held.0 builder all never held.2.some held.2.first in
    inl (name, inr is, first.0, first.1, (held.0, held.1, first.2))

pub refused_by_due : (words : List (List ℕ)) (files : Option (List NamedBytes)) (fs : List NamedBytes) (builder : Builder) (text : List ℕ) → files ≡ Some fs → (Rose builder.before builder.now → ⊥)
    → IsRefusedBy words files builder text → IsDue words fs ended.Config
refused_by_due words files fs builder text told never (inl (name, named, (line, kind, refused, is))) = refused_due words files fs builder name line kind told never named refused
refused_by_due words files fs builder text told never (inr (inl (name, all, (lines, refused, is)))) = all_due words files fs builder name lines told never all refused
refused_by_due words files fs builder text told never (inr (inr (inl (line, kind, mode, is)))) = inr (inl (mode.cfg_name, mode.rec_name, mode.cfg, of_told files fs _ told mode.accepted, mode.refuses))
refused_by_due words files fs builder text told never (inr (inr (inr (line, kind, long, is)))) = inr (inr (long.cfg_name, long.cfg, (long.prints, of_told files fs _ told long.accepted), long.overlong))

decided : (words : List (List ℕ)) (files : Option (List NamedBytes)) (builder : Builder) (fs : List NamedBytes) (rec : List ℕ) → files ≡ Some fs → DecidesRecord words files builder rec
    → IsCheckRecord words rec ⊎ ((cfg_name : List ℕ) × RunsRecord words cfg_name rec × (cfg : Config) × Configured fs cfg_name (Ok cfg) × Takes words cfg_name rec cfg)
decided words files builder fs rec told (inl is) = inl is
decided words files builder fs rec told (inr (cfg_name, is, accepted, built)) =
    let said = of_told files fs (λ f. (cfg : Config) × Configured f cfg_name (Ok cfg) × Takes words cfg_name rec cfg) told accepted in inr (cfg_name, is, said.0, said.1, said.2)

pub record_due : (words : List (List ℕ)) (files : Option (List NamedBytes)) (builder : Builder) (fs : List NamedBytes) (rec : List ℕ) (refusal : records.Refusal) → files ≡ Some fs → DecidesRecord words files builder rec
    → IfTold files (λ f. RecordIs f rec (Err refusal)) → IsDue words fs ended.Record
record_due words files builder fs rec refusal told decides refused =
    (rec, refusal.place, refusal.kind, of_told files fs _ told refused, decided words files builder fs rec told decides)
