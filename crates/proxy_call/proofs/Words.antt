-- Lists of words are told apart, and say the names of their files.
use Rattle.std.proofs.Common.{◌≡◌, ℕ, ◌+◌, ◌*◌, ◌==◌, ◌||◌, ◌&&◌, Bool, true, false, List, [], ◌∷◌, ◌⊎◌, inl, inr, refl, ap, sym, ◌∙◌, subst, arith, codes, length, get_or}
use Rattle.std.specs.Prelude.{Option, Some, if◌then◌else◌}
use Rattle.px_bytes.specs.Numbers.{decimal_of}
use Rattle.px_link.specs.Told.{NamedBytes}
use Rattle.px_command.specs.Command.{IsCheck, IsCheckAll, IsCheckPrint, IsCheckRecord, IsReplay, IsExplain, IsExplainBlocks, IsWeave, RunsRecord, IsServe, IsRun, IsDrill, AsksText, IsFileWord, NamesConfig, ReadsConfig}
use Rattle.px_command.specs.declared.options.RunOptions.{RunOptions}
use Rattle.proxy_commands.specs.Modes.{RunsSo}
use Rattle.proxy_commands.specs.declared.record_command.RecordCommand.{RecordCommand}
use Rattle.proxy_commands.specs.declared.record_command.RecordCommand.TheVariants.{Replay, Explain, Weave}
use Rattle.proxy_commands.specs.Answers.{Checks, IsGood, NamesServe}
use Rattle.proxy_call.specs.Due.{AsksNoFile}
use Rattle.proxy_commands.specs.Running.{NamesRun}

-- how many words stand behind the first, and its third letter
abbrev key : List (List ℕ) → ℕ
key [] = 0
key (first ∷ rest) = 1000 * length rest + get_or first 2 0

-- whether the third letter of the first word is that of `run`, the only command whose number of words isn't fixed
abbrev runs : List (List ℕ) → Bool
runs [] = false
runs (first ∷ rest) = get_or first 2 0 == 110

abbrev second : List (List ℕ) → List ℕ
second [] = []
second (a ∷ []) = []
second (a ∷ b ∷ rest) = b

abbrev third : List (List ℕ) → List ℕ
third [] = []
third (a ∷ []) = []
third (a ∷ b ∷ []) = []
third (a ∷ b ∷ d ∷ rest) = d

abbrev fourth : List (List ℕ) → List ℕ
fourth [] = []
fourth (a ∷ []) = []
fourth (a ∷ b ∷ []) = []
fourth (a ∷ b ∷ d ∷ []) = []
fourth (a ∷ b ∷ d ∷ e ∷ rest) = e

check_key : (words : List (List ℕ)) (cfg : List ℕ) → IsCheck words cfg → key words ≡ 1101
check_key words cfg is = ap key is.0

all_key : (words : List (List ℕ)) (cfg : List ℕ) → IsCheckAll words cfg → key words ≡ 2101
all_key words cfg is = ap key is.0

record_key : (words : List (List ℕ)) (rec : List ℕ) → IsCheckRecord words rec → key words ≡ 2101
record_key words rec is = ap key is.0

replay_key : (words : List (List ℕ)) (cfg rec : List ℕ) → IsReplay words cfg rec → key words ≡ 2112
replay_key words cfg rec is = ap key is.0

-- `replay` and `explain` have the same letter there, and stand together
explain_key : (words : List (List ℕ)) (cfg rec : List ℕ) → IsExplain words cfg rec → key words ≡ 2112
explain_key words cfg rec is = ap key is.0

blocks_key : (words : List (List ℕ)) (cfg rec : List ℕ) → IsExplainBlocks words cfg rec → key words ≡ 3112
blocks_key words cfg rec is = ap key is.0

weave_key : (words : List (List ℕ)) (cfg rec : List ℕ) (cores : ℕ) → IsWeave words cfg rec cores → key words ≡ 3097
weave_key words cfg rec cores is = ap key is.1

serve_key : (words : List (List ℕ)) (cfg : List ℕ) (count : ℕ) → IsServe words cfg count → key words ≡ 2114
serve_key words cfg count is = ap key is.1

drill_key : (words : List (List ℕ)) (seed exchanges : ℕ) → IsDrill words seed exchanges → key words ≡ 2105
drill_key words seed exchanges is = ap key is.2

run_letter : (words : List (List ℕ)) (cfg : List ℕ) (options : RunOptions) → IsRun words cfg options → runs words ≡ true
run_letter words cfg options is = ap runs is.1

-- one word or two, as those that ask for a text
abbrev is_short : ℕ → Bool
is_short n = n == 1 || n == 2

abbrev short : List (List ℕ) → Bool
short words = is_short (length words)

text_short : (words : List (List ℕ)) → AsksText words → short words ≡ true
text_short words (inl (inl is)) = ap short is
text_short words (inl (inr (inl is))) = ap short is
text_short words (inl (inr (inr is))) = ap short is
text_short words (inr (inl (command, inl is))) = ap short is
text_short words (inr (inl (command, inr (inl is)))) = ap short is
text_short words (inr (inl (command, inr (inr is)))) = ap short is
text_short words (inr (inr (inl is))) = ap short is
text_short words (inr (inr (inr is))) = ap short is

runs_long : (words : List (List ℕ)) (cfg rec : List ℕ) → RunsRecord words cfg rec → short words ≡ false
runs_long words cfg rec (inl is) = ap short is.0
runs_long words cfg rec (inr (inl (inl is))) = ap short is.0
runs_long words cfg rec (inr (inl (inr is))) = ap short is.0
runs_long words cfg rec (inr (inr (cores, is))) = ap short is.1

-- ---- which words name a configuration

abbrev has_config : ℕ → Bool
has_config k = k == 1101 || (k == 2112 || (k == 3112 || (k == 3097 || k == 2114)))

-- whether they are three, the first with the third letter of `check` and the second with that of `--print`
abbrev prints : List (List ℕ) → Bool
prints [] = false
prints (first ∷ rest) = get_or first 2 0 == 101 && (length rest == 2 && get_or (second (first ∷ rest)) 2 0 == 112)

abbrev config_key : List (List ℕ) → Bool
config_key words = runs words || (prints words || has_config (key words))

no_bool : (b : Bool) → b ≡ true → b ≡ false → ⊥
no_bool b p q = cc

config_there : (words : List (List ℕ)) (cfg : List ℕ) → NamesConfig words cfg → config_key words ≡ true
config_there words cfg (inl check) = ap config_key check.0
config_there words cfg (inr (inl (rec, inl replay))) = ap config_key replay.0
config_there words cfg (inr (inl (rec, inr (inl (inl explain))))) = ap config_key explain.0
config_there words cfg (inr (inl (rec, inr (inl (inr blocks))))) = ap config_key blocks.0
config_there words cfg (inr (inl (rec, inr (inr weave)))) = ap config_key weave.1.1
config_there words cfg (inr (inr (inl serve))) = ap config_key serve.1.1
config_there words cfg (inr (inr (inr (inl ran)))) = ap config_key ran.1.1
config_there words cfg (inr (inr (inr (inr print)))) = ap config_key print.0

-- a word with a dash in front names no file
dash_or_file : (words : List (List ℕ)) (flag cfg : List ℕ) → second words ≡ 45 ∷ flag → IsCheck words cfg → ⊥
dash_or_file words flag cfg dash check = subst IsFileWord (sym (ap second check.0) ∙ dash) check.1 refl

other_or_check : (words : List (List ℕ)) (cfg : List ℕ) → config_key words ≡ false → IsCheck words cfg → ⊥
other_or_check words cfg other check = no_bool (config_key words) (ap config_key check.0) other

text_or_check : (words : List (List ℕ)) (cfg : List ℕ) → AsksText words → IsCheck words cfg → ⊥
text_or_check words cfg (inl (inl is)) check = other_or_check words cfg (ap config_key is) check
text_or_check words cfg (inl (inr (inl is))) check = other_or_check words cfg (ap config_key is) check
text_or_check words cfg (inl (inr (inr is))) check = other_or_check words cfg (ap config_key is) check
text_or_check words cfg (inr (inl (command, inl is))) check = dash_or_file words (codes "-help") cfg (ap second is) check
text_or_check words cfg (inr (inl (command, inr (inl is)))) check = dash_or_file words (codes "h") cfg (ap second is) check
text_or_check words cfg (inr (inl (command, inr (inr is)))) check = other_or_check words cfg (ap config_key is) check
text_or_check words cfg (inr (inr (inl is))) check = other_or_check words cfg (ap config_key is) check
text_or_check words cfg (inr (inr (inr is))) check = other_or_check words cfg (ap config_key is) check

-- nor does one behind `run`
dash_or_run_file : (words : List (List ℕ)) (flag cfg : List ℕ) (options : RunOptions) → second words ≡ 45 ∷ flag → IsRun words cfg options → ⊥
dash_or_run_file words flag cfg options dash is = subst IsFileWord (sym (ap second is.1) ∙ dash) is.2 refl

text_or_run : (words : List (List ℕ)) (cfg : List ℕ) (options : RunOptions) → AsksText words → IsRun words cfg options → ⊥
text_or_run words cfg options (inl (inl is)) ran = no_bool (runs words) (run_letter words cfg options ran) (ap runs is)
text_or_run words cfg options (inl (inr (inl is))) ran = no_bool (runs words) (run_letter words cfg options ran) (ap runs is)
text_or_run words cfg options (inl (inr (inr is))) ran = no_bool (runs words) (run_letter words cfg options ran) (ap runs is)
text_or_run words cfg options (inr (inl (command, inl is))) ran = dash_or_run_file words (codes "-help") cfg options (ap second is) ran
text_or_run words cfg options (inr (inl (command, inr (inl is)))) ran = dash_or_run_file words (codes "h") cfg options (ap second is) ran
text_or_run words cfg options (inr (inl (command, inr (inr is)))) ran = no_bool (runs words) (run_letter words cfg options ran) (ap runs is)
text_or_run words cfg options (inr (inr (inl is))) ran = no_bool (runs words) (run_letter words cfg options ran) (ap runs is)
text_or_run words cfg options (inr (inr (inr is))) ran = no_bool (runs words) (run_letter words cfg options ran) (ap runs is)

text_or_config : (words : List (List ℕ)) (cfg : List ℕ) → AsksText words → NamesConfig words cfg → ⊥
text_or_config words cfg text (inl check) = text_or_check words cfg text check
text_or_config words cfg text (inr (inl (rec, is))) = no_bool (short words) (text_short words text) (runs_long words cfg rec is)
text_or_config words cfg text (inr (inr (inl (count, is)))) = no_bool (short words) (text_short words text) (ap short is.1)
text_or_config words cfg text (inr (inr (inr (inl (options, is))))) = text_or_run words cfg options text is
text_or_config words cfg text (inr (inr (inr (inr print)))) = no_bool (short words) (text_short words text) (ap short print.0)

named_or_all : (words : List (List ℕ)) (cfg other : List ℕ) → NamesConfig words cfg → IsCheckAll words other → ⊥
named_or_all words cfg other named all = no_bool (config_key words) (config_there words cfg named) (ap config_key all.0)

-- the third letter of the second word
abbrev asks_all : List (List ℕ) → Bool
asks_all words = get_or (second words) 2 0 == 97

all_or_record : (words : List (List ℕ)) (cfg rec : List ℕ) → IsCheckAll words cfg → IsCheckRecord words rec → ⊥
all_or_record words cfg rec all record_is = no_bool (asks_all words) (ap asks_all all.0) (ap asks_all record_is.0)

pub record_or_config : (words : List (List ℕ)) (rec cfg : List ℕ) → IsCheckRecord words rec → ReadsConfig words cfg → ⊥
record_or_config words rec cfg is (inl named) = no_bool (config_key words) (config_there words cfg named) (ap config_key is.0)
record_or_config words rec cfg is (inr all) = all_or_record words cfg rec all is

abbrev is_drill : ℕ → Bool
is_drill k = k == 2105

fileless_or_named : (words : List (List ℕ)) (cfg : List ℕ) → AsksNoFile words → NamesConfig words cfg → ⊥
fileless_or_named words cfg (inl drill) named = no_bool (config_key words) (config_there words cfg named) (ap config_key drill.2.2)
fileless_or_named words cfg (inr text) named = text_or_config words cfg text named

fileless_or_all : (words : List (List ℕ)) (cfg : List ℕ) → AsksNoFile words → IsCheckAll words cfg → ⊥
fileless_or_all words cfg (inl drill) all = no_bool (is_drill (key words)) (ap is_drill (drill_key words drill.0 drill.1 drill.2)) (ap is_drill (all_key words cfg all))
fileless_or_all words cfg (inr text) all = no_bool (short words) (text_short words text) (ap short all.0)

pub fileless_or_config : (words : List (List ℕ)) (cfg : List ℕ) → AsksNoFile words → ReadsConfig words cfg → ⊥
fileless_or_config words cfg none (inl named) = fileless_or_named words cfg none named
fileless_or_config words cfg none (inr all) = fileless_or_all words cfg none all

-- ---- which words name a record

abbrev has_record : ℕ → Bool
has_record k = k == 2101 || (k == 2112 || (k == 3112 || k == 3097))

record_there : (words : List (List ℕ)) (rec : List ℕ) → IsCheckRecord words rec ⊎ ((cfg : List ℕ) × RunsRecord words cfg rec) → has_record (key words) ≡ true
record_there words rec (inl is) = ap has_record (record_key words rec is)
record_there words rec (inr (cfg, inl replay)) = ap has_record (replay_key words cfg rec replay)
record_there words rec (inr (cfg, inr (inl (inl explain)))) = ap has_record (explain_key words cfg rec explain)
record_there words rec (inr (cfg, inr (inl (inr blocks)))) = ap has_record (blocks_key words cfg rec blocks)
record_there words rec (inr (cfg, inr (inr weave))) = ap has_record (weave_key words cfg rec weave.0 weave.1)

text_or_record : (words : List (List ℕ)) (rec : List ℕ) → AsksText words → IsCheckRecord words rec ⊎ ((cfg : List ℕ) × RunsRecord words cfg rec) → ⊥
text_or_record words rec text (inl is) = no_bool (short words) (text_short words text) (ap short is.0)
text_or_record words rec text (inr (cfg, is)) = no_bool (short words) (text_short words text) (runs_long words cfg rec is)

pub fileless_or_record : (words : List (List ℕ)) (rec : List ℕ) → AsksNoFile words → IsCheckRecord words rec ⊎ ((cfg : List ℕ) × RunsRecord words cfg rec) → ⊥
fileless_or_record words rec (inl drill) named = no_bool (has_record (key words)) (record_there words rec named) (ap has_record (drill_key words drill.0 drill.1 drill.2))
fileless_or_record words rec (inr text) named = text_or_record words rec text named

pub check_or_record : (words : List (List ℕ)) (cfg rec : List ℕ) → Checks words cfg → IsCheckRecord words rec ⊎ ((c : List ℕ) × RunsRecord words c rec) → ⊥
check_or_record words cfg rec (inl is) named = no_bool (has_record (key words)) (record_there words rec named) (ap has_record (check_key words cfg is))
check_or_record words cfg rec (inr all) (inl is) = all_or_record words cfg rec all is
check_or_record words cfg rec (inr all) (inr (c, runs)) = named_or_all words c cfg (inr (inl (rec, runs))) all

pub serve_or_record : (words : List (List ℕ)) (cfg rec : List ℕ) (count : ℕ) → IsServe words cfg count → IsCheckRecord words rec ⊎ ((c : List ℕ) × RunsRecord words c rec) → ⊥
serve_or_record words cfg rec count is named = no_bool (has_record (key words)) (record_there words rec named) (ap has_record (serve_key words cfg count is))

-- ---- which words are `check --print`

prints_there : (words : List (List ℕ)) (cfg : List ℕ) → IsCheckPrint words cfg → prints words ≡ true
prints_there words cfg is = ap prints is.0

print_or_runs : (words : List (List ℕ)) (cfg other rec : List ℕ) → IsCheckPrint words cfg → RunsRecord words other rec → ⊥
print_or_runs words cfg other rec print (inl is) = no_bool (prints words) (prints_there words cfg print) (ap prints is.0)
print_or_runs words cfg other rec print (inr (inl (inl is))) = no_bool (prints words) (prints_there words cfg print) (ap prints is.0)
print_or_runs words cfg other rec print (inr (inl (inr is))) = no_bool (prints words) (prints_there words cfg print) (ap prints is.0)
print_or_runs words cfg other rec print (inr (inr (cores, is))) = no_bool (prints words) (prints_there words cfg print) (ap prints is.1)

pub print_or_record : (words : List (List ℕ)) (cfg rec : List ℕ) → IsCheckPrint words cfg → IsCheckRecord words rec ⊎ ((c : List ℕ) × RunsRecord words c rec) → ⊥
print_or_record words cfg rec print (inl is) = no_bool (prints words) (prints_there words cfg print) (ap prints is.0)
print_or_record words cfg rec print (inr (c, runs)) = print_or_runs words cfg c rec print runs

pub print_or_check : (words : List (List ℕ)) (cfg other : List ℕ) → IsCheckPrint words cfg → Checks words other → ⊥
print_or_check words cfg other print (inl check) = no_bool (prints words) (prints_there words cfg print) (ap prints check.0)
print_or_check words cfg other print (inr all) = no_bool (prints words) (prints_there words cfg print) (ap prints all.0)

pub print_or_serve : (words : List (List ℕ)) (cfg other : List ℕ) (count : ℕ) → IsCheckPrint words cfg → IsServe words other count → ⊥
print_or_serve words cfg other count print serve = no_bool (prints words) (prints_there words cfg print) (ap prints serve.1)

-- ---- which words are `serve`

abbrev is_serve : ℕ → Bool
is_serve k = k == 2114

serve_key_or : (words : List (List ℕ)) → is_serve (key words) ≡ false → NamesServe words → ⊥
serve_key_or words other (cfg, count, is) = no_bool (is_serve (key words)) (ap is_serve (serve_key words cfg count is)) other

pub good_or_serve : (words : List (List ℕ)) (text : List ℕ) (files : Option (List NamedBytes)) → IsGood words files text → NamesServe words → ⊥
good_or_serve words text files (inl (cfg, inl is, made)) serve = serve_key_or words (ap is_serve (check_key words cfg is)) serve
good_or_serve words text files (inl (cfg, inr all, made)) serve = serve_key_or words (ap is_serve (all_key words cfg all)) serve
good_or_serve words text files (inr (inl (rec, is, made))) serve = serve_key_or words (ap is_serve (record_key words rec is)) serve
good_or_serve words text files (inr (inr (inl (cfg, rec, is, made)))) serve = serve_key_or words (ap is_serve (replay_key words cfg rec is)) serve
good_or_serve words text files (inr (inr (inr (inl (cfg, rec, inl (is, made)))))) serve = serve_key_or words (ap is_serve (explain_key words cfg rec is)) serve
good_or_serve words text files (inr (inr (inr (inl (cfg, rec, inr (is, made)))))) serve = serve_key_or words (ap is_serve (blocks_key words cfg rec is)) serve
good_or_serve words text files (inr (inr (inr (inr (inl (cfg, rec, cores, is, made)))))) serve = serve_key_or words (ap is_serve (weave_key words cfg rec cores is)) serve
good_or_serve words text files (inr (inr (inr (inr (inr (inl (seed, exchanges, is, made))))))) serve = serve_key_or words (ap is_serve (drill_key words seed exchanges is)) serve
good_or_serve words text files (inr (inr (inr (inr (inr (inr (inl (asks, ends)))))))) (cfg, count, is) = no_bool (short words) (text_short words asks) (ap short is.1)
good_or_serve words text files (inr (inr (inr (inr (inr (inr (inr (name, print, made)))))))) (cfg, count, is) = print_or_serve words name cfg count print is

-- ---- which words are `run`

pub run_or_serve : (words : List (List ℕ)) → NamesRun words → NamesServe words → ⊥
run_or_serve words (cfg, options, is) (other, count, serve) = no_bool (runs words) (run_letter words cfg options is) (ap runs serve.1)

pub run_or_check : (words : List (List ℕ)) (cfg : List ℕ) → NamesRun words → Checks words cfg → ⊥
run_or_check words cfg (name, options, is) (inl check) = no_bool (runs words) (run_letter words name options is) (ap runs check.0)
run_or_check words cfg (name, options, is) (inr all) = no_bool (runs words) (run_letter words name options is) (ap runs all.0)

pub run_or_print : (words : List (List ℕ)) (cfg : List ℕ) → NamesRun words → IsCheckPrint words cfg → ⊥
run_or_print words cfg (name, options, is) print = no_bool (runs words) (run_letter words name options is) (ap runs print.0)

pub run_or_record : (words : List (List ℕ)) (rec : List ℕ) → NamesRun words → IsCheckRecord words rec ⊎ ((cfg : List ℕ) × RunsRecord words cfg rec) → ⊥
run_or_record words rec (name, options, is) (inl record_is) = no_bool (runs words) (run_letter words name options is) (ap runs record_is.0)
run_or_record words rec (name, options, is) (inr (cfg, inl replay)) = no_bool (runs words) (run_letter words name options is) (ap runs replay.0)
run_or_record words rec (name, options, is) (inr (cfg, inr (inl (inl explain)))) = no_bool (runs words) (run_letter words name options is) (ap runs explain.0)
run_or_record words rec (name, options, is) (inr (cfg, inr (inl (inr blocks)))) = no_bool (runs words) (run_letter words name options is) (ap runs blocks.0)
run_or_record words rec (name, options, is) (inr (cfg, inr (inr (cores, weave)))) = no_bool (runs words) (run_letter words name options is) (ap runs weave.1)

pub run_or_fileless : (words : List (List ℕ)) → NamesRun words → AsksNoFile words → ⊥
run_or_fileless words (name, options, is) (inl (seed, exchanges, drill)) = no_bool (runs words) (run_letter words name options is) (ap runs drill.2)
run_or_fileless words (name, options, is) (inr text) = text_or_run words name options text is

pub good_or_run : (words : List (List ℕ)) (text : List ℕ) (files : Option (List NamedBytes)) → IsGood words files text → NamesRun words → ⊥
good_or_run words text files (inl (cfg, is, made)) named = run_or_check words cfg named is
good_or_run words text files (inr (inl (rec, is, made))) named = run_or_record words rec named (inl is)
good_or_run words text files (inr (inr (inl (cfg, rec, is, made)))) named = run_or_record words rec named (inr (cfg, inl is))
good_or_run words text files (inr (inr (inr (inl (cfg, rec, inl (is, made)))))) named = run_or_record words rec named (inr (cfg, inr (inl (inl is))))
good_or_run words text files (inr (inr (inr (inl (cfg, rec, inr (is, made)))))) named = run_or_record words rec named (inr (cfg, inr (inl (inr is))))
good_or_run words text files (inr (inr (inr (inr (inl (cfg, rec, cores, is, made)))))) named = run_or_record words rec named (inr (cfg, inr (inr (cores, is))))
good_or_run words text files (inr (inr (inr (inr (inr (inl (seed, exchanges, is, made))))))) named = run_or_fileless words named (inl (seed, exchanges, is))
good_or_run words text files (inr (inr (inr (inr (inr (inr (inl (asks, ends)))))))) named = run_or_fileless words named (inr asks)
good_or_run words text files (inr (inr (inr (inr (inr (inr (inr (cfg, print, made)))))))) named = run_or_print words cfg named print

-- ---- the names of files

-- whether a flag stands in front of the two files: three words behind one whose third letter is that of `explain`
abbrev has_flag : List (List ℕ) → Bool
has_flag [] = false
has_flag (first ∷ rest) = get_or first 2 0 == 112 && length rest == 3

-- where these stand
abbrev config_word : List (List ℕ) → List ℕ
config_word words = if prints words || has_flag words then third words else second words

abbrev record_word : List (List ℕ) → List ℕ
record_word words = if has_flag words then fourth words else third words

config_named_there : (words : List (List ℕ)) (cfg : List ℕ) → NamesConfig words cfg → config_word words ≡ cfg
config_named_there words cfg (inl check) = ap config_word check.0
config_named_there words cfg (inr (inl (rec, inl is))) = ap config_word is.0
config_named_there words cfg (inr (inl (rec, inr (inl (inl is))))) = ap config_word is.0
config_named_there words cfg (inr (inl (rec, inr (inl (inr is))))) = ap config_word is.0
config_named_there words cfg (inr (inl (rec, inr (inr (cores, is))))) = ap config_word is.1
config_named_there words cfg (inr (inr (inl (count, is)))) = ap config_word is.1
config_named_there words cfg (inr (inr (inr (inl (options, is))))) = ap config_word is.1
config_named_there words cfg (inr (inr (inr (inr is)))) = ap config_word is.0

same_named : (words : List (List ℕ)) (a b : List ℕ) → NamesConfig words a → NamesConfig words b → a ≡ b
same_named words a b p q = let x = config_named_there words a p in let y = config_named_there words b q in cc

same_third : (words : List (List ℕ)) (a b : List ℕ) → IsCheckAll words a → IsCheckAll words b → a ≡ b
same_third words a b p q = let x : third words ≡ a = ap third p.0 in let y : third words ≡ b = ap third q.0 in cc

pub same_config_name : (words : List (List ℕ)) (a b : List ℕ) → ReadsConfig words a → ReadsConfig words b → a ≡ b
same_config_name words a b (inl p) (inl q) = same_named words a b p q
same_config_name words a b (inl p) (inr q) = absurd (named_or_all words a b p q)
same_config_name words a b (inr p) (inl q) = absurd (named_or_all words b a q p)
same_config_name words a b (inr p) (inr q) = same_third words a b p q

record_named_there : (words : List (List ℕ)) (rec : List ℕ) → IsCheckRecord words rec ⊎ ((cfg : List ℕ) × RunsRecord words cfg rec) → record_word words ≡ rec
record_named_there words rec (inl is) = ap record_word is.0
record_named_there words rec (inr (cfg, inl is)) = ap record_word is.0
record_named_there words rec (inr (cfg, inr (inl (inl is)))) = ap record_word is.0
record_named_there words rec (inr (cfg, inr (inl (inr is)))) = ap record_word is.0
record_named_there words rec (inr (cfg, inr (inr (cores, is)))) = ap record_word is.1

pub same_record_name : (words : List (List ℕ)) (a b : List ℕ) → IsCheckRecord words a ⊎ ((cfg : List ℕ) × RunsRecord words cfg a) → IsCheckRecord words b ⊎ ((cfg : List ℕ) × RunsRecord words cfg b) → a ≡ b
same_record_name words a b p q = let x = record_named_there words a p in let y = record_named_there words b q in cc

same_number : (a b w : List ℕ) (count n : ℕ) → w ≡ a → w ≡ b → decimal_of 10 a ≡ Some count → decimal_of 10 b ≡ Some n → count ≡ n
same_number a b w count n p q c d = let e : decimal_of 10 a ≡ decimal_of 10 b = ap (decimal_of 10) (sym p ∙ q) in cc

-- the number of connections is what the words say
pub same_count : (words : List (List ℕ)) (cfg other : List ℕ) (count n : ℕ) → IsServe words cfg count → IsServe words other n → count ≡ n
same_count words cfg other count n p q =
    let first : third words ≡ p.0 = ap third p.1 in
    let second_count : third words ≡ q.0 = ap third q.1 in
    same_number p.0 q.0 (third words) count n first second_count p.3.0 q.3.0

-- ---- commands that run a record, by the first letter

abbrev letter : List (List ℕ) → ℕ
letter [] = 0
letter (first ∷ rest) = get_or first 0 0

abbrev letter_of : RecordCommand → ℕ
letter_of Replay = 114
letter_of Explain = 101
letter_of Weave = 119

begins_so : (command : RecordCommand) (words : List (List ℕ)) (cfg rec : List ℕ) → RunsSo command words cfg rec → letter words ≡ letter_of command
begins_so Replay words cfg rec replay = ap letter replay.0
begins_so Explain words cfg rec (inl explain) = ap letter explain.0
begins_so Explain words cfg rec (inr blocks) = ap letter blocks.0
begins_so Weave words cfg rec (cores, weave) = ap letter weave.1

by_letter : (a b : RecordCommand) → letter_of a ≡ letter_of b → a ≡ b
by_letter Replay Replay e = refl
by_letter Replay Explain e = let differ : 114 ≡ 101 = e in absurd (omega (arith, differ))
by_letter Replay Weave e = let differ : 114 ≡ 119 = e in absurd (omega (arith, differ))
by_letter Explain Replay e = let differ : 101 ≡ 114 = e in absurd (omega (arith, differ))
by_letter Explain Explain e = refl
by_letter Explain Weave e = let differ : 101 ≡ 119 = e in absurd (omega (arith, differ))
by_letter Weave Replay e = let differ : 119 ≡ 114 = e in absurd (omega (arith, differ))
by_letter Weave Explain e = let differ : 119 ≡ 101 = e in absurd (omega (arith, differ))
by_letter Weave Weave e = refl

-- words are of one command
pub same_command : (a b : RecordCommand) (words : List (List ℕ)) (cfg rec other last : List ℕ) → RunsSo a words cfg rec → RunsSo b words other last → a ≡ b
same_command a b words cfg rec other last p q = by_letter a b (sym (begins_so a words cfg rec p) ∙ begins_so b words other last q)

-- they are words of a command that runs a record
pub runs_record : (command : RecordCommand) (words : List (List ℕ)) (cfg rec : List ℕ) → RunsSo command words cfg rec → RunsRecord words cfg rec
runs_record Replay words cfg rec replay = inl replay
runs_record Explain words cfg rec explain = inr (inl explain)
runs_record Weave words cfg rec weave = inr (inr weave)
