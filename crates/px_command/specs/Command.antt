-- The words of the command line.
use Rattle.std.specs.Prelude.{◌≡◌, ◌≢◌, ℕ, ◌≤◌, List, [], ◌∷◌, ◌⊎◌, Some, codes}
use Rattle.px_bytes.specs.Numbers.{decimal_of}
use Rattle.px_command.specs.declared.name.CommandName.{CommandName}
use Rattle.px_command.specs.declared.name.CommandName.TheVariants.{Check, Replay, Explain, Weave, Serve, Run, Drill}
use Rattle.px_command.specs.Options.{options_of}
use Rattle.px_command.specs.declared.options.RunOptions.{RunOptions}

-- a word that may name a file: it isn't empty, and no dash stands in front
abbrev pub IsFileWord : List ℕ → Type 0
IsFileWord [] = ⊥
IsFileWord (b ∷ bytes) = b ≢ 45

-- the word has 1 to 10 decimal digits, which are this number, within bounds
abbrev pub IsNumber : (least most : ℕ) → (word : List ℕ) → (n : ℕ) → Type 0
IsNumber least most word n = (decimal_of 10 word ≡ Some n) × (least ≤ n) × (n ≤ most)

-- the words are `check CFG`
abbrev pub IsCheck : List (List ℕ) → (cfg : List ℕ) → Type 0
IsCheck words cfg = (words ≡ codes "check" ∷ cfg ∷ []) × IsFileWord cfg

-- the words are `check`, this flag and this file
abbrev pub IsFlagged : List (List ℕ) → (flag file : List ℕ) → Type 0
IsFlagged words flag file = (words ≡ codes "check" ∷ flag ∷ file ∷ []) × IsFileWord file

-- the words are `check --all CFG`
abbrev pub IsCheckAll : List (List ℕ) → (cfg : List ℕ) → Type 0
IsCheckAll words cfg = IsFlagged words (codes "--all") cfg

-- the words are `check --print CFG`
abbrev pub IsCheckPrint : List (List ℕ) → (cfg : List ℕ) → Type 0
IsCheckPrint words cfg = IsFlagged words (codes "--print") cfg

-- the words are `check --record REC`
abbrev pub IsCheckRecord : List (List ℕ) → (rec : List ℕ) → Type 0
IsCheckRecord words rec = IsFlagged words (codes "--record") rec

-- the words are this command and two files
abbrev pub IsOfFiles : List (List ℕ) → (command cfg rec : List ℕ) → Type 0
IsOfFiles words command cfg rec = (words ≡ command ∷ cfg ∷ rec ∷ []) × IsFileWord cfg × IsFileWord rec

-- the words are `replay CFG REC`
abbrev pub IsReplay : List (List ℕ) → (cfg rec : List ℕ) → Type 0
IsReplay words cfg rec = IsOfFiles words (codes "replay") cfg rec

-- the words are `explain CFG REC`
abbrev pub IsExplain : List (List ℕ) → (cfg rec : List ℕ) → Type 0
IsExplain words cfg rec = IsOfFiles words (codes "explain") cfg rec

-- the words are `explain --blocks CFG REC`
abbrev pub IsExplainBlocks : List (List ℕ) → (cfg rec : List ℕ) → Type 0
IsExplainBlocks words cfg rec = (words ≡ codes "explain" ∷ codes "--blocks" ∷ cfg ∷ rec ∷ []) × IsFileWord cfg × IsFileWord rec

-- the words are `explain` of these two files, with the flag or without
abbrev pub Explains : List (List ℕ) → (cfg rec : List ℕ) → Type 0
Explains words cfg rec = IsExplain words cfg rec ⊎ IsExplainBlocks words cfg rec

-- the words are `weave CFG REC K`, with 1 to 256 cores
abbrev pub IsWeave : List (List ℕ) → (cfg rec : List ℕ) → (cores : ℕ) → Type 0
IsWeave words cfg rec cores =
    (count : List ℕ) × (words ≡ codes "weave" ∷ cfg ∷ rec ∷ count ∷ []) × IsFileWord cfg × IsFileWord rec × IsNumber 1 256 count cores

-- the words are `replay`, `explain` or `weave` of these two files
abbrev pub RunsRecord : List (List ℕ) → (cfg rec : List ℕ) → Type 0
RunsRecord words cfg rec = IsReplay words cfg rec ⊎ (Explains words cfg rec ⊎ ((cores : ℕ) × IsWeave words cfg rec cores))

-- the words are `serve CFG COUNT`, with 1 to 1000000 connections
abbrev pub IsServe : List (List ℕ) → (cfg : List ℕ) → (connections : ℕ) → Type 0
IsServe words cfg connections =
    (count : List ℕ) × (words ≡ codes "serve" ∷ cfg ∷ count ∷ []) × IsFileWord cfg × IsNumber 1 1000000 count connections

-- the words are `run CFG` and options that may stand together, in any order, each at most once
abbrev pub IsRun : List (List ℕ) → (cfg : List ℕ) → RunOptions → Type 0
IsRun words cfg options =
    (behind : List (List ℕ)) × (words ≡ codes "run" ∷ cfg ∷ behind) × IsFileWord cfg × (options_of behind ≡ Some options)

-- the words are `drill SEED COUNT`, with a seed of 0 to 2147483647 and 0 to 4000 exchanges
abbrev pub IsDrill : List (List ℕ) → (seed exchanges : ℕ) → Type 0
IsDrill words seed exchanges =
    (first : List ℕ) × (second : List ℕ) × (words ≡ codes "drill" ∷ first ∷ second ∷ []) × IsNumber 0 2147483647 first seed × IsNumber 0 4000 second exchanges

-- the word that names a command
abbrev pub word_of : CommandName → List ℕ
word_of Check = codes "check"
word_of Replay = codes "replay"
word_of Explain = codes "explain"
word_of Weave = codes "weave"
word_of Serve = codes "serve"
word_of Run = codes "run"
word_of Drill = codes "drill"

-- the words are `--help`, `-h` or `help`
abbrev pub IsHelp : List (List ℕ) → Type 0
IsHelp words = (words ≡ codes "--help" ∷ []) ⊎ ((words ≡ codes "-h" ∷ []) ⊎ (words ≡ codes "help" ∷ []))

-- the words are `COMMAND --help`, `COMMAND -h` or `help COMMAND`
abbrev pub IsHelpOf : List (List ℕ) → CommandName → Type 0
IsHelpOf words command =
    (words ≡ word_of command ∷ codes "--help" ∷ []) ⊎ ((words ≡ word_of command ∷ codes "-h" ∷ []) ⊎ (words ≡ codes "help" ∷ word_of command ∷ []))

-- the words are `--version` or `-V`
abbrev pub IsVersion : List (List ℕ) → Type 0
IsVersion words = (words ≡ codes "--version" ∷ []) ⊎ (words ≡ codes "-V" ∷ [])

-- the words ask for a text of help, or for the version
abbrev pub AsksText : List (List ℕ) → Type 0
AsksText words = IsHelp words ⊎ (((command : CommandName) × IsHelpOf words command) ⊎ IsVersion words)

-- the words are none of the lists that the program takes
pub record IsUsage (words : List (List ℕ)) : Type 0 where
  pub check : (cfg : List ℕ) → IsCheck words cfg → ⊥
  pub check_all : (cfg : List ℕ) → IsCheckAll words cfg → ⊥
  pub check_print : (cfg : List ℕ) → IsCheckPrint words cfg → ⊥
  pub check_record : (rec : List ℕ) → IsCheckRecord words rec → ⊥
  pub replay : (cfg rec : List ℕ) → IsReplay words cfg rec → ⊥
  pub explain : (cfg rec : List ℕ) → IsExplain words cfg rec → ⊥
  pub explain_blocks : (cfg rec : List ℕ) → IsExplainBlocks words cfg rec → ⊥
  pub weave : (cfg rec : List ℕ) (cores : ℕ) → IsWeave words cfg rec cores → ⊥
  pub serve : (cfg : List ℕ) (connections : ℕ) → IsServe words cfg connections → ⊥
  pub run : (cfg : List ℕ) (options : RunOptions) → IsRun words cfg options → ⊥
  pub drill : (seed exchanges : ℕ) → IsDrill words seed exchanges → ⊥
  pub text : AsksText words → ⊥

-- the configuration of a command that asks for its first refused line alone is in the file of this name
abbrev pub NamesConfig : List (List ℕ) → List ℕ → Type 0
NamesConfig words cfg = IsCheck words cfg ⊎ (((rec : List ℕ) × RunsRecord words cfg rec) ⊎ (((connections : ℕ) × IsServe words cfg connections)
    ⊎ (((options : RunOptions) × IsRun words cfg options) ⊎ IsCheckPrint words cfg)))

-- the configuration of a command, or that of `check --all`, is in the file of this name
abbrev pub ReadsConfig : List (List ℕ) → List ℕ → Type 0
ReadsConfig words cfg = NamesConfig words cfg ⊎ IsCheckAll words cfg
