-- What `clap` reads of the command line's builder, and which words it refuses.
use Rattle.std.specs.Prelude.{List, true, Some, codes}
use Rattle.clap.specs.Words.{App, Rule, Text, new_app, new_rule, with_rule, with_subcommand}
use Rattle.clap.specs.Words.{HasKind, fault_of}
use Rattle.clap.specs.Simple.{on_top}
use Rattle.clap.specs.declared.builder.action.ArgAction.TheVariants.{SetTrue}
use Rattle.clap.specs.declared.error.Error.{Error}

-- a word that must be given
abbrev pub word_rule : (name : Text) → Rule
word_rule name = record (new_rule name) { required = true }

-- a flag
abbrev pub flag_rule : (name : Text) → Rule
flag_rule name = record (new_rule name) { long = Some name; action = Some SetTrue }

-- a command with two words
abbrev pub two_words : (name first second : Text) → App
two_words name first second = with_rule (with_rule (new_app name) (word_rule first)) (word_rule second)

-- `explain`, with the flag that asks for the blocks, and two files
abbrev pub explain_shape : App
explain_shape = with_rule (with_rule (with_rule (new_app (codes "explain")) (flag_rule (codes "blocks"))) (word_rule (codes "CFG"))) (word_rule (codes "REC"))

-- `weave`, with two files and a number
abbrev pub weave_shape : App
weave_shape = with_rule (two_words (codes "weave") (codes "CFG") (codes "REC")) (word_rule (codes "K"))

-- an option with a number
abbrev pub option_rule : (name : Text) → Rule
option_rule name = record (new_rule name) { long = Some name; value_names = 1 }

-- `run`, with a file and the options that have numbers
abbrev pub run_numbers : App
run_numbers =
    with_rule (with_rule (with_rule (with_rule (new_app (codes "run")) (word_rule (codes "CFG"))) (option_rule (codes "sets"))) (option_rule (codes "connections")))
    (option_rule (codes "workers"))

-- `run`, with a file and its options
abbrev pub run_shape : App
run_shape = with_rule (with_rule run_numbers (flag_rule (codes "until-input-ends"))) (flag_rule (codes "log"))

-- `check` with its flags: the one that asks for each refused line, the one that asks for the canonical text, and the one that says that it is a record
abbrev pub check_flags : App
check_flags = with_rule (with_rule (with_rule (new_app (codes "check")) (flag_rule (codes "all"))) (flag_rule (codes "print"))) (flag_rule (codes "record"))

-- `check`, with its flags and a file
abbrev pub check_shape : App
check_shape = with_rule check_flags (word_rule (codes "FILE"))

-- the program's own level: words stand without the program's name, and a command must be there
abbrev pub top_level : App
top_level = on_top (λ s. record s { no_binary_name = true; has_version = true; subcommand_required = true }) (new_app (codes "htx_proxy"))

-- the commands of the program; `clap` adds `help`, and the flags of help and of the version
abbrev pub parser : App
parser =
    let check = with_subcommand top_level check_shape.top in
    let replay = with_subcommand check (two_words (codes "replay") (codes "CFG") (codes "REC")).top in
    let explain = with_subcommand replay explain_shape.top in
    let weave = with_subcommand explain weave_shape.top in
    let serve = with_subcommand weave (two_words (codes "serve") (codes "CFG") (codes "COUNT")).top in
    let run = with_subcommand serve run_shape.top in
    with_subcommand run (two_words (codes "drill") (codes "SEED") (codes "COUNT")).top

-- `clap` refused the words with this error
abbrev pub IsRefused : List Text → Error → Type 0
IsRefused words error = HasKind (fault_of parser words) error
