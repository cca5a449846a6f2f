-- The options of `run`.
use Rattle.std.specs.Prelude.{◌&&◌, ◌||◌, ℕ, Bool, true, false, not, List, [], ◌∷◌, Option, None, Some, is_some, if◌then◌else◌, option_map, option_and_then, nat_le, codes, bytes_eq}
use Rattle.std.specs.Option.{option_map_or}
use Rattle.px_bytes.specs.Numbers.{decimal_of}
use Rattle.px_command.specs.declared.options.RunOptions.{RunOptions}

-- no option was said
abbrev pub nothing_said : RunOptions
nothing_said = record { sets = None; connections = None; workers = None; until_input_ends = false; logs = false }

-- the number within bounds that 1 to 10 decimal digits are
abbrev pub number_within : (least most : ℕ) → (word : List ℕ) → Option ℕ
number_within least most word =
    option_and_then (λ n. if nat_le least n && nat_le n most then Some n else None) (decimal_of 10 word)

-- what is said with `--until-input-ends` more; none where it was said before
abbrev pub with_soft_end : RunOptions → Option RunOptions
with_soft_end said = if said.until_input_ends then None else Some (record said { until_input_ends = true })

-- the same of `--log`
abbrev pub with_log : RunOptions → Option RunOptions
with_log said = if said.logs then None else Some (record said { logs = true })

-- what is said with a word more, which is one of these options; none where it is another
abbrev pub with_flag : RunOptions → (word : List ℕ) → Option RunOptions
with_flag said word =
    if bytes_eq word (codes "--until-input-ends") then with_soft_end said
    else (if bytes_eq word (codes "--log") then with_log said else None)

-- what is said with `--sets` and 1 to 4096 more; none where the word is another number, or it was said before
abbrev pub with_sets : RunOptions → (value : List ℕ) → Option RunOptions
with_sets said value = if is_some said.sets then None else option_map (λ n. record said { sets = Some n }) (number_within 1 4096 value)

-- the same of `--connections` and 1 to 1000000
abbrev pub with_connections : RunOptions → (value : List ℕ) → Option RunOptions
with_connections said value =
    if is_some said.connections then None else option_map (λ n. record said { connections = Some n }) (number_within 1 1000000 value)

-- the same of `--workers` and 1 to 64
abbrev pub with_workers : RunOptions → (value : List ℕ) → Option RunOptions
with_workers said value = if is_some said.workers then None else option_map (λ n. record said { workers = Some n }) (number_within 1 64 value)

-- what is said with two words more, which are one of these options and its number
abbrev pub with_number : RunOptions → (name value : List ℕ) → Option RunOptions
with_number said name value =
    if bytes_eq name (codes "--sets") then with_sets said value
    else (if bytes_eq name (codes "--connections") then with_connections said value
    else (if bytes_eq name (codes "--workers") then with_workers said value else None))

-- what the words say beside what was said before them, where they are options, in any order, each of which is said once at most
unfoldable pub options_behind : RunOptions → List (List ℕ) → Option RunOptions
options_behind said [] = Some said
options_behind said (word ∷ []) = with_flag said word
options_behind said (word ∷ value ∷ rest) =
    option_map_or (λ next. options_behind next (value ∷ rest)) (with_flag said word)
    (option_and_then (λ next. options_behind next rest) (with_number said word value))

-- Options that may stand together. The input of each worker is what all of them listen at, and none of them counts for the others, so
-- `--workers` stands neither with `--until-input-ends` nor with `--connections`.
abbrev pub may_stand : RunOptions → Bool
may_stand said = not (is_some said.workers) || (not (is_some said.connections) && not said.until_input_ends)

-- the options that the words behind `run CFG` are, where they may stand together
abbrev pub options_of : List (List ℕ) → Option RunOptions
options_of words = option_and_then (λ said. if may_stand said then Some said else None) (options_behind nothing_said words)
