-- The lines of `listen` that say where the files of an application lie, and which file is asked.
use Rattle.std.specs.Prelude.{ℕ, List, [], ◌∷◌, length, Bool, false, ◌&&◌, ◌||◌, ◌==◌, nat_le, if◌then◌else◌, Some, is_some, Result, Ok, Err}
use Rattle.cfg_parse.specs.declared.fault.CfgKind.{CfgKind}
use Rattle.cfg_parse.specs.declared.fault.CfgKind.TheVariants.{Argument}
use Rattle.cfg_parse.specs.declared.draft.ApplicationLines.{ApplicationLines}
use Rattle.cfg_parse.specs.declared.draft.Draft.{Draft}
use Rattle.cfg_parse.specs.Limits.{most_path}
use Rattle.cfg_parse.specs.Reading.{◌>>=◌, argument, no_more}

-- a root or a file
unfoldable pub path_of : List ℕ → Result (List ℕ) CfgKind
path_of word = if nat_le 1 (length word) && nat_le (length word) most_path then Ok word else Err Argument

-- the same, behind which nothing stands
unfoldable pub last_path : List (List ℕ) → Result (List ℕ) CfgKind
last_path arguments = do
  word ← argument arguments
  path ← path_of word.0
  ended ← no_more word.1
  Ok path

-- `fcgi-docroot DIR`, once
unfoldable pub docroot_line : Draft → List (List ℕ) → Result Draft CfgKind
docroot_line draft arguments =
    if is_some draft.application.root then Err Argument
    else (last_path arguments >>= λ root. Ok (record draft { application = record draft.application { root = Some root } }))

-- a line says already which file is asked
abbrev pub names_file : ApplicationLines → Bool
names_file lines = is_some lines.index || is_some lines.script

-- `fcgi-index FILE`, once, and not beside `fcgi-script`
unfoldable pub index_line : Draft → List (List ℕ) → Result Draft CfgKind
index_line draft arguments =
    if names_file draft.application then Err Argument
    else (last_path arguments >>= λ file. Ok (record draft { application = record draft.application { index = Some file } }))

-- the first byte is `/`
abbrev pub begins_with_slash : List ℕ → Bool
begins_with_slash [] = false
begins_with_slash (b ∷ bs) = b == 47

-- a path that begins so
unfoldable pub script_of : List (List ℕ) → Result (List ℕ) CfgKind
script_of arguments = last_path arguments >>= λ file. if begins_with_slash file then Ok file else Err Argument

-- `fcgi-script FILE`, once, and not beside `fcgi-index`
unfoldable pub script_line : Draft → List (List ℕ) → Result Draft CfgKind
script_line draft arguments =
    if names_file draft.application then Err Argument
    else (script_of arguments >>= λ file. Ok (record draft { application = record draft.application { script = Some file } }))
