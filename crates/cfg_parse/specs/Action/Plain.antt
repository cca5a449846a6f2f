-- Actions without formats and patterns (Configuration Manual, section 4.2).
use Rattle.std.specs.Prelude.{ℕ, List, [], ◌∷◌, Bool, true, false, ◌||◌, if◌then◌else◌, Some, None, Ok, Err, codes}
use Rattle.std.specs.Str.{bytes_eq}
use Rattle.http_rules.specs.declared.rule.action.Direction.{Direction}
use Rattle.http_rules.specs.declared.rule.action.Direction.TheVariants as directions
use Rattle.http_rules.specs.declared.rule.action.Action.{Action}
use Rattle.http_rules.specs.declared.rule.action.Action.TheVariants.{Deny, SetStatus, UnsetVar, StrictMode}
use Rattle.http_rules.specs.Rule.Valid.{is_bodiless}
use Rattle.cfg_expr.specs.Steps.{◌>>=◌}
use Rattle.cfg_parse.specs.declared.action.fault.RuleKind.TheVariants.{Argument}
use Rattle.cfg_parse.specs.Action.Faults.{Read, argument}
use Rattle.cfg_parse.specs.Action.Arguments.{Words, code_of, variable_behind}

-- an action, and the words behind it
abbrev pub Behind : Type 0
Behind = Action × Words

-- ---- deny

-- the code where none is written
abbrev pub denial_of : Direction → ℕ
denial_of directions.Request = 403
denial_of directions.Response = 502
denial_of directions.After = 502

unfoldable pub is_status : List ℕ → Bool
is_status word = bytes_eq word (codes "status") || bytes_eq word (codes "deny_status")

-- a code behind its option
unfoldable pub denied_with : Words → Read Behind
denied_with words = do
  word ← argument words
  code ← code_of 400 599 word.0
  Ok (Deny code, word.1)

unfoldable pub denied : Direction → Words → Read Behind
denied direction [] = Ok (Deny (denial_of direction), [])
denied direction (word ∷ others) =
    if is_status word then denied_with others else Ok (Deny (denial_of direction), word ∷ others)

-- ---- the status of an answer

-- a status with which a body may be sent
abbrev pub with_body : ℕ → Read ℕ
with_body status = if is_bodiless status then Err Argument else Ok status

unfoldable pub is_reason : List ℕ → Bool
is_reason word = bytes_eq word (codes "reason")

-- behind `reason`
unfoldable pub reasoned : (status : ℕ) → Words → Read Behind
reasoned status words = argument words >>= λ reason. Ok (SetStatus status (Some reason.0), reason.1)

-- what stands behind the status
abbrev pub reason_behind : (status : ℕ) → Words → Read Behind
reason_behind status [] = Ok (SetStatus status None, [])
reason_behind status (word ∷ others) =
    if is_reason word then reasoned status others else Ok (SetStatus status None, word ∷ others)

-- a status, and a reason
unfoldable pub status_set : Words → Read Behind
status_set words = do
  word ← argument words
  code ← code_of 200 999 word.0
  status ← with_body code
  reason_behind status word.1

-- ---- variables and the mode

-- the variable is in the action's own word
unfoldable pub variable_unset : (word : List ℕ) → Words → Read Behind
variable_unset word words =
    variable_behind (codes "unset-var(") word >>= λ variable. Ok (UnsetVar variable.0 variable.1, words)

-- `on` or `off`
unfoldable pub mode_of : List ℕ → Read Bool
mode_of word =
    if bytes_eq word (codes "on") then Ok true
    else (if bytes_eq word (codes "off") then Ok false
    else Err Argument)

unfoldable pub mode_set : Words → Read Behind
mode_set words = do
  word ← argument words
  on ← mode_of word.0
  Ok (StrictMode on, word.1)
