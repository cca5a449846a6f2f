-- Fields of a name in turn, each with its own step.
use Rattle.std.specs.Prelude.{◌≡◌, ℕ, List, map, drop, Bool, false, Option, Some, None, Ok, if◌then◌else◌}
use Rattle.std.specs.List.{slice_get}
use Rattle.http_model.specs.Block.{Block}
use Rattle.http_model.specs.Head.{Field}
use Rattle.http_model.specs.Fields.{is_named}
use Rattle.px_pattern.specs.Pattern.{Pattern}
use Rattle.px_sample.specs.Variables.{Variables}
use Rattle.log_format.specs.declared.fmt.Fmt.{Fmt}
use Rattle.http_rules.specs.declared.action.extent.Extent.{Extent}
use Rattle.http_rules.specs.declared.action.side.Side.{Side}
use Rattle.http_rules.specs.Action.Given.{Env}
use Rattle.http_rules.specs.Action.Edits.{Step}
use Rattle.http_rules.specs.Action.Replacing.{places, replace_in}
use Rattle.http_rules.specs.Action.Acts.{Act, run_steps}
use Rattle.http_rules.specs.Action.Outcome.{IsAt}

-- there is a field, and it has the name
abbrev pub has_name : List ℕ → Option Field → Bool
has_name name None = false
has_name name (Some field) = is_named name field

-- the step of the field at a place, where it has the name
abbrev pub named_step : (name : List ℕ) → Extent → (size : ℕ) → Pattern → Fmt → ℕ → Step
named_step name extent size pat fmt place env =
    if has_name name (slice_get env.head.fields place) then replace_in extent size pat fmt place env else Ok env

-- what comes of the fields from a place on
abbrev pub run_from : Extent → (size : ℕ) → (name : List ℕ) → Pattern → Fmt → ℕ → Env → Act
run_from extent size name pat fmt place env = run_steps (map (replace_in extent size pat fmt) (places name (drop place env.head.fields) place)) env

-- the fields in front of a place had their turn: what comes of all is what comes of the others, on the environment that is held
pub record HadTurns (side : Side) (all : Act) (extent : Extent) (size : ℕ) (name : List ℕ) (pat : Pattern) (fmt : Fmt) (place : ℕ) (blocks : List Block) (vars : Variables) : Type 0 where
  pub now : Env
  pub at : IsAt side now blocks vars
  pub left : all ≡ run_from extent size name pat fmt place now
