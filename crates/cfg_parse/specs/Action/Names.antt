-- Which actions rules of a direction have (Configuration Manual, section 4.2).
use Rattle.std.specs.Prelude.{ℕ, List, [], ◌∷◌, ◌++◌, Bool, ◌||◌, nat_eq, if◌then◌else◌, Option, Some, None, Ok, Err, codes}
use Rattle.std.specs.List.{starts_with}
use Rattle.std.specs.Str.{bytes_eq}
use Rattle.http_rules.specs.declared.rule.action.ActionName.{ActionName}
use Rattle.http_rules.specs.declared.rule.action.ActionName.TheVariants as names
use Rattle.http_rules.specs.declared.rule.action.Direction.{Direction}
use Rattle.http_rules.specs.declared.rule.action.Direction.TheVariants as directions
use Rattle.http_rules.specs.Rule.Actions.{stands_in}
use Rattle.cfg_expr.specs.declared.side.Side.{Side}
use Rattle.cfg_expr.specs.declared.side.Side.TheVariants as sides
use Rattle.cfg_parse.specs.declared.action.fault.RuleKind.TheVariants.{Keyword}
use Rattle.cfg_parse.specs.Action.Faults.{Read}

-- rules of this direction may have it
abbrev pub placed : Direction → Option ActionName → Read ActionName
placed direction None = Err Keyword
placed direction (Some name) = if stands_in direction name then Ok name else Err Keyword

-- the side whose fetches the rules of a direction have
abbrev pub side_of : Direction → Side
side_of directions.Request = sides.Request
side_of directions.Response = sides.Response
side_of directions.After = sides.Response
