-- A rule: an action, and a condition or none.
use Rattle.std.specs.Prelude.{ℕ, List, Option, Ok}
use Rattle.acl_eval.specs.declared.condition.Cond.{Cond}
use Rattle.http_rules.specs.declared.rule.action.Direction.{Direction}
use Rattle.http_rules.specs.declared.rule.rule.Rule.{Rule}
use Rattle.cfg_expr.specs.declared.condition.written.AclLine.{AclLine}
use Rattle.cfg_expr.specs.Condition.Conditions.{rule_end}
use Rattle.cfg_expr.specs.Reading.{Reading, plain, ◌>>=◌}
use Rattle.cfg_parse.specs.declared.action.parts.ActionParts.{ActionParts}
use Rattle.cfg_parse.specs.Action.Faults.{RuleReading, of_text, argument}
use Rattle.http_rules.specs.Rule.Actions.{action_named}
use Rattle.cfg_parse.specs.Action.Names.{placed, side_of}
use Rattle.cfg_parse.specs.Action.Arguments.{Words}
use Rattle.cfg_parse.specs.Action.Actions.{action_parts, made_of}

-- the rule of what is known of its action, in which nothing may lack, and of its condition
abbrev pub rule_made : ActionParts → Option Cond → RuleReading Rule
rule_made parts cond = plain (made_of parts) >>= λ action. plain (Ok (record { action = action; cond = cond }))

-- The rule that the words behind `http-request` and its like say, in a direction and below these `acl` lines: its action, the
-- action's arguments, its condition; and last what still lacks of the action.
unfoldable pub rule_of : Direction → List AclLine → Words → RuleReading Rule
rule_of direction lines words = do
  word ← plain (argument words)
  name ← plain (placed direction (action_named word.0))
  parts ← action_parts direction name word.0 word.1
  cond ← of_text (rule_end (side_of direction) lines parts.1)
  rule_made parts.0 cond
