-- Rules that are read from any words can be said again.
use Rattle.std.specs.Prelude.{◌≡◌, ℕ, ◌≤◌, Bool, true, ◌&&◌, List, count_by, Option, Some, None, is_none, Ok}
use Rattle.std.specs.List.{list_all}
use Rattle.log_format.specs.declared.fmt.Fmt.{Fmt}
use Rattle.acl_eval.specs.declared.condition.Term.{Term}
use Rattle.acl_eval.specs.declared.condition.Cond.{Cond}
use Rattle.http_rules.specs.declared.rule.action.ActionName.{ActionName}
use Rattle.http_rules.specs.declared.rule.action.Direction.{Direction}
use Rattle.http_rules.specs.declared.rule.action.Action.{Action}
use Rattle.http_rules.specs.declared.rule.rule.Rule.{Rule}
use Rattle.http_rules.specs.Valid.{IsParam}
use Rattle.cfg_expr.specs.declared.side.Side.{Side}
use Rattle.cfg_expr.specs.declared.side.Side.TheVariants.{Request}
use Rattle.cfg_expr.specs.declared.condition.written.AclLine.{AclLine}
use Rattle.cfg_expr.specs.Condition.Lines.{is_named, most_lines_of_a_name}
use Rattle.cfg_expr.specs.Condition.Conditions.{acl_line, rule_end}
use Rattle.cfg_parse.specs.declared.action.parts.ActionParts.{ActionParts}
use Rattle.cfg_parse.specs.Action.Names.{side_of}
use Rattle.cfg_parse.specs.Action.Arguments.{Words}
use Rattle.cfg_parse.specs.Action.Actions.{action_parts, made_of}
use Rattle.cfg_parse.specs.Action.Rules.{rule_of}
use Rattle.cfg_parse.specs.Action.Params.{param_set, param_rule}
use Rattle.cfg_parse.specs.Action.Forwarding.{forwarding_rule}
use Rattle.cfg_print.specs.Table.{terms_of}
use Rattle.cfg_laws.specs.Spelled.{is_spelled_format}
use Rattle.cfg_laws.specs.SpelledActions.{is_spelled_action}
use Rattle.cfg_laws.specs.Laws.Conditions.{are_groups}
use Rattle.cfg_laws.specs.Laws.Table.{are_spelled_terms, is_term_on}
use Rattle.cfg_laws.specs.Laws.Read.{AreSpelledLines}

-- ---- actions

-- an action, in a direction
abbrev pub ActionsAreSpelled : Type 0
ActionsAreSpelled = (direction : Direction) (name : ActionName) (word : List ℕ) (words : Words) (parts : ActionParts) (rest : Words) (action : Action)
    → (action_parts direction name word words).gives ≡ Ok (parts, rest) → made_of parts ≡ Ok action → is_spelled_action (side_of direction) action ≡ true

-- ---- lines

-- no name has more lines than a name may have
abbrev pub AreFewOfEach : List AclLine → Type 0
AreFewOfEach lines = (name : List ℕ) → count_by (is_named name) lines ≤ most_lines_of_a_name

-- the lines with one more that was read
abbrev pub LinesAreFew : Type 0
LinesAreFew = (lines more : List AclLine) (words : List (List ℕ)) → AreFewOfEach lines → (acl_line lines words).gives ≡ Ok more → AreFewOfEach more

-- ---- rules

-- each term of a condition can be said, in this direction
abbrev pub are_terms_on : Side → List Term → Bool
are_terms_on side terms = are_spelled_terms terms && list_all (is_term_on side) terms

-- there is no condition, or it has groups with terms
abbrev pub has_groups : Option Cond → Bool
has_groups None = true
has_groups (Some cond) = are_groups cond.groups

-- a condition that can be said, if there is one
abbrev pub is_spelled_end : Side → Option Cond → Bool
is_spelled_end side cond = has_groups cond && are_terms_on side (terms_of cond)

-- a rule whose action and condition can be said
abbrev pub is_spelled_rule : Side → Rule → Bool
is_spelled_rule side rule = is_spelled_action side rule.action && is_spelled_end side rule.cond

-- a condition that ends a rule, below lines that were read; its terms have as many tests as a name may have
abbrev pub EndsAreSpelled : Type 0
EndsAreSpelled = (side : Side) (lines : List AclLine) (words : List (List ℕ)) (cond : Option Cond) → AreSpelledLines side lines → AreFewOfEach lines
    → (rule_end side lines words).gives ≡ Ok cond → is_spelled_end side cond ≡ true

-- a rule, below lines that were read
abbrev pub RulesAreSpelled : Type 0
RulesAreSpelled = (direction : Direction) (lines : List AclLine) (words : Words) (rule : Rule) → AreSpelledLines (side_of direction) lines → AreFewOfEach lines
    → (rule_of direction lines words).gives ≡ Ok rule → is_spelled_rule (side_of direction) rule ≡ true

-- ---- pairs

-- the rule of a pair: a field of its name, made of a text that can be said, under a condition that can be said
pub record IsSpelledPair (name : List ℕ) (rule : Rule) : Type 0 where
  pub named : IsParam name
  pub fmt : Fmt
  pub made : rule ≡ param_set name fmt rule.cond
  pub text : is_spelled_format Request fmt ≡ true
  pub end : is_spelled_end Request rule.cond ≡ true

-- a pair and its rule, below lines that were read
abbrev pub PairsAreSpelled : Type 0
PairsAreSpelled = (lines : List AclLine) (words : Words) (name : List ℕ) (rule : Rule) → AreSpelledLines Request lines → AreFewOfEach lines
    → (param_rule lines words).gives ≡ Ok (name, rule) → IsSpelledPair name rule

-- ---- `option forwardfor`

-- an action that can be said, without a condition
abbrev pub is_spelled_forwarding : Rule → Bool
is_spelled_forwarding rule = is_spelled_action Request rule.action && is_none rule.cond

abbrev pub ForwardingIsSpelled : Type 0
ForwardingIsSpelled = (words : Words) (rule : Rule) → (forwarding_rule words).gives ≡ Ok rule → is_spelled_forwarding rule ≡ true
