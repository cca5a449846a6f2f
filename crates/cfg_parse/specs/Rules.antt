-- The lines of `acl`, `http-request`, `http-response` and `http-after-response`.
use Rattle.std.specs.Prelude.{ℕ, ◌+◌, ◌++◌, List, [], ◌∷◌, length, Bool, ◌&&◌, nat_le, nat_lt, if◌then◌else◌, Option, Some, None, Result, Ok, Err, codes}
use Rattle.std.specs.Str.{bytes_eq}
use Rattle.acl_eval.specs.declared.condition.Cond.{Cond}
use Rattle.http_rules.specs.declared.rule.action.Direction.{Direction}
use Rattle.http_rules.specs.declared.rule.action.Direction.TheVariants.{Request, Response, After}
use Rattle.http_rules.specs.declared.rule.rule.Rule.{Rule}
use Rattle.cfg_expr.specs.Condition.Conditions.{acl_line, test_count}
use Rattle.cfg_parse.specs.Action.Rules.{rule_of}
use Rattle.cfg_parse.specs.Action.Forwarding.{forwarding_rule}
use Rattle.cfg_parse.specs.Reading.{argument}
use Rattle.cfg_parse.specs.Settings.{has_effect}
use Rattle.cfg_expr.specs.Reading.{Reading, plain, ◌>>=◌}
use Rattle.cfg_parse.specs.declared.fault.CfgKind.{CfgKind}
use Rattle.cfg_parse.specs.declared.fault.CfgKind.TheVariants.{Argument, Limit}
use Rattle.cfg_parse.specs.declared.draft.Draft.{Draft}
use Rattle.cfg_parse.specs.Limits.{most_rules, most_tests}
use Rattle.cfg_parse.specs.Asking.{LineReading, of_text, of_rule}

-- how many tests a rule's condition has
abbrev pub tests_of : Option Cond → ℕ
tests_of None = 0
tests_of (Some cond) = test_count cond

-- the rules of a direction so far
abbrev pub rules_in : Draft → Direction → List Rule
rules_in draft Request = draft.request
rules_in draft Response = draft.response
rules_in draft After = draft.after

-- with one more rule behind them, and its tests counted
abbrev pub with_rule : Draft → Direction → Rule → Draft
with_rule draft Request rule = record draft { tests = draft.tests + tests_of rule.cond; request = draft.request ++ rule ∷ [] }
with_rule draft Response rule = record draft { tests = draft.tests + tests_of rule.cond; response = draft.response ++ rule ∷ [] }
with_rule draft After rule = record draft { tests = draft.tests + tests_of rule.cond; after = draft.after ++ rule ∷ [] }

-- one more rule of a direction fits: of at most so many, with so many tests in all conditions
unfoldable pub has_room : Draft → Direction → (tests : ℕ) → Bool
has_room draft direction tests = nat_lt (length (rules_in draft direction)) most_rules && nat_le (draft.tests + tests) most_tests

-- one more rule of a direction
unfoldable pub rule_added : Draft → Direction → Rule → Result Draft CfgKind
rule_added draft direction rule =
    if has_room draft direction (tests_of rule.cond) then Ok (with_rule draft direction rule) else Err Limit

-- the words behind `http-request` and its like; what there is no room for is refused last
unfoldable pub rule_line : Draft → Direction → List (List ℕ) → LineReading Draft
rule_line draft direction arguments =
    of_rule (rule_of direction draft.acls arguments) >>= λ rule. plain (rule_added draft direction rule)

-- the rule of `option forwardfor` in its place; a line without effect changes nothing
abbrev pub with_forwarding : Draft → Rule → Draft
with_forwarding draft rule = if has_effect draft then record draft { forwarding = Some rule } else draft

-- the words behind `option`: `forwardfor` alone is known, and a later line replaces the earlier one
unfoldable pub forwarding_line : Draft → List (List ℕ) → LineReading Draft
forwarding_line draft arguments = of_rule (forwarding_rule arguments) >>= λ rule. plain (Ok (with_forwarding draft rule))

abbrev pub option_by : Draft → Result (List ℕ × List (List ℕ)) CfgKind → LineReading Draft
option_by draft (Err kind) = plain (Err kind)
option_by draft (Ok word) = if bytes_eq word.0 (codes "forwardfor") then forwarding_line draft word.1 else plain (Err Argument)

unfoldable pub option_line : Draft → List (List ℕ) → LineReading Draft
option_line draft arguments = option_by draft (argument arguments)

-- the words behind `acl`
unfoldable pub acl_setting : Draft → List (List ℕ) → LineReading Draft
acl_setting draft arguments = of_text (acl_line draft.acls arguments) >>= λ lines. plain (Ok (record draft { acls = lines }))
