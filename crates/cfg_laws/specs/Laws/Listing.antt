-- Lists of lines of a canonical text: a table, rules and pairs, and what is read of them.
use Rattle.std.specs.Prelude.{◌≡◌, ℕ, ◌+◌, ◌≤◌, true, List, [], ◌∷◌, ◌++◌, length, IfSome, codes}
use Rattle.std.specs.List.{list_all, AllByRecursion}
use Rattle.acl_eval.specs.declared.condition.Term.{Term}
use Rattle.http_rules.specs.Valid.{IsParam}
use Rattle.http_rules.specs.declared.rule.action.Action.{Action}
use Rattle.http_rules.specs.declared.rule.action.Action.TheVariants as actions
use Rattle.http_rules.specs.declared.rule.action.Direction.{Direction}
use Rattle.http_rules.specs.declared.rule.action.Direction.TheVariants.{Request, Response, After}
use Rattle.http_rules.specs.declared.rule.rule.Rule.{Rule}
use Rattle.http_rules.specs.Rule.Valid.{IsGoodRule}
use Rattle.cfg_expr.specs.Condition.Lines.{most_lines}
use Rattle.cfg_parse.specs.declared.draft.Draft.{Draft}
use Rattle.cfg_parse.specs.declared.draft.Section.TheVariants as sections
use Rattle.cfg_parse.specs.Action.Names.{side_of}
use Rattle.cfg_parse.specs.Limits.{most_rules, most_tests}
use Rattle.cfg_parse.specs.Pairs.{with_name}
use Rattle.cfg_parse.specs.Rules.{tests_of, rules_in}
use Rattle.cfg_print.specs.Pairs.{is_set, name_in, pairs_text}
use Rattle.cfg_print.specs.Rules.{rules_text}
use Rattle.cfg_print.specs.Table.{terms_of, terms_in, keys_from, table_text, count_lines}
use Rattle.cfg_laws.specs.SpelledActions.{is_spelled_action}
use Rattle.cfg_laws.specs.Laws.Conditions.{are_groups}
use Rattle.cfg_laws.specs.Laws.Reading.{Comes}
use Rattle.cfg_laws.specs.Laws.Table.{declared, are_spelled_terms, is_term_on}

-- ---- a table

-- the lines of a table, in front of those of rules
abbrev pub TableLinesRead : Type 0
TableLinesRead = (draft : Draft) (terms : List Term) → draft.section ≡ sections.Listen → draft.acls ≡ [] → are_spelled_terms terms ≡ true → count_lines [] terms ≤ most_lines
    → Comes draft (table_text [] terms) (record draft { acls = declared [] terms })

-- ---- below a table

-- the table of these terms was read, of which those in front of the others and those behind them are of other rules
pub record IsBelow (all before terms behind : List Term) (draft : Draft) : Type 0 where
  pub are : all ≡ before ++ (terms ++ behind)
  pub spelled : are_spelled_terms all ≡ true
  pub few : count_lines [] all ≤ most_lines
  pub listen : draft.section ≡ sections.Listen
  pub acls : draft.acls ≡ declared [] all

-- ---- rules

-- a rule of a configuration that lines can say, where the table has the tests of its condition
pub record IsSpelledRule (direction : Direction) (rule : Rule) : Type 0 where
  pub good : IsGoodRule direction rule
  pub spelled : is_spelled_action (side_of direction) rule.action ≡ true
  pub groups : IfSome rule.cond (λ cond. are_groups cond.groups ≡ true)
  pub on : list_all (is_term_on (side_of direction)) (terms_of rule.cond) ≡ true

-- the first word of a direction's rules
abbrev pub list_of : Direction → List ℕ
list_of Request = codes "http-request"
list_of Response = codes "http-response"
list_of After = codes "http-after-response"

-- how many tests the conditions of rules have
abbrev pub tests_in : List Rule → ℕ
tests_in [] = 0
tests_in (rule ∷ rules) = tests_of rule.cond + tests_in rules

-- with these rules behind those of a direction, and their tests counted
abbrev pub with_rules : Draft → Direction → List Rule → Draft
with_rules draft Request rules = record draft { tests = draft.tests + tests_in rules; request = draft.request ++ rules }
with_rules draft Response rules = record draft { tests = draft.tests + tests_in rules; response = draft.response ++ rules }
with_rules draft After rules = record draft { tests = draft.tests + tests_in rules; after = draft.after ++ rules }

-- The lines of rules, behind those of the table with their terms, where there is room for all.
abbrev pub RuleLinesRead : Type 0
RuleLinesRead = (direction : Direction) (draft : Draft) (rules : List Rule) (all before behind : List Term) → IsBelow all before (terms_in rules) behind draft
    → AllByRecursion (IsSpelledRule direction) rules → length (rules_in draft direction) + length rules ≤ most_rules → draft.tests + tests_in rules ≤ most_tests
    → Comes draft (rules_text (keys_from [] all) (list_of direction) rules) (with_rules draft direction rules)

-- ---- pairs

-- the name of the pair that a rule tells
abbrev pub name_told : (names : List (List ℕ)) → Action → List ℕ
name_told names (actions.SetHeader field fmt) = name_in names field
name_told names _ = []

-- the names that rules tell, each once, in the order of their first lines, behind those so far
unfoldable pub names_told : (names so_far : List (List ℕ)) → List Rule → List (List ℕ)
names_told names so_far [] = so_far
names_told names so_far (rule ∷ rules) = names_told names (with_name so_far (name_told names rule.action)) rules

-- with these rules of pairs behind those so far, their names told and their tests counted
abbrev pub with_pairs : Draft → (names : List (List ℕ)) → List Rule → Draft
with_pairs draft names rules =
    record draft {
      tests = draft.tests + tests_in rules;
      application = record draft.application { params = names_told names draft.application.params rules };
      param_rules = draft.param_rules ++ rules;
    }

-- The lines of pairs, behind those of the table with the terms of their rules, where there is room for all.
abbrev pub PairLinesRead : Type 0
PairLinesRead = (draft : Draft) (names : List (List ℕ)) (rules : List Rule) (all before behind : List Term) → IsBelow all before (terms_in rules) behind draft
    → AllByRecursion IsParam names → AllByRecursion (IsSpelledRule Request) rules → list_all (is_set names) rules ≡ true
    → length (names_told names draft.application.params rules) + (length draft.param_rules + length rules) ≤ most_rules → draft.tests + tests_in rules ≤ most_tests
    → Comes draft (pairs_text (keys_from [] all) names rules) (with_pairs draft names rules)
