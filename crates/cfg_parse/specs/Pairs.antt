-- The lines of `fcgi-param`: a pair, and the rule that tells its value.
use Rattle.std.specs.Prelude.{ℕ, ◌+◌, List, [], ◌∷◌, ◌++◌, length, Bool, ◌&&◌, nat_le, nat_lt, if◌then◌else◌, Result, Ok, Err}
use Rattle.std.specs.List.{list_any}
use Rattle.std.specs.Str.{bytes_eq}
use Rattle.http_rules.specs.declared.rule.rule.Rule.{Rule}
use Rattle.cfg_expr.specs.Reading.{plain, ◌>>=◌}
use Rattle.cfg_parse.specs.declared.fault.CfgKind.{CfgKind}
use Rattle.cfg_parse.specs.declared.fault.CfgKind.TheVariants.{Limit}
use Rattle.cfg_parse.specs.declared.draft.Draft.{Draft}
use Rattle.cfg_parse.specs.Limits.{most_rules, most_tests}
use Rattle.cfg_parse.specs.Asking.{LineReading, of_rule}
use Rattle.cfg_parse.specs.Action.Params.{param_rule}
use Rattle.cfg_parse.specs.Rules.{tests_of}

-- the name is among these
abbrev pub is_among : List (List ℕ) → List ℕ → Bool
is_among names name = list_any (λ other. bytes_eq other name) names

-- these names and one more, each once
abbrev pub with_name : List (List ℕ) → List ℕ → List (List ℕ)
with_name names name = if is_among names name then names else names ++ name ∷ []

-- one more rule of a pair fits, with so many tests in all conditions
unfoldable pub has_param_room : Draft → (tests : ℕ) → Bool
has_param_room draft tests = nat_lt (length draft.application.params + length draft.param_rules) most_rules && nat_le (draft.tests + tests) most_tests

-- with one more rule of a pair, and its tests counted
abbrev pub with_param : Draft → (name : List ℕ) → Rule → Draft
with_param draft name rule =
    record draft {
      tests = draft.tests + tests_of rule.cond;
      application = record draft.application { params = with_name draft.application.params name };
      param_rules = draft.param_rules ++ rule ∷ [];
    }

-- one more rule of a pair
unfoldable pub param_added : Draft → (name : List ℕ) → Rule → Result Draft CfgKind
param_added draft name rule = if has_param_room draft (tests_of rule.cond) then Ok (with_param draft name rule) else Err Limit

-- the words behind `fcgi-param`; what there is no room for is refused last
unfoldable pub param_line : Draft → List (List ℕ) → LineReading Draft
param_line draft arguments = of_rule (param_rule draft.acls arguments) >>= λ found. plain (param_added draft found.0 found.1)
