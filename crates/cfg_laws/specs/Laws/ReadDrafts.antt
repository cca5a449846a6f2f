-- What lines leave of `acl` lines, rules and pairs can be said again.
use Rattle.std.specs.Prelude.{◌≡◌, ℕ, ◌+◌, ◌≤◌, Bool, true, List, IfSome, Ok}
use Rattle.std.specs.List.{list_all, AllByRecursion}
use Rattle.http_rules.specs.Valid.{IsParam}
use Rattle.http_rules.specs.declared.rule.rule.Rule.{Rule}
use Rattle.cfg_expr.specs.declared.condition.written.AclLine.{AclLine}
use Rattle.cfg_expr.specs.declared.side.Side.{Side}
use Rattle.cfg_expr.specs.declared.side.Side.TheVariants.{Request, Response}
use Rattle.cfg_parse.specs.declared.draft.Draft.{Draft}
use Rattle.cfg_parse.specs.Draft.{start}
use Rattle.cfg_parse.specs.Limits.{most_tests}
use Rattle.cfg_parse.specs.Lines.{line_of}
use Rattle.cfg_parse.specs.Rules.{tests_of}
use Rattle.cfg_parse.specs.Whole.{lines_from}
use Rattle.cfg_laws.specs.Laws.Listing.{tests_in}
use Rattle.cfg_laws.specs.Laws.Read.{AreSpelledLines}
use Rattle.cfg_laws.specs.Laws.ReadPairs.{ArePairs, GoesOn}
use Rattle.cfg_laws.specs.Laws.ReadRules.{AreFewOfEach, is_spelled_rule}

-- `acl` lines whose tests either side can say, no more of a name than there may be
pub record CanSayLines (lines : List AclLine) : Type 0 where
  pub request : AreSpelledLines Request lines
  pub response : AreSpelledLines Response lines
  pub few : AreFewOfEach lines

abbrev pub are_spelled_rules : Side → List Rule → Bool
are_spelled_rules side rules = list_all (is_spelled_rule side) rules

-- rules that can be said, with so many tests, which are no more than there may be
pub record CanSayLists (request response after values : List Rule) (tests : ℕ) : Type 0 where
  pub on_requests : are_spelled_rules Request request ≡ true
  pub on_responses : are_spelled_rules Response response ≡ true
  pub on_all : are_spelled_rules Response after ≡ true
  pub of_pairs : are_spelled_rules Request values ≡ true
  pub counted : tests_in request + (tests_in response + (tests_in after + tests_in values)) ≡ tests
  pub most : tests ≤ most_tests

-- names that a configuration may tell, and the rules of their pairs
pub record CanSayPairs (names : List (List ℕ)) (rules : List Rule) : Type 0 where
  pub each : AllByRecursion IsParam names
  pub pairs : ArePairs names rules

-- the rule of `option forwardfor`: it has no tests, and lets those behind it run
pub record CanSayLast (rule : Rule) : Type 0 where
  pub spelled : is_spelled_rule Request rule ≡ true
  pub none : tests_of rule.cond ≡ 0
  pub goes : GoesOn rule

-- what lines so far have left of all that
pub record CanSayRules (draft : Draft) : Type 0 where
  pub lines : CanSayLines draft.acls
  pub lists : CanSayLists draft.request draft.response draft.after draft.param_rules draft.tests
  pub pairs : CanSayPairs draft.application.params draft.param_rules
  pub last : IfSome draft.forwarding CanSayLast

-- before the first line
abbrev pub StartHasRules : Type 0
StartHasRules = CanSayRules start

-- behind one more line
abbrev pub LineKeepsRules : Type 0
LineKeepsRules = (draft next : Draft) (line : List ℕ) → CanSayRules draft → (line_of draft line).gives ≡ Ok next → CanSayRules next

-- behind all lines
abbrev pub LinesKeepRules : Type 0
LinesKeepRules = (number : ℕ) (draft next : Draft) (lines : List (List ℕ)) → CanSayRules draft → (lines_from number draft lines).gives ≡ Ok next → CanSayRules next
