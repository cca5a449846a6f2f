-- The place of the rules of pairs in a configuration that lines made, and the order of their names.
use Rattle.std.specs.Prelude.{◌≡◌, ℕ, true, false, List, [], ◌∷◌, ◌++◌, Option, Some, None, IfSome, Ok}
use Rattle.std.specs.List.{list_all}
use Rattle.http_rules.specs.declared.config.Config.{Config}
use Rattle.http_rules.specs.declared.rule.rule.Rule.{Rule}
use Rattle.cfg_parse.specs.declared.draft.Draft.{Draft}
use Rattle.cfg_parse.specs.Whole.{ends_rules, whole}
use Rattle.cfg_parse.specs.Whole.{pair_rules as made_rules}
use Rattle.cfg_print.specs.Pairs.{is_set}
use Rattle.cfg_print.specs.Printed.{plain_rules, pair_rules}
use Rattle.cfg_laws.specs.SpelledPairs.{names_of, are_spelled_pairs}
use Rattle.cfg_laws.specs.Laws.Listing.{names_told}

-- the rules of pairs set fields of these names, which stand in the order of the first rule of each
pub record ArePairs (names : List (List ℕ)) (rules : List Rule) : Type 0 where
  pub sets : list_all (is_set names) rules ≡ true
  pub told : names_told names [] rules ≡ names

-- the rule of `option forwardfor`, where there is one
abbrev pub last_rule : Option Rule → List Rule
last_rule None = []
last_rule (Some rule) = rule ∷ []

-- a rule that lets those behind it run
abbrev pub GoesOn : Rule → Type 0
GoesOn rule = ends_rules rule ≡ false

-- The rules of a configuration are those of the lines that made it: on requests, the rule of `option forwardfor` behind the others, and those of pairs behind both.
pub record HasRules (draft : Draft) (config : Config) : Type 0 where
  pub request : config.request ≡ (draft.request ++ last_rule draft.forwarding) ++ made_rules draft.application.params draft.param_rules
  pub response : config.response ≡ draft.response
  pub after : config.after ≡ draft.after
  pub names : names_of config ≡ draft.application.params
  pub plain : plain_rules config ≡ draft.request ++ last_rule draft.forwarding
  pub values : pair_rules config ≡ draft.param_rules
  pub pairs : are_spelled_pairs config ≡ true
  pub told : names_told (names_of config) [] (pair_rules config) ≡ names_of config

-- what all lines come to
abbrev pub PairsStandBehind : Type 0
PairsStandBehind = (draft : Draft) (config : Config) → ArePairs draft.application.params draft.param_rules → IfSome draft.forwarding GoesOn → whole draft ≡ Ok config → HasRules draft config
