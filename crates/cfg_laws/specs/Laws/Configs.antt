-- Configurations that a text can say, and what is read of their canonical text.
use Rattle.std.specs.Prelude.{◌≡◌, ◌+◌, ◌≤◌, true, [], None, Ok}
use Rattle.std.specs.List.{AllByRecursion}
use Rattle.http_rules.specs.Valid.{IsValid}
use Rattle.http_rules.specs.declared.config.Config.{Config}
use Rattle.http_rules.specs.declared.rule.action.Direction.TheVariants.{Request, Response, After}
use Rattle.cfg_parse.specs.Limits.{most_tests}
use Rattle.cfg_parse.specs.Whole.{config_of}
use Rattle.cfg_print.specs.Fits.{fits}
use Rattle.cfg_print.specs.Printed.{plain_rules, pair_rules, all_terms, config_text}
use Rattle.cfg_laws.specs.SpelledPairs.{names_of, are_spelled_pairs}
use Rattle.cfg_laws.specs.SpelledSettings.{are_spelled_settings, are_spelled_filters}
use Rattle.cfg_laws.specs.Laws.Listing.{IsSpelledRule, tests_in, names_told}
use Rattle.cfg_laws.specs.Laws.Table.{are_spelled_terms}

-- A configuration that a text can say: it is valid, and each part of it can be said. The conditions whose lines are written have no more tests than there
-- may be, the names of its pairs stand in the order in which rules tell them, and no peer is told.
pub record IsSpelledConfig (config : Config) : Type 0 where
  pub valid : IsValid config
  pub settings : are_spelled_settings config ≡ true
  pub req_filters : are_spelled_filters config.req_filters ≡ true
  pub res_filters : are_spelled_filters config.res_filters ≡ true
  pub request : AllByRecursion (IsSpelledRule Request) config.request
  pub response : AllByRecursion (IsSpelledRule Response) config.response
  pub after : AllByRecursion (IsSpelledRule After) config.after
  pub terms : are_spelled_terms (all_terms config) ≡ true
  pub tests : tests_in (plain_rules config) + (tests_in config.response + (tests_in config.after + tests_in (pair_rules config))) ≤ most_tests
  pub pairs : are_spelled_pairs config ≡ true
  pub names : names_told (names_of config) [] (pair_rules config) ≡ names_of config
  pub alone : config.peer ≡ None

-- Its canonical text loads to the same configuration, where that fits the limits of a text and each of its patterns is built.
abbrev pub ConfigsReadBack : Type 0
ConfigsReadBack = (config : Config) → IsSpelledConfig config → fits config ≡ true → config_of (config_text config) None ≡ Ok config
