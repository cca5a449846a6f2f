-- The configuration of any text can be said.
use Rattle.std.proofs.Common.{◌≡◌, ℕ, ◌+◌, Bool, true, false, cond, List, [], ◌∷◌, ◌++◌, length, map, Result, Ok, Err, refl, sym, ap, ◌∙◌, subst, arith}
use Rattle.std.proofs.lemmas.Bool.{and_from, and_parts}
use Rattle.std.proofs.lemmas.List.Folds.{list_all-append}
use Rattle.std.specs.Prelude.{nat_lt, Option, Some, None, slice_get, IfSome}
use Rattle.std.specs.List.{list_all, AllByRecursion}
use Rattle.std.specs.Str.Lines.{lines}
use Rattle.px_pattern.specs.Pattern.{Pattern}
use Rattle.acl_eval.specs.declared.condition.Term.{Term}
use Rattle.acl_eval.specs.declared.condition.Cond.{Cond}
use Rattle.http_rules.specs.Valid.{IsValid}
use Rattle.http_rules.specs.Rule.Valid.{IsGoodRule}
use Rattle.http_rules.specs.declared.config.Config.{Config}
use Rattle.http_rules.specs.declared.rule.action.Direction.{Direction}
use Rattle.http_rules.specs.declared.rule.action.Direction.TheVariants as directions
use Rattle.http_rules.specs.declared.rule.rule.Rule.{Rule}
use Rattle.cfg_expr.specs.declared.side.Side.{Side}
use Rattle.cfg_expr.specs.declared.side.Side.TheVariants.{Request, Response}
use Rattle.cfg_parse.specs.Action.Names.{side_of}
use Rattle.cfg_parse.specs.declared.draft.Draft.{Draft}
use Rattle.cfg_parse.specs.declared.fault.CfgKind.{CfgKind}
use Rattle.cfg_parse.specs.declared.fault.CfgKind.TheVariants.{Limit}
use Rattle.cfg_parse.specs.Draft.{start}
use Rattle.cfg_parse.specs.Limits.{most_text}
use Rattle.cfg_parse.specs.Whole.{Refusal, param_removal, whole, lines_from, of_text, after_lines, of_lines, Placed, read_whole, refused_at, decided, config_of}
use Rattle.cfg_parse.specs.Whole.{pair_rules as made_rules}
use Rattle.cfg_print.specs.Fits.{fits}
use Rattle.cfg_print.specs.Printed.{plain_rules, pair_rules, all_terms, config_text}
use Rattle.cfg_print.specs.Table.{terms_of, terms_in}
use Rattle.cfg_laws.specs.SpelledActions.{is_spelled_action}
use Rattle.cfg_laws.specs.Laws.Conditions.{are_groups}
use Rattle.cfg_laws.specs.Laws.Configs.{IsSpelledConfig}
use Rattle.cfg_laws.specs.Laws.Listing.{IsSpelledRule, tests_in}
use Rattle.cfg_laws.specs.Laws.Table.{is_spelled_term, are_spelled_terms, is_term_on}
use Rattle.cfg_laws.specs.Laws.ReadDrafts.{are_spelled_rules, CanSayLast, CanSayRules}
use Rattle.cfg_laws.specs.Laws.ReadPairs.{last_rule, GoesOn}
use Rattle.cfg_laws.specs.Laws.ReadRules.{are_terms_on, has_groups, is_spelled_end, is_spelled_rule}
use Rattle.cfg_laws.proofs.LawLemmas.Configs.{config_back}
use Rattle.cfg_laws.proofs.LawLemmas.Words.{both_left, both_right}
use Rattle.cfg_laws.proofs.ReadLemmas.PairPlaces.{pairs_stand}
use Rattle.cfg_laws.proofs.ReadLemmas.RuleLines.{start_keeps, lines_left}
use Rattle.cfg_laws.proofs.ReadLemmas.SettingWholes.{texts_spelled}
use Rattle.cfg_laws.proofs.ReadLemmas.Steps.{GivesSo, so_given}

-- ---- which lines made it

-- lines made the configuration, and what they left can be said
record IsMade (config : Config) : Type 0 where
  pub draft : Draft
  pub rules : CanSayRules draft
  pub whole : whole draft ≡ Ok config

in_text : (draft : Draft) (told : Result Config CfgKind) → whole draft ≡ told → CanSayRules draft → GivesSo IsMade (of_text told)
in_text draft (Ok config) is c = record { draft = draft; rules = c; whole = is }
in_text draft (Err kind) is c = tt

behind_lines : (told : Result Draft Refusal) → GivesSo CanSayRules told → GivesSo IsMade (after_lines told)
behind_lines (Ok draft) h = in_text draft (whole draft) refl h
behind_lines (Err refusal) h = tt

text_made : (text : List ℕ) → GivesSo IsMade (read_whole text).gives
unfolding read_whole
text_made text = by (nat_lt most_text (length text))
  where
    by : (t : Bool) → GivesSo IsMade (cond t (record { asks = []; gives = Err (0, Limit) }) (of_lines (lines_from 1 start (lines text)))).gives
    by true = tt
    by false = behind_lines (lines_from 1 start (lines text)).gives (lines_left 1 start (lines text) start_keeps)

-- what was loaded is what the text gives where each pattern is built
by_pattern : (read : Placed Config) (found : Option (ℕ × Pattern)) (config : Config) → refused_at read found ≡ Ok config → read.gives ≡ Ok config
by_pattern read None config is = is
by_pattern read (Some (number, p)) config is = absurd (refused is)
  where
    is_ok : Result Config Refusal → Type 0
    is_ok (Ok one) = Unit {0}
    is_ok (Err refusal) = ⊥

    refused : {refusal : Refusal} → Err refusal ≡ Ok config → ⊥
    refused e = subst is_ok (sym e) tt

by_number : (read : Placed Config) (r : Option ℕ) (config : Config) → decided read r ≡ Ok config → read.gives ≡ Ok config
by_number read None config is = is
by_number read (Some number) config is = by_pattern read (slice_get read.asks number) config is

loaded_gives : (text : List ℕ) (r : Option ℕ) (config : Config) → config_of text r ≡ Ok config → (read_whole text).gives ≡ Ok config
unfolding config_of
loaded_gives text r config is = by_number (read_whole text) r config is

-- ---- rules

groups_said : (when : Option Cond) → has_groups when ≡ true → IfSome when (λ one. are_groups one.groups ≡ true)
groups_said None h = tt
groups_said (Some when) h = h

rule_said : (direction : Direction) (rule : Rule) → IsGoodRule direction rule → is_spelled_rule (side_of direction) rule ≡ true → IsSpelledRule direction rule
rule_said direction rule good h =
    let side = side_of direction in
    let terms = terms_of rule.cond in
    let parts = and_parts (is_spelled_action side rule.action) (is_spelled_end side rule.cond) h in
    let end = and_parts (has_groups rule.cond) (are_terms_on side terms) parts.1 in
    let on = and_parts (are_spelled_terms terms) (list_all (is_term_on side) terms) end.1 in
    record { good = good; spelled = parts.0; groups = groups_said rule.cond end.0; on = on.1 }

rules_said : (direction : Direction) (rules : List Rule) → AllByRecursion (IsGoodRule direction) rules → are_spelled_rules (side_of direction) rules ≡ true → AllByRecursion (IsSpelledRule direction) rules
rules_said direction [] good h = tt
rules_said direction (rule ∷ rules) good h =
    let side = side_of direction in
    (rule_said direction rule good.0 (both_left (is_spelled_rule side rule) (are_spelled_rules side rules) h), rules_said direction rules good.1 (both_right (is_spelled_rule side rule) (are_spelled_rules side rules) h))

-- the terms of rules
terms_said : (side : Side) (rules : List Rule) → are_spelled_rules side rules ≡ true → are_spelled_terms (terms_in rules) ≡ true
terms_said side [] h = refl
terms_said side (rule ∷ rules) h =
    let terms = terms_of rule.cond in
    let own = and_parts (is_spelled_rule side rule) (are_spelled_rules side rules) h in
    let parts = and_parts (is_spelled_action side rule.action) (is_spelled_end side rule.cond) own.0 in
    let end = and_parts (has_groups rule.cond) (are_terms_on side terms) parts.1 in
    let said = both_left (are_spelled_terms terms) (list_all (is_term_on side) terms) end.1 in
    list_all-append is_spelled_term terms (terms_in rules) ∙ and_from (are_spelled_terms terms) (are_spelled_terms (terms_in rules)) said (terms_said side rules own.1)

both_said : (side : Side) (front behind : List Rule) → are_spelled_rules side front ≡ true → are_spelled_rules side behind ≡ true → are_spelled_rules side (front ++ behind) ≡ true
both_said side front behind h i = list_all-append (is_spelled_rule side) front behind ∙ and_from (are_spelled_rules side front) (are_spelled_rules side behind) h i

last_said : (last : Option Rule) → IfSome last CanSayLast → are_spelled_rules Request (last_rule last) ≡ true
last_said None h = refl
last_said (Some rule) h = and_from (is_spelled_rule Request rule) true h.spelled refl

removals_said : (names : List (List ℕ)) → are_spelled_rules Request (map param_removal names) ≡ true
unfolding is_spelled_action
removals_said [] = refl
removals_said (name ∷ names) = removals_said names

-- ---- tests

tests_joined : (front behind : List Rule) → tests_in (front ++ behind) ≡ tests_in front + tests_in behind
tests_joined [] behind = omega arith
tests_joined (rule ∷ front) behind = let more = tests_joined front behind in omega (arith, more)

tests_of_last : (last : Option Rule) → IfSome last CanSayLast → tests_in (last_rule last) ≡ 0
tests_of_last None h = refl
tests_of_last (Some rule) h = let none = h.none in omega (arith, none)

last_goes : (last : Option Rule) → IfSome last CanSayLast → IfSome last GoesOn
last_goes None h = tt
last_goes (Some rule) h = h.goes

-- ---- the whole

-- the four lists of terms
four_said : (p q r s : List Term) → are_spelled_terms p ≡ true → are_spelled_terms q ≡ true → are_spelled_terms r ≡ true → are_spelled_terms s ≡ true → are_spelled_terms (p ++ q ++ r ++ s) ≡ true
four_said p q r s h i j k =
    list_all-append is_spelled_term (p ++ q ++ r) s ∙ and_from (are_spelled_terms (p ++ q ++ r)) (are_spelled_terms s)
    (list_all-append is_spelled_term (p ++ q) r ∙ and_from (are_spelled_terms (p ++ q)) (are_spelled_terms r) (list_all-append is_spelled_term p q ∙ and_from (are_spelled_terms p) (are_spelled_terms q) h i) j) k

spelled_of : (text : List ℕ) (config : Config) → (read_whole text).gives ≡ Ok config → IsMade config → IsValid config → IsSpelledConfig config
unfolding all_terms
spelled_of text config is made valid =
    let draft = made.draft in
    let c = made.rules in
    let own = c.lists in
    let so_far = c.pairs in
    let settings = texts_spelled text config is in
    let has = pairs_stand draft config so_far.pairs (last_goes draft.forwarding c.last) made.whole in
    let front = both_said Request draft.request (last_rule draft.forwarding) own.on_requests (last_said draft.forwarding c.last) in
    let sets = both_said Request (map param_removal draft.application.params) draft.param_rules (removals_said draft.application.params) own.of_pairs in
    let all = both_said Request (draft.request ++ last_rule draft.forwarding) (made_rules draft.application.params draft.param_rules) front sets in
    let on_requests : are_spelled_rules Request config.request ≡ true = ap (are_spelled_rules Request) has.request ∙ all in
    let on_responses : are_spelled_rules Response config.response ≡ true = ap (are_spelled_rules Response) has.response ∙ own.on_responses in
    let on_all : are_spelled_rules Response config.after ≡ true = ap (are_spelled_rules Response) has.after ∙ own.on_all in
    let on_plain : are_spelled_rules Request (plain_rules config) ≡ true = ap (are_spelled_rules Request) has.plain ∙ front in
    let of_pairs : are_spelled_rules Request (pair_rules config) ≡ true = ap (are_spelled_rules Request) has.values ∙ own.of_pairs in
    let first = ap tests_in has.plain ∙ tests_joined draft.request (last_rule draft.forwarding) in
    let none = tests_of_last draft.forwarding c.last in
    let second = ap tests_in has.response in
    let third = ap tests_in has.after in
    let fourth = ap tests_in has.values in
    let count = own.counted in
    let most = own.most in
    record {
      valid = valid;
      settings = settings.spelled;
      req_filters = settings.requests.said;
      res_filters = settings.responses.said;
      request = rules_said directions.Request config.request valid.request.each on_requests;
      response = rules_said directions.Response config.response valid.response.each on_responses;
      after = rules_said directions.After config.after valid.after.each on_all;
      terms = four_said (terms_in (plain_rules config)) (terms_in config.response) (terms_in config.after) (terms_in (pair_rules config))
          (terms_said Request (plain_rules config) on_plain) (terms_said Response config.response on_responses) (terms_said Response config.after on_all) (terms_said Request (pair_rules config) of_pairs);
      tests = omega (arith, first, none, second, third, fourth, count, most);
      pairs = has.pairs;
      names = has.told;
      alone = settings.peer;
    }

-- as laws
pub loaded_spelled : (text : List ℕ) (r : Option ℕ) (config : Config) → config_of text r ≡ Ok config → IsValid config → IsSpelledConfig config
loaded_spelled text r config is valid =
    let gives = loaded_gives text r config is in
    spelled_of text config gives (so_given IsMade (read_whole text).gives config (text_made text) gives) valid

pub loaded_back : (text : List ℕ) (r : Option ℕ) (config : Config) → config_of text r ≡ Ok config → IsValid config → fits config ≡ true → config_of (config_text config) None ≡ Ok config
loaded_back text r config is valid h = config_back config (loaded_spelled text r config is valid) h
