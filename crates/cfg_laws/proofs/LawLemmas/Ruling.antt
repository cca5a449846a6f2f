-- The lines of rules, read in their place.
use Rattle.std.proofs.Common.{◌≡◌, ℕ, ◌+◌, ◌<◌, ◌≤◌, Bool, true, false, cond, List, [], ◌∷◌, ◌++◌, length, length-append, refl, sym, ap, ◌∙◌, subst, append_assoc, arith}
use Rattle.std.proofs.lemmas.Bool.{lt-ltb, le-leb, and_from}
use Rattle.std.proofs.lemmas.List.{append-nil}
use Rattle.std.specs.Prelude.{nat_lt, nat_le, IfSome, Option, Some, None, Ok, Err}
use Rattle.std.specs.List.{list_all, AllByRecursion}
use Rattle.acl_eval.specs.declared.condition.Term.{Term}
use Rattle.acl_eval.specs.declared.condition.Cond.{Cond}
use Rattle.http_rules.specs.declared.rule.action.Direction.{Direction}
use Rattle.http_rules.specs.declared.rule.action.Direction.TheVariants.{Request, Response, After}
use Rattle.http_rules.specs.declared.rule.rule.Rule.{Rule}
use Rattle.cfg_expr.specs.declared.side.Side.{Side}
use Rattle.cfg_expr.specs.Condition.Lines.{most_lines}
use Rattle.cfg_expr.specs.Condition.Conditions.{rule_end}
use Rattle.cfg_expr.specs.Reading.{plain, ◌>>=◌}
use Rattle.cfg_parse.specs.Action.Faults.{RuleReading}
use Rattle.cfg_parse.specs.Action.Names.{side_of}
use Rattle.cfg_parse.specs.Action.Rules.{rule_of}
use Rattle.cfg_parse.specs.Asking.{LineReading, of_rule}
use Rattle.cfg_parse.specs.declared.fault.CfgKind.TheVariants.{Limit}
use Rattle.cfg_parse.specs.declared.draft.Draft.{Draft}
use Rattle.cfg_parse.specs.declared.draft.Section.TheVariants as sections
use Rattle.cfg_parse.specs.declared.keywords.Setting.{Setting}
use Rattle.cfg_parse.specs.declared.keywords.Setting.TheVariants.{HttpRequest, HttpResponse, HttpAfterResponse}
use Rattle.cfg_parse.specs.declared.keywords.Places.TheVariants.{InListen}
use Rattle.cfg_parse.specs.Keywords.{section_word, general_setting, listen_setting}
use Rattle.cfg_parse.specs.Limits.{most_rules, most_tests}
use Rattle.cfg_parse.specs.Lines.{setting_line, known_line, words_line}
use Rattle.cfg_parse.specs.Rules.{tests_of, rules_in, with_rule, has_room, rule_added, rule_line}
use Rattle.cfg_print.specs.Rules.{sense, end_words, rule_words, rule_line as rule_spelled, rules_text}
use Rattle.cfg_print.specs.Table.{terms_of, terms_in, keys_from, count_lines}
use Rattle.cfg_laws.specs.SpelledActions.{is_sense, ends_action}
use Rattle.cfg_laws.specs.Laws.Conditions.{are_groups}
use Rattle.cfg_laws.specs.Laws.Reading.{Comes}
use Rattle.cfg_laws.specs.Laws.Table.{declared, are_spelled_terms, is_term_on}
use Rattle.cfg_laws.specs.Laws.Listing.{IsBelow, IsSpelledRule, list_of, tests_in, with_rules}
use Rattle.cfg_laws.proofs.LawLemmas.Conditions.{condition_back}
use Rattle.cfg_laws.proofs.LawLemmas.Convs.{found}
use Rattle.cfg_laws.proofs.LawLemmas.Readings.{no_lines, one_line, more_lines}
use Rattle.cfg_laws.proofs.LawLemmas.Rules.{rule_back}
use Rattle.cfg_laws.proofs.LawLemmas.Table.{groups_named}
use Rattle.cfg_laws.proofs.LawLemmas.Tabling.{listen_line}

-- ---- the end of a rule

sense_is : (unless : Bool) → is_sense (sense unless) ≡ true
sense_is true = refl
sense_is false = refl

-- a condition or nothing ends an action
pub ends : (keys : List (List ℕ)) (cond : Option Cond) → ends_action (end_words keys cond) ≡ true
unfolding end_words
ends keys None = refl
ends keys (Some cond) = sense_is cond.unless

-- it is read back below a table with its terms
pub end_back : (side : Side) (all before behind : List Term) (cond : Option Cond) → all ≡ before ++ (terms_of cond ++ behind) → are_spelled_terms all ≡ true → count_lines [] all ≤ most_lines
    → IfSome cond (λ c. are_groups c.groups ≡ true) → list_all (is_term_on side) (terms_of cond) ≡ true
    → rule_end side (declared [] all) (end_words (keys_from [] all) cond) ≡ found [] cond
unfolding end_words rule_end
end_back side all before behind None e spelled few groups on = refl
end_back side all before behind (Some cond) e spelled few groups on =
    condition_back side (declared [] all) (keys_from [] all) cond groups (groups_named side all before cond.groups behind e spelled few on)

-- ---- one rule

-- the setting of a direction's rules
abbrev setting_of : Direction → Setting
setting_of Request = HttpRequest
setting_of Response = HttpResponse
setting_of After = HttpAfterResponse

rule_setting : (draft : Draft) (direction : Direction) (words : List (List ℕ)) → words_line draft (list_of direction ∷ words) ≡ known_line draft (setting_of direction) InListen words
unfolding words_line section_word general_setting listen_setting
rule_setting draft Request words = refl
rule_setting draft Response words = refl
rule_setting draft After words = refl

rule_meant : (draft : Draft) (direction : Direction) (words : List (List ℕ)) → setting_line draft (setting_of direction) words ≡ rule_line draft direction words
unfolding setting_line
rule_meant draft Request words = refl
rule_meant draft Response words = refl
rule_meant draft After words = refl

-- a rule is added, where there is room for it
rule_more : (draft : Draft) (direction : Direction) (rule : Rule) (words : List (List ℕ)) → draft.section ≡ sections.Listen → (rule_of direction draft.acls words).gives ≡ Ok rule
    → length (rules_in draft direction) < most_rules → draft.tests + tests_of rule.cond ≤ most_tests → (words_line draft (list_of direction ∷ words)).gives ≡ Ok (with_rule draft direction rule)
unfolding rule_line rule_added has_room
rule_more draft direction rule words listen read room few =
    ap (λ (r : LineReading Draft). r.gives) (rule_setting draft direction words ∙ listen_line draft (setting_of direction) words listen ∙ rule_meant draft direction words)
    ∙ ap (λ g. (of_rule (record { asks = (rule_of direction draft.acls words).asks; gives = g }) >>= λ r. plain (rule_added draft direction r)).gives) read
    ∙ ap (λ t. cond t (Ok (with_rule draft direction rule)) (Err Limit))
    (and_from (nat_lt (length (rules_in draft direction)) most_rules) (nat_le (draft.tests + tests_of rule.cond) most_tests)
    (lt-ltb (length (rules_in draft direction)) most_rules room) (le-leb (draft.tests + tests_of rule.cond) most_tests few))

-- the line of a rule is read
rule_in : (direction : Direction) (draft : Draft) (rule : Rule) (all before behind : List Term) → IsBelow all before (terms_of rule.cond) behind draft
    → IsSpelledRule direction rule → length (rules_in draft direction) < most_rules → draft.tests + tests_of rule.cond ≤ most_tests
    → Comes draft (rule_spelled (keys_from [] all) (list_of direction) rule) (with_rule draft direction rule)
unfolding rule_spelled
rule_in direction draft rule all before behind below is room few =
    let keys = keys_from [] all in
    let end = end_words keys rule.cond in
    let back = end_back (side_of direction) all before behind rule.cond below.are below.spelled below.few is.groups is.on in
    let read = rule_back direction (declared [] all) rule end is.good is.spelled (ends keys rule.cond) back in
    one_line draft (with_rule draft direction rule) (list_of direction ∷ rule_words keys rule)
    (rule_more draft direction rule (rule_words keys rule) below.listen (ap (λ l. (rule_of direction l (rule_words keys rule)).gives) below.acls ∙ ap (λ (r : RuleReading Rule). r.gives) read) room few)

-- ---- rules

section_stays : (draft : Draft) (direction : Direction) (rule : Rule) → (with_rule draft direction rule).section ≡ draft.section
section_stays draft Request rule = refl
section_stays draft Response rule = refl
section_stays draft After rule = refl

acls_stay : (draft : Draft) (direction : Direction) (rule : Rule) → (with_rule draft direction rule).acls ≡ draft.acls
acls_stay draft Request rule = refl
acls_stay draft Response rule = refl
acls_stay draft After rule = refl

tests_grow : (draft : Draft) (direction : Direction) (rule : Rule) → (with_rule draft direction rule).tests ≡ draft.tests + tests_of rule.cond
tests_grow draft Request rule = refl
tests_grow draft Response rule = refl
tests_grow draft After rule = refl

rules_grow : (draft : Draft) (direction : Direction) (rule : Rule) → rules_in (with_rule draft direction rule) direction ≡ rules_in draft direction ++ rule ∷ []
rules_grow draft Request rule = refl
rules_grow draft Response rule = refl
rules_grow draft After rule = refl

-- with so many tests, and these rules of a direction
abbrev put : Draft → Direction → (tests : ℕ) → List Rule → Draft
put draft Request tests rules = record draft { tests = tests; request = rules }
put draft Response tests rules = record draft { tests = tests; response = rules }
put draft After tests rules = record draft { tests = tests; after = rules }

pub plus_none : (n : ℕ) → n + 0 ≡ n
plus_none n = omega arith

pub plus_both : (l m n : ℕ) → (l + m) + n ≡ l + (m + n)
plus_both l m n = omega arith

no_rules : (draft : Draft) (direction : Direction) → with_rules draft direction [] ≡ draft
no_rules draft Request = ap (λ n. put draft Request n (draft.request ++ [])) (plus_none draft.tests) ∙ ap (put draft Request draft.tests) (append-nil draft.request)
no_rules draft Response = ap (λ n. put draft Response n (draft.response ++ [])) (plus_none draft.tests) ∙ ap (put draft Response draft.tests) (append-nil draft.response)
no_rules draft After = ap (λ n. put draft After n (draft.after ++ [])) (plus_none draft.tests) ∙ ap (put draft After draft.tests) (append-nil draft.after)

put_more : (draft : Draft) (direction : Direction) (rules : List Rule) (rule : Rule) (others : List Rule)
    → put draft direction ((draft.tests + tests_of rule.cond) + tests_in others) ((rules ++ rule ∷ []) ++ others) ≡ put draft direction (draft.tests + tests_in (rule ∷ others)) (rules ++ rule ∷ others)
put_more draft direction rules rule others =
    ap (λ n. put draft direction n ((rules ++ rule ∷ []) ++ others)) (plus_both draft.tests (tests_of rule.cond) (tests_in others))
    ∙ ap (put draft direction (draft.tests + tests_in (rule ∷ others))) (append_assoc rules (rule ∷ []) others)

rules_more : (draft : Draft) (direction : Direction) (rule : Rule) (others : List Rule) → with_rules (with_rule draft direction rule) direction others ≡ with_rules draft direction (rule ∷ others)
rules_more draft Request rule others = put_more draft Request draft.request rule others
rules_more draft Response rule others = put_more draft Response draft.response rule others
rules_more draft After rule others = put_more draft After draft.after rule others

-- below the same table, with the terms of the first rule in front
below_more : (draft : Draft) (direction : Direction) (rule : Rule) (rules : List Rule) (all before behind : List Term) → IsBelow all before (terms_in (rule ∷ rules)) behind draft
    → IsBelow all (before ++ terms_of rule.cond) (terms_in rules) behind (with_rule draft direction rule)
below_more draft direction rule rules all before behind below = record {
  are = below.are ∙ ap (λ l. before ++ l) (append_assoc (terms_of rule.cond) (terms_in rules) behind) ∙ sym (append_assoc before (terms_of rule.cond) (terms_in rules ++ behind));
  spelled = below.spelled;
  few = below.few;
  listen = section_stays draft direction rule ∙ below.listen;
  acls = acls_stay draft direction rule ∙ below.acls;
}

below_first : (draft : Draft) (rule : Rule) (rules : List Rule) (all before behind : List Term) → IsBelow all before (terms_in (rule ∷ rules)) behind draft
    → IsBelow all before (terms_of rule.cond) (terms_in rules ++ behind) draft
below_first draft rule rules all before behind below = record {
  are = below.are ∙ ap (λ l. before ++ l) (append_assoc (terms_of rule.cond) (terms_in rules) behind);
  spelled = below.spelled;
  few = below.few;
  listen = below.listen;
  acls = below.acls;
}

-- the lines of rules are read
pub rules_read : (direction : Direction) (draft : Draft) (rules : List Rule) (all before behind : List Term) → IsBelow all before (terms_in rules) behind draft
    → AllByRecursion (IsSpelledRule direction) rules → length (rules_in draft direction) + length rules ≤ most_rules → draft.tests + tests_in rules ≤ most_tests
    → Comes draft (rules_text (keys_from [] all) (list_of direction) rules) (with_rules draft direction rules)
rules_read direction draft [] all before behind below each room few = subst (λ d. Comes draft [] d) (sym (no_rules draft direction)) (no_lines draft)
rules_read direction draft (rule ∷ rules) all before behind below each room few =
    let keys = keys_from [] all in
    let next = with_rule draft direction rule in
    let size = ap length (rules_grow draft direction rule) ∙ length-append (rules_in draft direction) (rule ∷ []) in
    let tests = tests_grow draft direction rule in
    let first = rule_in direction draft rule all before (terms_in rules ++ behind) (below_first draft rule rules all before behind below) each.0 (omega (arith, room)) (omega (arith, few)) in
    let others = rules_read direction next rules all (before ++ terms_of rule.cond) behind (below_more draft direction rule rules all before behind below) each.1
    (omega (arith, room, size)) (omega (arith, few, tests)) in
    subst (λ d. Comes draft (rules_text keys (list_of direction) (rule ∷ rules)) d) (rules_more draft direction rule rules)
    (more_lines draft next (with_rules next direction rules) (rule_spelled keys (list_of direction) rule) (rules_text keys (list_of direction) rules) first others)
