-- The lines of pairs, read in their place.
use Rattle.std.proofs.Common.{◌≡◌, ℕ, ◌+◌, ◌<◌, ◌≤◌, Bool, true, false, cond, List, [], ◌∷◌, ◌++◌, length, length-append, refl, sym, ap, ◌∙◌, subst, append_assoc, arith}
use Rattle.std.proofs.lemmas.Bool.{false≢true, lt-ltb, le-leb, and_from}
use Rattle.std.proofs.lemmas.List.{append-nil}
use Rattle.std.specs.Prelude.{◌&&◌, ◌||◌, not, nat_lt, nat_le, Option, Ok, Err, codes}
use Rattle.std.specs.List.{list_all, list_any, AllByRecursion}
use Rattle.std.specs.Str.{bytes_eq}
use Rattle.fcgi_model.specs.Application.{param_field}
use Rattle.acl_eval.specs.declared.condition.Term.{Term}
use Rattle.acl_eval.specs.declared.condition.Cond.{Cond}
use Rattle.log_format.specs.declared.fmt.Fmt.{Fmt}
use Rattle.http_rules.specs.Valid.{is_param_byte, IsParam}
use Rattle.http_rules.specs.declared.rule.action.Action.{Action}
use Rattle.http_rules.specs.declared.rule.action.Action.TheVariants as actions
use Rattle.http_rules.specs.declared.rule.action.Direction.TheVariants.{Request}
use Rattle.http_rules.specs.declared.rule.rule.Rule.{Rule}
use Rattle.cfg_expr.specs.declared.side.Side.TheVariants as sides
use Rattle.cfg_expr.specs.declared.condition.written.AclLine.{AclLine}
use Rattle.cfg_expr.specs.Condition.Conditions.{rule_end}
use Rattle.cfg_expr.specs.Faults.{TextReading}
use Rattle.cfg_expr.specs.Reading.{plain, given_by, ◌>>=◌}
use Rattle.cfg_parse.specs.Action.Arguments.{Words}
use Rattle.cfg_parse.specs.Action.Faults.{RuleReading, of_text}
use Rattle.cfg_parse.specs.Action.Params.{is_param, value_at, param_set, param_rule}
use Rattle.cfg_parse.specs.Asking.{LineReading, of_rule}
use Rattle.cfg_parse.specs.Limits.{most_rules, most_tests}
use Rattle.cfg_parse.specs.Lines.{setting_line, known_line, words_line}
use Rattle.cfg_parse.specs.Pairs.{is_among, with_name, has_param_room, with_param, param_added, param_line}
use Rattle.cfg_parse.specs.Rules.{tests_of}
use Rattle.cfg_parse.specs.declared.action.fault.RuleKind.TheVariants.{Argument}
use Rattle.cfg_parse.specs.declared.draft.Draft.{Draft}
use Rattle.cfg_parse.specs.declared.draft.Section.TheVariants as sections
use Rattle.cfg_parse.specs.declared.fault.CfgKind.TheVariants.{Limit}
use Rattle.cfg_parse.specs.declared.keywords.Places.TheVariants.{InListen}
use Rattle.cfg_parse.specs.declared.keywords.Setting.TheVariants.{Param}
use Rattle.cfg_parse.specs.Keywords.{section_word, general_setting, listen_setting, application_setting}
use Rattle.cfg_print.specs.Formats.{format_text}
use Rattle.cfg_print.specs.Pairs.{is_field_of, sets_one, is_set, name_in, value_words, pair_line, pairs_text}
use Rattle.cfg_print.specs.Rules.{end_words}
use Rattle.cfg_print.specs.Table.{terms_of, terms_in, keys_from}
use Rattle.cfg_laws.specs.Spelled.{is_spelled_format}
use Rattle.cfg_laws.specs.SpelledActions.{is_spelled_action}
use Rattle.cfg_laws.specs.Laws.Listing.{IsBelow, IsSpelledRule, tests_in, name_told, names_told, with_pairs}
use Rattle.cfg_laws.specs.Laws.Reading.{Comes}
use Rattle.cfg_laws.specs.Laws.Table.{declared}
use Rattle.cfg_laws.proofs.LawLemmas.ActionWords.{told, format_read}
use Rattle.cfg_laws.proofs.LawLemmas.Convs.{found}
use Rattle.cfg_laws.proofs.LawLemmas.Names.{are_same}
use Rattle.cfg_laws.proofs.LawLemmas.Readings.{no_lines, one_line, more_lines}
use Rattle.cfg_laws.proofs.LawLemmas.Ruling.{end_back, plus_none, plus_both}
use Rattle.cfg_laws.proofs.LawLemmas.Tabling.{listen_line}
use Rattle.cfg_laws.proofs.LawLemmas.Words.{both_left, both_right}

-- ---- names

name_allowed : (name : List ℕ) → IsParam name → is_param name ≡ true
unfolding is_param
name_allowed name is =
    and_from (nat_le 1 (length name) && nat_le (length name) 64) (list_all is_param_byte name && not (bytes_eq name (codes "HTTP_PROXY")))
    (and_from (nat_le 1 (length name)) (nat_le (length name) 64) (le-leb 1 (length name) is.some) (le-leb (length name) 64 is.short))
    (and_from (list_all is_param_byte name) (not (bytes_eq name (codes "HTTP_PROXY"))) is.bytes (ap not is.free))

-- the name of a field that is one of these pairs'
pub record IsTold (names : List (List ℕ)) (field : List ℕ) : Type 0 where
  pub allowed : is_param (name_in names field) ≡ true
  pub same : field ≡ param_field (name_in names field)

name_found : (names : List (List ℕ)) (field : List ℕ) → AllByRecursion IsParam names → list_any (is_field_of field) names ≡ true → IsTold names field
name_found [] field each h = absurd (false≢true h)
name_found (name ∷ names) field each h = by_test (is_field_of field name) refl h (λ i. name_found names field each.1 i)
  where
    by_test : (t : Bool) → is_field_of field name ≡ t → (t || list_any (is_field_of field) names) ≡ true → (list_any (is_field_of field) names ≡ true → IsTold names field)
        → IsTold (name ∷ names) field
    by_test true is h later =
        let here : name_in (name ∷ names) field ≡ name = ap (λ t. cond t name (name_in names field)) is in
        record {
          allowed = ap is_param here ∙ name_allowed name each.0;
          same = are_same field (param_field name) is ∙ sym (ap param_field here);
        }
    by_test false is h later =
        let there : name_in (name ∷ names) field ≡ name_in names field = ap (λ t. cond t name (name_in names field)) is in
        let told = later h in
        record {
          allowed = ap is_param there ∙ told.allowed;
          same = told.same ∙ sym (ap param_field there);
        }

-- ---- a rule

abbrev pub set : List ℕ → Fmt → Option Cond → Rule
set field fmt cond = record { action = actions.SetHeader field fmt; cond = cond }

-- a value with its condition is read
value_read : (lines : List AclLine) (fmt : Fmt) (ends : Words) (last : Option Cond) → is_spelled_format sides.Request fmt ≡ true → rule_end sides.Request lines ends ≡ found [] last
    → (value_at lines (format_text fmt ∷ ends)).gives ≡ Ok (fmt, last)
unfolding value_at
value_read lines fmt ends last h i =
    ap (λ (r : RuleReading (Fmt × Words)). (r >>= λ f. of_text (rule_end sides.Request lines f.1) >>= λ c. plain (told (f.0, c))).gives) (format_read sides.Request fmt ends h)
    ∙ ap (λ (r : TextReading (Option Cond)). (of_text r >>= λ c. plain (told (fmt, c))).gives) i

-- the words of a pair give its name and its rule
param_read : (lines : List AclLine) (name : List ℕ) (fmt : Fmt) (ends : Words) (last : Option Cond) → is_param name ≡ true → is_spelled_format sides.Request fmt ≡ true
    → rule_end sides.Request lines ends ≡ found [] last → (param_rule lines (name ∷ format_text fmt ∷ ends)).gives ≡ Ok (name, param_set name fmt last)
unfolding param_rule
param_read lines name fmt ends last allowed h i =
    ap (λ t. (plain (cond t (told name) (Err Argument)) >>= λ n. value_at lines (format_text fmt ∷ ends) >>= λ v. plain (told (n, param_set n v.0 v.1))).gives) allowed
    ∙ ap (λ g. given_by g (λ v. plain (told (name, param_set name v.0 v.1)))) (value_read lines fmt ends last h i)

param_setting : (draft : Draft) (words : List (List ℕ)) → words_line draft (codes "fcgi-param" ∷ words) ≡ known_line draft Param InListen words
unfolding words_line section_word general_setting listen_setting application_setting
param_setting draft words = refl

param_meant : (draft : Draft) (words : List (List ℕ)) → setting_line draft Param words ≡ param_line draft words
unfolding setting_line
param_meant draft words = refl

-- a pair is added, where there is room for it
param_more : (draft : Draft) (name : List ℕ) (rule : Rule) (words : List (List ℕ)) → draft.section ≡ sections.Listen → (param_rule draft.acls words).gives ≡ Ok (name, rule)
    → length draft.application.params + length draft.param_rules < most_rules → draft.tests + tests_of rule.cond ≤ most_tests
    → (words_line draft (codes "fcgi-param" ∷ words)).gives ≡ Ok (with_param draft name rule)
unfolding param_line param_added has_param_room
param_more draft name rule words listen read room few =
    ap (λ (r : LineReading Draft). r.gives) (param_setting draft words ∙ listen_line draft Param words listen ∙ param_meant draft words)
    ∙ ap (λ g. (of_rule (record { asks = (param_rule draft.acls words).asks; gives = g }) >>= λ f. plain (param_added draft f.0 f.1)).gives) read
    ∙ ap (λ t. cond t (Ok (with_param draft name rule)) (Err Limit))
    (and_from (nat_lt (length draft.application.params + length draft.param_rules) most_rules) (nat_le (draft.tests + tests_of rule.cond) most_tests)
    (lt-ltb (length draft.application.params + length draft.param_rules) most_rules room) (le-leb (draft.tests + tests_of rule.cond) most_tests few))

-- with the name that a rule tells
abbrev with_told : Draft → (names : List (List ℕ)) → Rule → Draft
with_told draft names rule = with_param draft (name_told names rule.action) rule

-- what is so of a rule that sets the field of a pair is so of one that sets a field
pub by_set : (P : Action → Type 0) (names : List (List ℕ)) (action : Action) → sets_one names action ≡ true
    → ((field : List ℕ) (fmt : Fmt) → list_any (is_field_of field) names ≡ true → P (actions.SetHeader field fmt)) → P action
unfolding sets_one
by_set P names (actions.SetHeader field fmt) h p = p field fmt h
by_set P names actions.Allow h p = absurd (false≢true h)
by_set P names (actions.Deny code) h p = absurd (false≢true h)
by_set P names (actions.AddHeader name fmt) h p = absurd (false≢true h)
by_set P names (actions.DelHeader by) h p = absurd (false≢true h)
by_set P names (actions.ReplaceHeader name pat fmt) h p = absurd (false≢true h)
by_set P names (actions.ReplaceValue name pat fmt) h p = absurd (false≢true h)
by_set P names (actions.SetMethod fmt) h p = absurd (false≢true h)
by_set P names (actions.SetPath fmt) h p = absurd (false≢true h)
by_set P names (actions.SetPathq fmt) h p = absurd (false≢true h)
by_set P names (actions.SetUri fmt) h p = absurd (false≢true h)
by_set P names (actions.SetQuery fmt) h p = absurd (false≢true h)
by_set P names (actions.ReplacePath pat fmt) h p = absurd (false≢true h)
by_set P names (actions.ReplacePathq pat fmt) h p = absurd (false≢true h)
by_set P names (actions.ReplaceUri pat fmt) h p = absurd (false≢true h)
by_set P names (actions.SetStatus code reason) h p = absurd (false≢true h)
by_set P names (actions.Redirect to code drop_query append_slash) h p = absurd (false≢true h)
by_set P names (actions.Return status content_type payload hdrs) h p = absurd (false≢true h)
by_set P names (actions.SetVar scope name expr) h p = absurd (false≢true h)
by_set P names (actions.UnsetVar scope name) h p = absurd (false≢true h)
by_set P names (actions.StrictMode on) h p = absurd (false≢true h)

abbrev with_action : Rule → Action → Rule
with_action rule action = record { action = action; cond = rule.cond }

-- the line of a pair is read
pair_in : (draft : Draft) (names : List (List ℕ)) (rule : Rule) (all before behind : List Term) → IsBelow all before (terms_of rule.cond) behind draft
    → AllByRecursion IsParam names → IsSpelledRule Request rule → is_set names rule ≡ true → length draft.application.params + length draft.param_rules < most_rules
    → draft.tests + tests_of rule.cond ≤ most_tests → Comes draft (pair_line (keys_from [] all) names rule) (with_told draft names rule)
unfolding pair_line value_words is_spelled_action
pair_in draft names rule all before behind below params is h room few =
    let keys = keys_from [] all in
    let end = end_words keys rule.cond in
    let back = end_back sides.Request all before behind rule.cond below.are below.spelled below.few is.groups is.on in
    let P : Action → Type 0 = λ action. is_spelled_action sides.Request action ≡ true → Comes draft (pair_line keys names (with_action rule action)) (with_told draft names (with_action rule action)) in
    by_set P names rule.action h (λ field fmt i spelled.
    let one = name_found names field params i in
    let name = name_in names field in
    let read = param_read (declared [] all) name fmt end rule.cond one.allowed spelled back in
    let rule_is : param_set name fmt rule.cond ≡ set field fmt rule.cond = ap (λ f. set f fmt rule.cond) (sym one.same) in
    let words = name ∷ format_text fmt ∷ end in
    one_line draft (with_param draft name (set field fmt rule.cond)) (codes "fcgi-param" ∷ words)
    (param_more draft name (set field fmt rule.cond) words below.listen
    (ap (λ l. (param_rule l words).gives) below.acls ∙ read ∙ ap (λ r. Ok (name, r)) rule_is) room few)) is.spelled

-- ---- rules

-- names stay
names_stay : (names : List (List ℕ)) (name : List ℕ) → length names ≤ length (with_name names name)
names_stay names name = by_test (is_among names name)
  where
    by_test : (t : Bool) → length names ≤ length (cond t names (names ++ name ∷ []))
    by_test true = omega arith
    by_test false = omega (arith, length-append names (name ∷ []))

names_grow : (names so_far : List (List ℕ)) (rules : List Rule) → length so_far ≤ length (names_told names so_far rules)
unfolding names_told
names_grow names so_far [] = omega arith
names_grow names so_far (rule ∷ rules) =
    let one = names_stay so_far (name_told names rule.action) in
    let more = names_grow names (with_name so_far (name_told names rule.action)) rules in
    omega (arith, one, more)

-- with so many tests, these names and these rules of pairs
abbrev put : Draft → (tests : ℕ) → (told : List (List ℕ)) → List Rule → Draft
put draft tests told rules = record draft { tests = tests; application = record draft.application { params = told }; param_rules = rules }

no_pairs : (draft : Draft) (names : List (List ℕ)) → with_pairs draft names [] ≡ draft
unfolding names_told
no_pairs draft names =
    ap (λ n. put draft n draft.application.params (draft.param_rules ++ [])) (plus_none draft.tests) ∙ ap (put draft draft.tests draft.application.params) (append-nil draft.param_rules)

pairs_more : (draft : Draft) (names : List (List ℕ)) (rule : Rule) (others : List Rule) → with_pairs (with_told draft names rule) names others ≡ with_pairs draft names (rule ∷ others)
unfolding names_told
pairs_more draft names rule others =
    let told = names_told names (with_name draft.application.params (name_told names rule.action)) others in
    ap (λ n. put draft n told ((draft.param_rules ++ rule ∷ []) ++ others)) (plus_both draft.tests (tests_of rule.cond) (tests_in others))
    ∙ ap (put draft (draft.tests + tests_in (rule ∷ others)) told) (append_assoc draft.param_rules (rule ∷ []) others)

-- the lines of pairs are read
pub pairs_read : (draft : Draft) (names : List (List ℕ)) (rules : List Rule) (all before behind : List Term) → IsBelow all before (terms_in rules) behind draft
    → AllByRecursion IsParam names → AllByRecursion (IsSpelledRule Request) rules → list_all (is_set names) rules ≡ true
    → length (names_told names draft.application.params rules) + (length draft.param_rules + length rules) ≤ most_rules → draft.tests + tests_in rules ≤ most_tests
    → Comes draft (pairs_text (keys_from [] all) names rules) (with_pairs draft names rules)
unfolding names_told
pairs_read draft names [] all before behind below params each sets room few = subst (λ d. Comes draft [] d) (sym (no_pairs draft names)) (no_lines draft)
pairs_read draft names (rule ∷ rules) all before behind below params each sets room few =
    let keys = keys_from [] all in
    let next = with_told draft names rule in
    let told = with_name draft.application.params (name_told names rule.action) in
    let size = length-append draft.param_rules (rule ∷ []) in
    let one = names_stay draft.application.params (name_told names rule.action) in
    let more = names_grow names told rules in
    let joined = append_assoc (terms_of rule.cond) (terms_in rules) behind in
    let front : IsBelow all before (terms_of rule.cond) (terms_in rules ++ behind) draft =
    record { are = below.are ∙ ap (λ l. before ++ l) joined; spelled = below.spelled; few = below.few; listen = below.listen; acls = below.acls } in
    let back : IsBelow all (before ++ terms_of rule.cond) (terms_in rules) behind next =
    record {
      are = below.are ∙ ap (λ l. before ++ l) joined ∙ sym (append_assoc before (terms_of rule.cond) (terms_in rules ++ behind));
      spelled = below.spelled;
      few = below.few;
      listen = below.listen;
      acls = below.acls;
    } in
    let first = pair_in draft names rule all before (terms_in rules ++ behind) front params each.0 (both_left (is_set names rule) (list_all (is_set names) rules) sets)
    (omega (arith, room, one, more)) (omega (arith, few)) in
    let others = pairs_read next names rules all (before ++ terms_of rule.cond) behind back params each.1 (both_right (is_set names rule) (list_all (is_set names) rules) sets)
    (omega (arith, room, size)) (omega (arith, few)) in
    subst (λ d. Comes draft (pairs_text keys names (rule ∷ rules)) d) (pairs_more draft names rule rules)
    (more_lines draft next (with_pairs next names rules) (pair_line keys names rule) (pairs_text keys names rules) first others)
