-- The canonical text of a configuration, read as a whole.
use Rattle.std.proofs.Common.{◌≡◌, ℕ, zero, suc, ◌+◌, ◌≤◌, Bool, true, cond, List, [], ◌∷◌, ◌++◌, length, take, drop, length-append, refl, sym, ap, ◌∙◌, append_assoc, arith}
use Rattle.std.proofs.lemmas.Bool.{leb-true, le-ltb}
use Rattle.std.proofs.lemmas.List.{append-nil}
use Rattle.std.proofs.Math.ListN.{take-append-drop}
use Rattle.std.specs.Prelude.{nat_le, IfSome, Option, Some, None, Result, Ok, Err, codes}
use Rattle.std.specs.List.{AllByRecursion}
use Rattle.std.specs.Str.Lines.{lines}
use Rattle.fcgi_model.specs.Application.{Application}
use Rattle.acl_eval.specs.declared.condition.Term.{Term}
use Rattle.http_rules.specs.Valid.{IsParam, IsApplication}
use Rattle.http_rules.specs.declared.config.Config.{Config}
use Rattle.http_rules.specs.declared.rule.action.Direction.TheVariants.{Request, Response, After}
use Rattle.http_rules.specs.declared.rule.rule.Rule.{Rule}
use Rattle.cfg_expr.specs.Condition.Lines.{most_lines}
use Rattle.cfg_parse.specs.declared.draft.Draft.{Draft}
use Rattle.cfg_parse.specs.declared.fault.CfgKind.TheVariants.{Limit}
use Rattle.cfg_parse.specs.Draft.{start}
use Rattle.cfg_parse.specs.Limits.{most_text}
use Rattle.cfg_parse.specs.Whole.{Refusal, Placed, lines_from, of_text, after_lines, of_lines, whole, read_whole, config_of}
use Rattle.cfg_parse.specs.Whole.{pair_rules as made_rules}
use Rattle.cfg_print.specs.Fits.{is_readable, fits}
use Rattle.cfg_print.specs.Pairs.{pair_names, plain_count, pairs_text}
use Rattle.cfg_print.specs.Printed.{global_text, settings_text, filters_text, plain_rules, pair_rules, all_terms, keys_of, ruling_text, config_text}
use Rattle.cfg_print.specs.Rules.{rules_text}
use Rattle.cfg_print.specs.Table.{terms_in, table_text, count_lines}
use Rattle.cfg_laws.specs.SpelledPairs.{names_of, has_pairs_behind, reaches_pairs, are_spelled_pairs}
use Rattle.cfg_laws.specs.Laws.Configs.{IsSpelledConfig}
use Rattle.cfg_laws.specs.Laws.Listing.{IsSpelledRule, names_told, with_rules, with_pairs}
use Rattle.cfg_laws.specs.Laws.Reading.{Comes}
use Rattle.cfg_laws.specs.Laws.Settings.{have_words, with_limits, application_lines, with_settings, count_application}
use Rattle.cfg_laws.specs.Laws.Table.{declared}
use Rattle.cfg_laws.specs.Laws.Whole.{with_all}
use Rattle.cfg_laws.proofs.LawLemmas.FilterLines.{requests_back, responses_back}
use Rattle.cfg_laws.proofs.LawLemmas.PairRules.{rules_joined, pairs_set}
use Rattle.cfg_laws.proofs.LawLemmas.Pairing.{pairs_read}
use Rattle.cfg_laws.proofs.LawLemmas.Readings.{more_lines, made_lines}
use Rattle.cfg_laws.proofs.LawLemmas.Ruling.{rules_read}
use Rattle.cfg_laws.proofs.LawLemmas.SettingLines.{global_back, settings_back}
use Rattle.cfg_laws.proofs.LawLemmas.Tabling.{table_read}
use Rattle.cfg_laws.proofs.LawLemmas.Wholes.{pairs_length, whole_back}
use Rattle.cfg_laws.proofs.LawLemmas.Words.{both_left, both_right}

-- ---- rules of a list

each_front : (P : Rule → Type 0) (n : ℕ) (rules : List Rule) → AllByRecursion P rules → AllByRecursion P (take n rules)
each_front P zero rules each = tt
each_front P (suc n) [] each = tt
each_front P (suc n) (rule ∷ rules) each = (each.0, each_front P n rules each.1)

each_behind : (P : Rule → Type 0) (n : ℕ) (rules : List Rule) → AllByRecursion P rules → AllByRecursion P (drop n rules)
each_behind P zero rules each = each
each_behind P (suc n) [] each = tt
each_behind P (suc n) (rule ∷ rules) each = each_behind P n rules each.1

-- those of a configuration that stand in front of the rules of pairs are no more than all
front_size : (rules front behind : List Rule) → front ++ behind ≡ rules → length front + length behind ≡ length rules
front_size rules front behind e = sym (length-append front behind) ∙ ap length e

-- ---- drafts, one behind the other

abbrev settled : Config → Draft
settled config = with_settings (with_limits start config.limits) config

abbrev tabled : Config → Draft
tabled config = record (settled config) { acls = declared [] (all_terms config) }

abbrev asked : Config → Draft
asked config = with_rules (tabled config) Request (plain_rules config)

abbrev answered : Config → Draft
answered config = with_rules (asked config) Response config.response

abbrev ended : Config → Draft
ended config = with_rules (answered config) After config.after

abbrev paired : Config → Draft
paired config = with_pairs (ended config) (names_of config) (pair_rules config)

abbrev filtered : Config → Draft
filtered config = record (paired config) { req_filters = config.req_filters }

abbrev last : Config → Draft
last config = record (filtered config) { res_filters = config.res_filters }

-- ---- settings and the table

settings_come : (config : Config) → IsSpelledConfig config → Comes start (global_text config.limits ++ settings_text config) (settled config)
settings_come config is =
    let sizes = with_limits start config.limits in
    more_lines start sizes (settled config) (global_text config.limits) (settings_text config) (made_lines (global_text config.limits) start sizes 3 (global_back start config.limits is.valid.limits))
    (made_lines (settings_text config) sizes (settled config) (10 + count_application config.application)
    (settings_back sizes config is.valid is.settings (record { listen = refl; bind = refl; server = refl; application = refl })))

table_comes : (config : Config) → IsSpelledConfig config → count_lines [] (all_terms config) ≤ most_lines → Comes (settled config) (table_text [] (all_terms config)) (tabled config)
table_comes config is few = table_read (settled config) (all_terms config) refl refl is.terms few

-- ---- rules

-- the terms of all rules, with those of one list in the middle
four_first : (p q r s : List Term) → p ++ q ++ r ++ s ≡ p ++ (q ++ (r ++ s))
four_first p q r s = append_assoc (p ++ q) r s ∙ append_assoc p q (r ++ s)

four_last : (p q r s : List Term) → p ++ q ++ r ++ s ≡ (p ++ q ++ r) ++ (s ++ [])
four_last p q r s = ap (λ l. (p ++ q ++ r) ++ l) (sym (append-nil s))

rules_come : (config : Config) → IsSpelledConfig config → count_lines [] (all_terms config) ≤ most_lines
    → Comes (tabled config) (rules_text (keys_of config) (codes "http-request") (plain_rules config)) (asked config)
unfolding all_terms
rules_come config is few =
    let p = terms_in (plain_rules config) in
    let q = terms_in config.response in
    let r = terms_in config.after in
    let s = terms_in (pair_rules config) in
    let count = plain_count (names_of config) config.request in
    let size = front_size config.request (plain_rules config) (drop count config.request) (take-append-drop count config.request) in
    let room = is.valid.request.few in
    let tests = is.tests in
    rules_read Request (tabled config) (plain_rules config) (all_terms config) [] (q ++ (r ++ s))
    (record { are = four_first p q r s; spelled = is.terms; few = few; listen = refl; acls = refl })
    (each_front (IsSpelledRule Request) count config.request is.request) (omega (arith, size, room)) (omega (arith, tests))

responses_come : (config : Config) → IsSpelledConfig config → count_lines [] (all_terms config) ≤ most_lines
    → Comes (asked config) (rules_text (keys_of config) (codes "http-response") config.response) (answered config)
unfolding all_terms
responses_come config is few =
    let p = terms_in (plain_rules config) in
    let q = terms_in config.response in
    let r = terms_in config.after in
    let s = terms_in (pair_rules config) in
    let room = is.valid.response.few in
    let tests = is.tests in
    rules_read Response (asked config) config.response (all_terms config) p (r ++ s)
    (record { are = four_first p q r s; spelled = is.terms; few = few; listen = refl; acls = refl })
    is.response (omega (arith, room)) (omega (arith, tests))

after_come : (config : Config) → IsSpelledConfig config → count_lines [] (all_terms config) ≤ most_lines
    → Comes (answered config) (rules_text (keys_of config) (codes "http-after-response") config.after) (ended config)
unfolding all_terms
after_come config is few =
    let p = terms_in (plain_rules config) in
    let q = terms_in config.response in
    let r = terms_in config.after in
    let s = terms_in (pair_rules config) in
    let room = is.valid.after.few in
    let tests = is.tests in
    rules_read After (answered config) config.after (all_terms config) (p ++ q) s
    (record { are = append_assoc (p ++ q) r s; spelled = is.terms; few = few; listen = refl; acls = refl })
    is.after (omega (arith, room)) (omega (arith, tests))

-- ---- pairs

names_allowed : (app : Option Application) → IfSome app IsApplication → AllByRecursion IsParam (pair_names app)
names_allowed None is = tt
names_allowed (Some app) is = is.params

-- no pair is told in front of those of rules
no_names : (app : Option Application) → (application_lines app).params ≡ []
no_names None = refl
no_names (Some app) = refl

names_are : (config : Config) → IsSpelledConfig config → names_told (names_of config) (application_lines config.application).params (pair_rules config) ≡ names_of config
names_are config is = ap (λ l. names_told (names_of config) l (pair_rules config)) (no_names config.application) ∙ is.names

pairs_come : (config : Config) → IsSpelledConfig config → count_lines [] (all_terms config) ≤ most_lines
    → Comes (ended config) (pairs_text (keys_of config) (names_of config) (pair_rules config)) (paired config)
unfolding all_terms are_spelled_pairs
pairs_come config is few =
    let p = terms_in (plain_rules config) in
    let q = terms_in config.response in
    let r = terms_in config.after in
    let s = terms_in (pair_rules config) in
    let names = names_of config in
    let values = pair_rules config in
    let count = plain_count names config.request in
    let has = both_left (has_pairs_behind config) (reaches_pairs config) is.pairs in
    let size = front_size config.request (take count config.request) (made_rules names values) (rules_joined names config.request has) in
    let made = pairs_length names values in
    let told = ap length (names_are config is) in
    let room = is.valid.request.few in
    let tests = is.tests in
    pairs_read (ended config) names values (all_terms config) (p ++ q ++ r) []
    (record { are = four_last p q r s; spelled = is.terms; few = few; listen = refl; acls = refl })
    (names_allowed config.application is.valid.application)
    (each_behind (IsSpelledRule Request) (length names) (drop count config.request) (each_behind (IsSpelledRule Request) count config.request is.request))
    (pairs_set names config.request has) (omega (arith, size, made, told, room)) (omega (arith, tests))

-- ---- all lines

ruling_comes : (config : Config) → IsSpelledConfig config → count_lines [] (all_terms config) ≤ most_lines → Comes (tabled config) (ruling_text (keys_of config) config) (paired config)
unfolding ruling_text
ruling_comes config is few =
    let keys = keys_of config in
    let a = rules_text keys (codes "http-request") (plain_rules config) in
    let b = rules_text keys (codes "http-response") config.response in
    let c = rules_text keys (codes "http-after-response") config.after in
    let d = pairs_text keys (names_of config) (pair_rules config) in
    more_lines (tabled config) (ended config) (paired config) (a ++ b ++ c) d
    (more_lines (tabled config) (answered config) (ended config) (a ++ b) c
    (more_lines (tabled config) (asked config) (answered config) a b (rules_come config is few) (responses_come config is few)) (after_come config is few)) (pairs_come config is few)

text_comes : (config : Config) → IsSpelledConfig config → count_lines [] (all_terms config) ≤ most_lines → Comes start (config_text config) (last config)
unfolding config_text
text_comes config is few =
    let a = global_text config.limits ++ settings_text config in
    let b = table_text [] (all_terms config) in
    let c = ruling_text (keys_of config) config in
    let d = filters_text (codes "req") config.req_filters in
    let e = filters_text (codes "res") config.res_filters in
    more_lines start (filtered config) (last config) (a ++ b ++ c ++ d) e
    (more_lines start (paired config) (filtered config) (a ++ b ++ c) d
    (more_lines start (tabled config) (paired config) (a ++ b) c
    (more_lines start (settled config) (tabled config) a b (settings_come config is) (table_comes config is few)) (ruling_comes config is few))
    (made_lines d (paired config) (filtered config) (length config.req_filters) (requests_back (paired config) config.req_filters is.valid.req_filters is.req_filters refl refl)))
    (made_lines e (filtered config) (last config) (length config.res_filters) (responses_back (filtered config) config.res_filters is.valid.res_filters is.res_filters refl refl))

-- ---- the whole

-- with these names of pairs
abbrev with_names : Draft → Config → List (List ℕ) → Draft
with_names draft config names = record draft { application = record (application_lines config.application) { params = names } }

all_told : (config : Config) → IsSpelledConfig config → last config ≡ with_all (last config) config
all_told config is = ap (with_names (last config) config) (names_are config is)

whole_is : (config : Config) → IsSpelledConfig config → whole (last config) ≡ Ok config
whole_is config is = ap whole (all_told config is) ∙ whole_back (last config) config is.valid is.pairs is.alone

-- what is read of a text, which may be too long
abbrev read_if : Bool → List ℕ → Placed Config
read_if long text = cond long (record { asks = []; gives = Err (0, Limit) }) (of_lines (lines_from 1 start (lines text)))

-- what lines that come to a draft come to as a text
text_read : (text : List ℕ) (draft : Draft) (config : Config) → Comes start text draft → whole draft ≡ Ok config → is_readable text ≡ true → config_of text None ≡ Ok config
unfolding config_of read_whole lines_from is_readable
text_read text draft config comes makes readable =
    let long = nat_le (length text) most_text in
    let short = leb-true (length text) most_text (both_left long (have_words text) readable) in
    let all = comes 1 [] (ap have_words (append-nil text) ∙ both_right long (have_words text) readable) in
    let gives = sym (ap (λ l. (lines_from 1 start (lines l)).gives) (append-nil text)) ∙ all.gives in
    ap (λ t. (read_if t text).gives) (le-ltb most_text (length text) short)
    ∙ ap (λ (g : Result Draft Refusal). after_lines g) gives ∙ ap of_text makes

-- the canonical text of a configuration loads to it
pub config_back : (config : Config) → IsSpelledConfig config → fits config ≡ true → config_of (config_text config) None ≡ Ok config
config_back config is h =
    let few = nat_le (count_lines [] (all_terms config)) most_lines in
    let lines_few = leb-true (count_lines [] (all_terms config)) most_lines (both_left few (is_readable (config_text config)) h) in
    text_read (config_text config) (last config) config (text_comes config is lines_few) (whole_is config is) (both_right few (is_readable (config_text config)) h)
