-- What each line leaves of `acl` lines, rules and pairs can be said again: lines that tell of them, and any line.
use Rattle.std.proofs.Common.{◌≡◌, ℕ, ◌+◌, ◌≤◌, Bool, true, false, cond, List, [], ◌∷◌, ◌++◌, length, Result, Ok, Err, refl, sym, ap, subst, ◌∙◌, arith}
use Rattle.std.proofs.lemmas.Bool.{and_from, leb-true}
use Rattle.std.proofs.lemmas.List.Folds.{list_all-append}
use Rattle.std.specs.Prelude.{◌&&◌, not, nat_le, nat_lt, Some, codes}
use Rattle.std.specs.Str.{bytes_eq}
use Rattle.http_rules.specs.declared.rule.action.Direction.{Direction}
use Rattle.http_rules.specs.declared.rule.action.Direction.TheVariants as directions
use Rattle.http_rules.specs.declared.rule.rule.Rule.{Rule}
use Rattle.log_format.specs.declared.fmt.Fmt.{Fmt}
use Rattle.cfg_lex.specs.declared.fault.LineFault.{LineFault}
use Rattle.cfg_lex.specs.declared.fault.LineFault.TheVariants as faults
use Rattle.cfg_lex.specs.Words.{words_of}
use Rattle.cfg_expr.specs.declared.side.Side.{Side}
use Rattle.cfg_expr.specs.declared.side.Side.TheVariants.{Request, Response}
use Rattle.cfg_expr.specs.Condition.Conditions.{acl_line}
use Rattle.cfg_expr.specs.Formats.{format_of}
use Rattle.cfg_expr.specs.Reading.{plain, kind_as}
use Rattle.cfg_parse.specs.declared.fault.CfgKind.{CfgKind}
use Rattle.cfg_parse.specs.declared.fault.CfgKind.TheVariants as kinds
use Rattle.cfg_parse.specs.declared.keywords.FirstWord.{FirstWord}
use Rattle.cfg_parse.specs.declared.keywords.FirstWord.TheVariants.{Begins, Sets, Unknown}
use Rattle.cfg_parse.specs.declared.keywords.Setting.{Setting}
use Rattle.cfg_parse.specs.declared.keywords.Setting.TheVariants as settings
use Rattle.cfg_parse.specs.declared.keywords.Places.{Places}
use Rattle.cfg_parse.specs.declared.draft.Draft.{Draft}
use Rattle.cfg_parse.specs.Asking.{LineReading, of_text, of_rule}
use Rattle.cfg_parse.specs.Reading.{argument}
use Rattle.cfg_parse.specs.Keywords.{first_word_of}
use Rattle.cfg_parse.specs.Draft.{start, is_before, belongs}
use Rattle.cfg_parse.specs.Limits.{most_rules, most_tests}
use Rattle.cfg_parse.specs.Settings.{has_effect}
use Rattle.cfg_parse.specs.Action.Arguments.{Words, forwarded_name}
use Rattle.cfg_parse.specs.Action.Faults.{of_text as as_rule}
use Rattle.cfg_parse.specs.Action.Names.{side_of}
use Rattle.cfg_parse.specs.Action.Params.{param_rule}
use Rattle.cfg_parse.specs.Action.Rules.{rule_of}
use Rattle.cfg_parse.specs.Action.Forwarding.{forwarding_rule}
use Rattle.cfg_parse.specs.Rules.{tests_of, rules_in, with_rule, has_room, rule_added, rule_line, with_forwarding, forwarding_line, option_by, option_line, acl_setting}
use Rattle.cfg_parse.specs.Pairs.{with_name, has_param_room, with_param, param_added, param_line}
use Rattle.cfg_parse.specs.Lines.{setting_line, known_line, line_by, words_line, line_by_words, line_of}
use Rattle.cfg_parse.specs.Whole.{Placed, is_allow, placed_gives, lines_from}
use Rattle.cfg_laws.specs.Spelled.{is_spelled_format}
use Rattle.cfg_laws.specs.SpelledActions.{is_spelled_action}
use Rattle.cfg_laws.specs.Laws.Listing.{tests_in, names_told}
use Rattle.cfg_laws.specs.Laws.ReadPairs.{ArePairs}
use Rattle.cfg_laws.specs.Laws.ReadRules.{is_spelled_end, is_spelled_rule, IsSpelledPair}
use Rattle.cfg_laws.specs.Laws.ReadDrafts.{CanSayLines, are_spelled_rules, CanSayLast, CanSayRules}
use Rattle.cfg_laws.proofs.LawLemmas.Words.{both_right}
use Rattle.cfg_laws.proofs.ReadLemmas.Conditions.{lines_spelled}
use Rattle.cfg_laws.proofs.ReadLemmas.Formats.{formats_spelled}
use Rattle.cfg_laws.proofs.ReadLemmas.Rules.{rules_spelled}
use Rattle.cfg_laws.proofs.ReadLemmas.Steps.{GivesSo, so_given}
use Rattle.cfg_laws.proofs.ReadLemmas.SettingSteps.{so_if, so_read, so_either_read, either_so}
use Rattle.cfg_laws.proofs.ReadLemmas.Terms.{lines_few}
use Rattle.cfg_laws.proofs.ReadLemmas.PairNames.{names_grow, pairs_grow}
use Rattle.cfg_laws.proofs.ReadLemmas.PairReadings.{pairs_spelled}
use Rattle.cfg_laws.proofs.ReadLemmas.OtherLines.{section_keeps, bufsize_keeps, maxrewrite_keeps, mode_keeps, timeout_keeps, bind_keeps, server_keeps, docroot_keeps, index_keeps, script_keeps, filter_keeps}

-- what a line leaves
abbrev Leaves : LineReading Draft → Type 0
Leaves line = GivesSo CanSayRules line.gives

-- what is so of whatever was told, of other kinds of refusals too
so_told : {K L A : Type 0} (P : A → Type 0) (turned : K → L) (told : Result A K) → ((x : A) → told ≡ Ok x → P x) → GivesSo P (kind_as turned told)
so_told P turned (Ok x) h = h x refl
so_told P turned (Err kind) h = tt

-- ---- rules

tests_last : (rules : List Rule) (rule : Rule) → tests_in (rules ++ rule ∷ []) ≡ tests_in rules + tests_of rule.cond
tests_last [] rule = omega arith
tests_last (first ∷ rules) rule = let more = tests_last rules rule in omega (arith, more)

rules_last : (side : Side) (rules : List Rule) (rule : Rule) → are_spelled_rules side rules ≡ true → is_spelled_rule side rule ≡ true → are_spelled_rules side (rules ++ rule ∷ []) ≡ true
rules_last side rules rule h is =
    list_all-append (is_spelled_rule side) rules (rule ∷ []) ∙ and_from (are_spelled_rules side rules) (is_spelled_rule side rule && true) h (and_from (is_spelled_rule side rule) true is refl)

with_rule_kept : (draft : Draft) (direction : Direction) (rule : Rule) → CanSayRules draft → is_spelled_rule (side_of direction) rule ≡ true → draft.tests + tests_of rule.cond ≤ most_tests
    → CanSayRules (with_rule draft direction rule)
with_rule_kept draft directions.Request rule c is few =
    let own = c.lists in
    let count = own.counted in
    let more = tests_last draft.request rule in
    record {
      lines = c.lines;
      lists = record { on_requests = rules_last Request draft.request rule own.on_requests is; on_responses = own.on_responses; on_all = own.on_all; of_pairs = own.of_pairs; counted = omega (arith, count, more); most = few };
      pairs = c.pairs;
      last = c.last;
    }
with_rule_kept draft directions.Response rule c is few =
    let own = c.lists in
    let count = own.counted in
    let more = tests_last draft.response rule in
    record {
      lines = c.lines;
      lists = record { on_requests = own.on_requests; on_responses = rules_last Response draft.response rule own.on_responses is; on_all = own.on_all; of_pairs = own.of_pairs; counted = omega (arith, count, more); most = few };
      pairs = c.pairs;
      last = c.last;
    }
with_rule_kept draft directions.After rule c is few =
    let own = c.lists in
    let count = own.counted in
    let more = tests_last draft.after rule in
    record {
      lines = c.lines;
      lists = record { on_requests = own.on_requests; on_responses = own.on_responses; on_all = rules_last Response draft.after rule own.on_all is; of_pairs = own.of_pairs; counted = omega (arith, count, more); most = few };
      pairs = c.pairs;
      last = c.last;
    }

rule_added_kept : (draft : Draft) (direction : Direction) (rule : Rule) → CanSayRules draft → is_spelled_rule (side_of direction) rule ≡ true → GivesSo CanSayRules (rule_added draft direction rule)
unfolding rule_added has_room
rule_added_kept draft direction rule c is =
    so_if CanSayRules (nat_lt (length (rules_in draft direction)) most_rules && nat_le (draft.tests + tests_of rule.cond) most_tests) kinds.Limit (Ok (with_rule draft direction rule))
    (λ room. with_rule_kept draft direction rule c is (leb-true (draft.tests + tests_of rule.cond) most_tests (both_right (nat_lt (length (rules_in draft direction)) most_rules) (nat_le (draft.tests + tests_of rule.cond) most_tests) room)))

-- a rule of a direction is read where its side can say what lines declare
rule_read : (draft : Draft) (direction : Direction) (words : Words) (rule : Rule) → CanSayRules draft → (rule_of direction draft.acls words).gives ≡ Ok rule → is_spelled_rule (side_of direction) rule ≡ true
rule_read draft directions.Request words rule c is = let own = c.lines in rules_spelled directions.Request draft.acls words rule own.request own.few is
rule_read draft directions.Response words rule c is = let own = c.lines in rules_spelled directions.Response draft.acls words rule own.response own.few is
rule_read draft directions.After words rule c is = let own = c.lines in rules_spelled directions.After draft.acls words rule own.response own.few is

rule_keeps : (draft : Draft) (direction : Direction) (arguments : List (List ℕ)) → CanSayRules draft → Leaves (rule_line draft direction arguments)
unfolding rule_line
rule_keeps draft direction arguments c =
    let P : Rule → Type 0 = λ rule. is_spelled_rule (side_of direction) rule ≡ true in
    so_read CanSayRules (of_rule (rule_of direction draft.acls arguments)).gives (λ rule. plain (rule_added draft direction rule))
    (λ rule is. rule_added_kept draft direction rule c
    (so_given P (of_rule (rule_of direction draft.acls arguments)).gives rule (so_told P _ (rule_of direction draft.acls arguments).gives (λ one told. rule_read draft direction arguments one c told)) is))

-- ---- `acl`

acl_keeps : (draft : Draft) (arguments : List (List ℕ)) → CanSayRules draft → Leaves (acl_setting draft arguments)
unfolding acl_setting
acl_keeps draft arguments c =
    let own = c.lines in
    so_read CanSayRules (of_text (acl_line draft.acls arguments)).gives (λ lines. plain (Ok (record draft { acls = lines })))
    (λ lines is. record {
      lines = so_given CanSayLines (of_text (acl_line draft.acls arguments)).gives lines
          (so_told CanSayLines _ (acl_line draft.acls arguments).gives
          (λ more told. record {
            request = lines_spelled Request draft.acls more arguments own.request told;
            response = lines_spelled Response draft.acls more arguments own.response told;
            few = lines_few draft.acls more arguments own.few told;
          })) is;
      lists = c.lists;
      pairs = c.pairs;
      last = c.last;
    })

-- ---- `option`

forwarded_last : (words : Words) → GivesSo CanSayLast (forwarding_rule words).gives
unfolding forwarding_rule is_spelled_action is_allow
forwarded_last words =
    let P : Fmt → Type 0 = λ fmt. is_spelled_format Request fmt ≡ true in
    so_read CanSayLast (forwarded_name words) _
    (λ name a. so_read CanSayLast (as_rule (format_of Request (codes "%[src]"))).gives _
    (λ fmt b. record {
      spelled = and_from (is_spelled_format Request fmt) true
          (so_given P (as_rule (format_of Request (codes "%[src]"))).gives fmt (so_told P _ (format_of Request (codes "%[src]")).gives (λ one told. formats_spelled Request (codes "%[src]") one told)) b) refl;
      none = refl;
      goes = refl;
    }))

forwarding_keeps : (draft : Draft) (arguments : List (List ℕ)) → CanSayRules draft → Leaves (forwarding_line draft arguments)
unfolding forwarding_line
forwarding_keeps draft arguments c =
    so_read CanSayRules (of_rule (forwarding_rule arguments)).gives (λ rule. plain (Ok (with_forwarding draft rule)))
    (λ rule is. either_so CanSayRules (has_effect draft) (record draft { forwarding = Some rule }) draft
    (record {
      lines = c.lines;
      lists = c.lists;
      pairs = c.pairs;
      last = so_given CanSayLast (of_rule (forwarding_rule arguments)).gives rule
          (so_told CanSayLast _ (forwarding_rule arguments).gives (λ one told. so_given CanSayLast (forwarding_rule arguments).gives one (forwarded_last arguments) told)) is;
    }) c)

by_option : (draft : Draft) (word : Result (List ℕ × List (List ℕ)) CfgKind) → CanSayRules draft → Leaves (option_by draft word)
by_option draft (Err kind) c = tt
by_option draft (Ok word) c =
    so_either_read CanSayRules (bytes_eq word.0 (codes "forwardfor")) (forwarding_line draft word.1) (plain (Err kinds.Argument)) (λ known. forwarding_keeps draft word.1 c) (λ other. tt)

option_keeps : (draft : Draft) (arguments : List (List ℕ)) → CanSayRules draft → Leaves (option_line draft arguments)
unfolding option_line
option_keeps draft arguments c = by_option draft (argument arguments) c

-- ---- pairs

pair_is : (name : List ℕ) (rule : Rule) → IsSpelledPair name rule → is_spelled_rule Request rule ≡ true
unfolding is_spelled_action
pair_is name rule pair =
    and_from (is_spelled_action Request rule.action) (is_spelled_end Request rule.cond) (ap (λ (one : Rule). is_spelled_action Request one.action) pair.made ∙ pair.text) pair.end

pair_kept : (draft : Draft) (name : List ℕ) (rule : Rule) → CanSayRules draft → IsSpelledPair name rule → draft.tests + tests_of rule.cond ≤ most_tests → CanSayRules (with_param draft name rule)
pair_kept draft name rule c pair few =
    let own = c.lists in
    let count = own.counted in
    let more = tests_last draft.param_rules rule in
    let so_far = c.pairs in
    let params = draft.application.params in
    record {
      lines = c.lines;
      lists = record { on_requests = own.on_requests; on_responses = own.on_responses; on_all = own.on_all; of_pairs = rules_last Request draft.param_rules rule own.of_pairs (pair_is name rule pair); counted = omega (arith, count, more); most = few };
      pairs = record {
        each = names_grow params name draft.param_rules so_far.each pair.named so_far.pairs;
        pairs = subst (λ (one : Rule). ArePairs (with_name params name) (draft.param_rules ++ one ∷ [])) (sym pair.made) (pairs_grow params name draft.param_rules pair.fmt rule.cond so_far.each pair.named so_far.pairs);
      };
      last = c.last;
    }

param_added_kept : (draft : Draft) (name : List ℕ) (rule : Rule) → CanSayRules draft → IsSpelledPair name rule → GivesSo CanSayRules (param_added draft name rule)
unfolding param_added has_param_room
param_added_kept draft name rule c pair =
    let few = nat_lt (length draft.application.params + length draft.param_rules) most_rules in
    so_if CanSayRules (few && nat_le (draft.tests + tests_of rule.cond) most_tests) kinds.Limit (Ok (with_param draft name rule))
    (λ room. pair_kept draft name rule c pair (leb-true (draft.tests + tests_of rule.cond) most_tests (both_right few (nat_le (draft.tests + tests_of rule.cond) most_tests) room)))

-- a name and its rule
abbrev IsPair : List ℕ × Rule → Type 0
IsPair found = IsSpelledPair found.0 found.1

param_keeps : (draft : Draft) (arguments : List (List ℕ)) → CanSayRules draft → Leaves (param_line draft arguments)
unfolding param_line
param_keeps draft arguments c =
    let own = c.lines in
    so_read CanSayRules (of_rule (param_rule draft.acls arguments)).gives (λ found. plain (param_added draft found.0 found.1))
    (λ found is. param_added_kept draft found.0 found.1 c
    (so_given IsPair (of_rule (param_rule draft.acls arguments)).gives found
    (so_told IsPair _ (param_rule draft.acls arguments).gives (λ one told. pairs_spelled draft.acls arguments one.0 one.1 own.request own.few told)) is))

-- ---- any line

setting_keeps : (draft : Draft) (setting : Setting) (arguments : List (List ℕ)) → CanSayRules draft → Leaves (setting_line draft setting arguments)
unfolding setting_line
setting_keeps draft settings.Bufsize arguments c = bufsize_keeps draft arguments c
setting_keeps draft settings.Maxrewrite arguments c = maxrewrite_keeps draft arguments c
setting_keeps draft settings.Mode arguments c = mode_keeps draft arguments c
setting_keeps draft settings.Timeout arguments c = timeout_keeps draft arguments c
setting_keeps draft settings.Options arguments c = option_keeps draft arguments c
setting_keeps draft settings.Bind arguments c = bind_keeps draft arguments c
setting_keeps draft settings.Server arguments c = server_keeps draft arguments c
setting_keeps draft settings.Acl arguments c = acl_keeps draft arguments c
setting_keeps draft settings.HttpRequest arguments c = rule_keeps draft directions.Request arguments c
setting_keeps draft settings.HttpResponse arguments c = rule_keeps draft directions.Response arguments c
setting_keeps draft settings.HttpAfterResponse arguments c = rule_keeps draft directions.After arguments c
setting_keeps draft settings.Filter arguments c = filter_keeps draft arguments c
setting_keeps draft settings.Docroot arguments c = docroot_keeps draft arguments c
setting_keeps draft settings.Index arguments c = index_keeps draft arguments c
setting_keeps draft settings.Script arguments c = script_keeps draft arguments c
setting_keeps draft settings.Param arguments c = param_keeps draft arguments c

known_keeps : (draft : Draft) (setting : Setting) (places : Places) (arguments : List (List ℕ)) → CanSayRules draft → Leaves (known_line draft setting places arguments)
unfolding known_line
known_keeps draft setting places arguments c =
    let known = setting_line draft setting arguments in
    so_either_read CanSayRules (is_before draft.section) (plain (Err kinds.Section)) (cond (not (belongs places draft.section)) (plain (Err kinds.Keyword)) known) (λ before. tt)
    (λ begun. so_either_read CanSayRules (not (belongs places draft.section)) (plain (Err kinds.Keyword)) known (λ other. tt) (λ belongs. setting_keeps draft setting arguments c))

unknown_keeps : (t : Bool) (x y : CfgKind) → GivesSo CanSayRules (cond t (Err x) (Err y))
unknown_keeps true x y = tt
unknown_keeps false x y = tt

by_keeps : (draft : Draft) (word : FirstWord) (arguments : List (List ℕ)) → CanSayRules draft → Leaves (line_by draft word arguments)
by_keeps draft (Begins word) arguments c = section_keeps draft word arguments c
by_keeps draft (Sets setting places) arguments c = known_keeps draft setting places arguments c
by_keeps draft Unknown arguments c = unknown_keeps (is_before draft.section) kinds.Section kinds.Keyword

words_keep : (draft : Draft) (words : List (List ℕ)) → CanSayRules draft → Leaves (words_line draft words)
unfolding words_line
words_keep draft [] c = c
words_keep draft (first ∷ arguments) c = by_keeps draft (first_word_of first) arguments c

by_words : (draft : Draft) (words : Result (List (List ℕ)) LineFault) → CanSayRules draft → Leaves (line_by_words draft words)
by_words draft (Ok words) c = words_keep draft words c
by_words draft (Err faults.Word) c = tt
by_words draft (Err faults.Limit) c = tt
by_words draft (Err faults.OutOfMemory) c = tt

line_left : (draft : Draft) (line : List ℕ) → CanSayRules draft → Leaves (line_of draft line)
unfolding line_of
line_left draft line c = by_words draft (words_of line) c

pub rules_kept : (draft next : Draft) (line : List ℕ) → CanSayRules draft → (line_of draft line).gives ≡ Ok next → CanSayRules next
rules_kept draft next line c is = so_given CanSayRules (line_of draft line).gives next (line_left draft line c) is

-- ---- all lines

pub start_keeps : CanSayRules start
unfolding names_told
start_keeps =
    record {
      lines = record { request = tt; response = tt; few = λ name. omega arith };
      lists = record { on_requests = refl; on_responses = refl; on_all = refl; of_pairs = refl; counted = refl; most = omega arith };
      pairs = record { each = tt; pairs = record { sets = refl; told = refl } };
      last = tt;
    }

placed_keeps : (number : ℕ) (told : Result Draft CfgKind) (others : Draft → Placed Draft) → GivesSo CanSayRules told → ((next : Draft) → CanSayRules next → GivesSo CanSayRules (others next).gives)
    → GivesSo CanSayRules (placed_gives number told others)
placed_keeps number (Ok next) others h more = more next h
placed_keeps number (Err kind) others h more = tt

pub lines_left : (number : ℕ) (draft : Draft) (lines : List (List ℕ)) → CanSayRules draft → GivesSo CanSayRules (lines_from number draft lines).gives
unfolding lines_from
lines_left number draft [] c = c
lines_left number draft (line ∷ lines) c =
    placed_keeps number (line_of draft line).gives (λ next. lines_from (number + 1) next lines) (line_left draft line c) (λ next d. lines_left (number + 1) next lines d)

pub all_rules_kept : (number : ℕ) (draft next : Draft) (lines : List (List ℕ)) → CanSayRules draft → (lines_from number draft lines).gives ≡ Ok next → CanSayRules next
all_rules_kept number draft next lines c is = so_given CanSayRules (lines_from number draft lines).gives next (lines_left number draft lines c) is
