-- What any line leaves of settings can be said again, and what all lines leave.
use Rattle.std.proofs.Common.{◌≡◌, ℕ, ◌+◌, Bool, true, false, cond, List, [], ◌∷◌, Result, Ok, Err}
use Rattle.std.specs.Prelude.{not, Some, codes}
use Rattle.std.specs.Str.{bytes_eq}
use Rattle.http_rules.specs.Valid.{IsParam}
use Rattle.http_rules.specs.declared.rule.action.Direction.{Direction}
use Rattle.http_rules.specs.declared.rule.action.Direction.TheVariants.{Request, Response, After}
use Rattle.http_rules.specs.declared.rule.rule.Rule.{Rule}
use Rattle.cfg_lex.specs.declared.fault.LineFault.{LineFault}
use Rattle.cfg_lex.specs.declared.fault.LineFault.TheVariants as faults
use Rattle.cfg_lex.specs.Words.{words_of}
use Rattle.cfg_expr.specs.Condition.Conditions.{acl_line}
use Rattle.cfg_expr.specs.Reading.{plain}
use Rattle.cfg_parse.specs.declared.fault.CfgKind.{CfgKind}
use Rattle.cfg_parse.specs.declared.fault.CfgKind.TheVariants as kinds
use Rattle.cfg_parse.specs.declared.keywords.FirstWord.{FirstWord}
use Rattle.cfg_parse.specs.declared.keywords.FirstWord.TheVariants.{Begins, Sets, Unknown}
use Rattle.cfg_parse.specs.declared.keywords.Setting.{Setting}
use Rattle.cfg_parse.specs.declared.keywords.Setting.TheVariants as settings
use Rattle.cfg_parse.specs.declared.keywords.Places.{Places}
use Rattle.cfg_parse.specs.declared.draft.Draft.{Draft}
use Rattle.cfg_parse.specs.Asking.{LineReading, of_text, of_rule}
use Rattle.cfg_parse.specs.Reading.{argument}
use Rattle.cfg_parse.specs.Keywords.{first_word_of}
use Rattle.cfg_parse.specs.Draft.{is_before, belongs}
use Rattle.cfg_parse.specs.Settings.{has_effect}
use Rattle.cfg_parse.specs.Action.Rules.{rule_of}
use Rattle.cfg_parse.specs.Action.Forwarding.{forwarding_rule}
use Rattle.cfg_parse.specs.Action.Params.{param_rule}
use Rattle.cfg_parse.specs.Rules.{tests_of, with_rule, has_room, rule_added, rule_line, with_forwarding, forwarding_line, option_by, option_line, acl_setting}
use Rattle.cfg_parse.specs.Pairs.{with_name, has_param_room, with_param, param_added, param_line}
use Rattle.cfg_parse.specs.Lines.{setting_line, known_line, line_by, words_line, line_by_words, line_of}
use Rattle.cfg_parse.specs.Whole.{ends_rules, Placed, placed_gives, lines_from}
use Rattle.cfg_print.specs.Pairs.{is_set}
use Rattle.cfg_laws.specs.Laws.ReadSettings.{CanSaySettings}
use Rattle.cfg_laws.proofs.ReadLemmas.Steps.{GivesSo, so_given}
use Rattle.cfg_laws.proofs.ReadLemmas.SettingSteps.{so_if, so_read, so_either_read, either_so}
use Rattle.cfg_laws.proofs.ReadLemmas.Pairs.{pair_told, names_said, forwarding_told}
use Rattle.cfg_laws.proofs.ReadLemmas.PairRules.{sets_said}
use Rattle.cfg_laws.proofs.ReadLemmas.SettingLines.{section_said, bufsize_said, maxrewrite_said, mode_said, timeout_said, bind_said, server_said, docroot_said, index_said, script_said, filter_said}

-- what a line leaves
abbrev Leaves : LineReading Draft → Type 0
Leaves line = GivesSo CanSaySettings line.gives

-- ---- lines of rules

with_rule_said : (draft : Draft) (direction : Direction) (rule : Rule) → CanSaySettings draft → CanSaySettings (with_rule draft direction rule)
with_rule_said draft Request rule c = record { bufsize = c.bufsize; times = c.times; bind = c.bind; server = c.server; manner = c.manner; files = c.files; names = c.names; sets = c.sets; forwarding = c.forwarding; requests = c.requests; responses = c.responses }
with_rule_said draft Response rule c = record { bufsize = c.bufsize; times = c.times; bind = c.bind; server = c.server; manner = c.manner; files = c.files; names = c.names; sets = c.sets; forwarding = c.forwarding; requests = c.requests; responses = c.responses }
with_rule_said draft After rule c = record { bufsize = c.bufsize; times = c.times; bind = c.bind; server = c.server; manner = c.manner; files = c.files; names = c.names; sets = c.sets; forwarding = c.forwarding; requests = c.requests; responses = c.responses }

rule_added_said : (draft : Draft) (direction : Direction) (rule : Rule) → CanSaySettings draft → GivesSo CanSaySettings (rule_added draft direction rule)
unfolding rule_added
rule_added_said draft direction rule c =
    so_if CanSaySettings (has_room draft direction (tests_of rule.cond)) kinds.Limit (Ok (with_rule draft direction rule)) (λ room. with_rule_said draft direction rule c)

rule_said : (draft : Draft) (direction : Direction) (arguments : List (List ℕ)) → CanSaySettings draft → Leaves (rule_line draft direction arguments)
unfolding rule_line
rule_said draft direction arguments c =
    so_read CanSaySettings (of_rule (rule_of direction draft.acls arguments)).gives (λ rule. plain (rule_added draft direction rule)) (λ rule is. rule_added_said draft direction rule c)

acl_said : (draft : Draft) (arguments : List (List ℕ)) → CanSaySettings draft → Leaves (acl_setting draft arguments)
unfolding acl_setting
acl_said draft arguments c =
    so_read CanSaySettings (of_text (acl_line draft.acls arguments)).gives (λ lines. plain (Ok (record draft { acls = lines })))
    (λ lines is. record { bufsize = c.bufsize; times = c.times; bind = c.bind; server = c.server; manner = c.manner; files = c.files; names = c.names; sets = c.sets; forwarding = c.forwarding; requests = c.requests; responses = c.responses })

forwarded : (draft : Draft) (rule : Rule) → CanSaySettings draft → ends_rules rule ≡ false → CanSaySettings (record draft { forwarding = Some rule })
forwarded draft rule c ends = record { bufsize = c.bufsize; times = c.times; bind = c.bind; server = c.server; manner = c.manner; files = c.files; names = c.names; sets = c.sets; forwarding = ends; requests = c.requests; responses = c.responses }

forwarding_said : (draft : Draft) (arguments : List (List ℕ)) → CanSaySettings draft → Leaves (forwarding_line draft arguments)
unfolding forwarding_line
forwarding_said draft arguments c =
    so_read CanSaySettings (of_rule (forwarding_rule arguments)).gives (λ rule. plain (Ok (with_forwarding draft rule)))
    (λ rule is. either_so CanSaySettings (has_effect draft) (record draft { forwarding = Some rule }) draft (forwarded draft rule c (forwarding_told arguments rule is)) c)

option_by_said : (draft : Draft) (word : Result (List ℕ × List (List ℕ)) CfgKind) → CanSaySettings draft → Leaves (option_by draft word)
option_by_said draft (Err kind) c = tt
option_by_said draft (Ok word) c =
    so_either_read CanSaySettings (bytes_eq word.0 (codes "forwardfor")) (forwarding_line draft word.1) (plain (Err kinds.Argument)) (λ known. forwarding_said draft word.1 c) (λ other. tt)

option_said : (draft : Draft) (arguments : List (List ℕ)) → CanSaySettings draft → Leaves (option_line draft arguments)
unfolding option_line
option_said draft arguments c = option_by_said draft (argument arguments) c

param_added_said : (draft : Draft) (name : List ℕ) (rule : Rule) → CanSaySettings draft → IsParam name → ((names : List (List ℕ)) → is_set (with_name names name) rule ≡ true) → GivesSo CanSaySettings (param_added draft name rule)
unfolding param_added
param_added_said draft name rule c named tells =
    so_if CanSaySettings (has_param_room draft (tests_of rule.cond)) kinds.Limit (Ok (with_param draft name rule))
    (λ room. record { bufsize = c.bufsize; times = c.times; bind = c.bind; server = c.server; manner = c.manner; files = c.files; names = names_said draft.application.params name c.names named; sets = sets_said draft.application.params name draft.param_rules rule c.sets (tells draft.application.params); forwarding = c.forwarding; requests = c.requests; responses = c.responses })

param_said : (draft : Draft) (arguments : List (List ℕ)) → CanSaySettings draft → Leaves (param_line draft arguments)
unfolding param_line
param_said draft arguments c =
    so_read CanSaySettings (of_rule (param_rule draft.acls arguments)).gives (λ found. plain (param_added draft found.0 found.1)) (λ found is. let pair = pair_told draft.acls arguments found is in param_added_said draft found.0 found.1 c pair.0 pair.1)

-- ---- any line

setting_said : (draft : Draft) (setting : Setting) (arguments : List (List ℕ)) → CanSaySettings draft → Leaves (setting_line draft setting arguments)
unfolding setting_line
setting_said draft settings.Bufsize arguments c = bufsize_said draft arguments c
setting_said draft settings.Maxrewrite arguments c = maxrewrite_said draft arguments c
setting_said draft settings.Mode arguments c = mode_said draft arguments c
setting_said draft settings.Timeout arguments c = timeout_said draft arguments c
setting_said draft settings.Options arguments c = option_said draft arguments c
setting_said draft settings.Bind arguments c = bind_said draft arguments c
setting_said draft settings.Server arguments c = server_said draft arguments c
setting_said draft settings.Acl arguments c = acl_said draft arguments c
setting_said draft settings.HttpRequest arguments c = rule_said draft Request arguments c
setting_said draft settings.HttpResponse arguments c = rule_said draft Response arguments c
setting_said draft settings.HttpAfterResponse arguments c = rule_said draft After arguments c
setting_said draft settings.Filter arguments c = filter_said draft arguments c
setting_said draft settings.Docroot arguments c = docroot_said draft arguments c
setting_said draft settings.Index arguments c = index_said draft arguments c
setting_said draft settings.Script arguments c = script_said draft arguments c
setting_said draft settings.Param arguments c = param_said draft arguments c

known_said : (draft : Draft) (setting : Setting) (places : Places) (arguments : List (List ℕ)) → CanSaySettings draft → Leaves (known_line draft setting places arguments)
unfolding known_line
known_said draft setting places arguments c =
    let known = setting_line draft setting arguments in
    so_either_read CanSaySettings (is_before draft.section) (plain (Err kinds.Section)) (cond (not (belongs places draft.section)) (plain (Err kinds.Keyword)) known) (λ before. tt)
    (λ begun. so_either_read CanSaySettings (not (belongs places draft.section)) (plain (Err kinds.Keyword)) known (λ other. tt) (λ belongs. setting_said draft setting arguments c))

unknown_said : (t : Bool) (x y : CfgKind) → GivesSo CanSaySettings (cond t (Err x) (Err y))
unknown_said true x y = tt
unknown_said false x y = tt

by_said : (draft : Draft) (word : FirstWord) (arguments : List (List ℕ)) → CanSaySettings draft → Leaves (line_by draft word arguments)
by_said draft (Begins word) arguments c = section_said draft word arguments c
by_said draft (Sets setting places) arguments c = known_said draft setting places arguments c
by_said draft Unknown arguments c = unknown_said (is_before draft.section) kinds.Section kinds.Keyword

words_said : (draft : Draft) (words : List (List ℕ)) → CanSaySettings draft → Leaves (words_line draft words)
unfolding words_line
words_said draft [] c = c
words_said draft (first ∷ arguments) c = by_said draft (first_word_of first) arguments c

by_words_said : (draft : Draft) (words : Result (List (List ℕ)) LineFault) → CanSaySettings draft → Leaves (line_by_words draft words)
by_words_said draft (Ok words) c = words_said draft words c
by_words_said draft (Err faults.Word) c = tt
by_words_said draft (Err faults.Limit) c = tt
by_words_said draft (Err faults.OutOfMemory) c = tt

line_said : (draft : Draft) (line : List ℕ) → CanSaySettings draft → Leaves (line_of draft line)
unfolding line_of
line_said draft line c = by_words_said draft (words_of line) c

pub line_keeps : (draft next : Draft) (line : List ℕ) → CanSaySettings draft → (line_of draft line).gives ≡ Ok next → CanSaySettings next
line_keeps draft next line c is = so_given CanSaySettings (line_of draft line).gives next (line_said draft line c) is

-- ---- all lines

placed_said : (number : ℕ) (told : Result Draft CfgKind) (others : Draft → Placed Draft) → GivesSo CanSaySettings told → ((next : Draft) → CanSaySettings next → GivesSo CanSaySettings (others next).gives)
    → GivesSo CanSaySettings (placed_gives number told others)
placed_said number (Ok next) others h more = more next h
placed_said number (Err kind) others h more = tt

pub lines_said : (number : ℕ) (draft : Draft) (lines : List (List ℕ)) → CanSaySettings draft → GivesSo CanSaySettings (lines_from number draft lines).gives
unfolding lines_from
lines_said number draft [] c = c
lines_said number draft (line ∷ lines) c =
    placed_said number (line_of draft line).gives (λ next. lines_from (number + 1) next lines) (line_said draft line c) (λ next d. lines_said (number + 1) next lines d)

pub lines_keep : (number : ℕ) (draft next : Draft) (lines : List (List ℕ)) → CanSaySettings draft → (lines_from number draft lines).gives ≡ Ok next → CanSaySettings next
lines_keep number draft next lines c is = so_given CanSaySettings (lines_from number draft lines).gives next (lines_said number draft lines c) is
