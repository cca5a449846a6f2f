-- Each line keeps the configuration so far sound.
use Rattle.std.proofs.Common.{◌≡◌, ℕ, ◌+◌, ◌-◌, ◌≤◌, ◌⊎◌, inl, inr, Bool, true, false, cond, ltb, leb, eqb, List, [], ◌∷◌, ◌++◌, length, take, drop, Option, Some, None, Result, Ok, Err, refl, sym, ap, subst, ◌∙◌, arith, length-append}
use Rattle.std.specs.Prelude.{◌&&◌, ◌||◌, OnOk, IfSome, is_some, unwrap_or, codes}
use Rattle.std.specs.List.{AllByRecursion}
use Rattle.std.specs.Str.{bytes_eq}
use Rattle.std.specs.Str.Lines.{lines}
use Rattle.std.proofs.lemmas.Bool.Decides.{nat_tests}
use Rattle.std.proofs.lemmas.Bool.{ltb-false}
use Rattle.http_model.specs.Sizes.{most_size}
use Rattle.http_rules.specs.Valid.{IsVersion, IsParam}
use Rattle.cfg_parse.specs.declared.fault.CfgKind.{CfgKind}
use Rattle.cfg_parse.specs.declared.fault.CfgKind.TheVariants.{Argument, Section, Limit}
use Rattle.cfg_parse.specs.declared.draft.ApplicationLines.{ApplicationLines}
use Rattle.cfg_parse.specs.declared.draft.Draft.{Draft}
use Rattle.cfg_parse.specs.declared.fault.LineRefusal.{LineRefusal}
use Rattle.http_rules.specs.declared.rule.rule.Rule.{Rule}
use Rattle.http_rules.specs.declared.rule.action.Direction.{Direction as Rules}
use Rattle.http_rules.specs.declared.rule.action.Direction.TheVariants as lists
use Rattle.http_rules.specs.Rule.Valid.{AreRules, IsGoodRule}
use Rattle.cfg_expr.specs.declared.condition.written.AclLine.{AclLine}
use Rattle.cfg_parse.specs.Reading.{◌>>=◌, argument, no_more, Leaves}
use Rattle.cfg_parse.specs.Keywords.{header_version, timeout_of}
use Rattle.cfg_parse.specs.Draft.{has_listen}
use Rattle.cfg_parse.specs.Settings.{has_effect, section_line, bufsize_line, maxrewrite_line, mode_line, named, timeout_line, bind_options, bind_line, Manner, protocol, server_options, server_line}
use Rattle.cfg_parse.specs.Rules.{tests_of, rules_in, has_room, with_rule, rule_added, with_forwarding}
use Rattle.cfg_parse.specs.Applications.{last_path, docroot_line, names_file, index_line, script_of, script_line}
use Rattle.cfg_parse.specs.Pairs.{with_name, has_param_room, param_added}
use Rattle.cfg_parse.specs.Sound.{IsSoundApplication, IsSound}
use Rattle.cfg_parse.specs.declared.keywords.SectionWord.{SectionWord}
use Rattle.cfg_parse.specs.declared.keywords.SectionWord.TheVariants.{Global, Defaults, Listen, Other}
use Rattle.cfg_parse.specs.Numbers.{number_up_to, size_of, time_of}
use Rattle.cfg_parse.specs.Addresses.{address_of, server_address_of}
use Rattle.body_filter.specs.declared.filter_spec.FilterSpec.{FilterSpec}
use Rattle.body_filter.specs.Valid.{IsFilter}
use Rattle.cfg_expr.specs.declared.side.Side.{Side}
use Rattle.cfg_expr.specs.declared.side.Side.TheVariants.{Request, Response}
use Rattle.cfg_parse.specs.Filters.{with_filter, filter_line, filter_added, filter_setting}
use Rattle.cfg_parse.proofs.AddressLemmas.{address_of-port, server_address_of-good}
use Rattle.cfg_parse.proofs.ApplicationLemmas.{last_path-good, script_of-good, all_push, with_name-good, asked_sound}
use Rattle.cfg_parse.proofs.StepLemmas.{bind_ok, guard_ok, passed, given, ok_is, or_false, and_true}
use Rattle.cfg_parse.proofs.FilterLemmas.{chain_more, filter_line-good}

-- ---- sizes

size_of-within : (least most : ℕ) (word : List ℕ) (n : ℕ) → size_of least most word ≡ Ok n → (least ≤ n) × (n ≤ most)
unfolding size_of
size_of-within least most word n e =
    let read = bind_ok (number_up_to (most + 1) word) _ n e in
    let second = guard_ok (ltb read.0 least || ltb most read.0) Limit (given read.0) n read.1.1 in
    let tests = or_false (ltb read.0 least) (ltb most read.0) second.0 in
    let same : read.0 ≡ n = ok_is read.0 n second.1 in
    let least-le : least ≤ read.0 = ltb-false _ _ tests.0 in
    let most-le : read.0 ≤ most = ltb-false _ _ tests.1 in
    (omega arith, omega arith)

-- ---- options of `server`

either_version : (first second : Bool) → IfSome (cond first (Some 1) (cond second (Some 2) None)) IsVersion
either_version true second = inl refl
either_version false true = inr refl
either_version false false = tt

header_version-good : (word : List ℕ) → IfSome (header_version word) IsVersion
unfolding header_version
header_version-good word = either_version (bytes_eq word (codes "send-proxy")) (bytes_eq word (codes "send-proxy-v2"))

-- the version that a manner has
abbrev IsGoodManner : Manner → Type 0
IsGoodManner manner = IfSome manner.0 IsVersion

option_alone : (asked : Option ℕ) (others : List (List ℕ)) (manner : Manner) → IfSome asked IsVersion → (named asked >>= λ v. no_more others >>= λ ended. Ok (Some v, false)) ≡ Ok manner → IsGoodManner manner
option_alone None others manner good e = absurd cc
option_alone (Some v) [] manner good e = subst IsGoodManner (ok_is (Some v, false) manner e) good
option_alone (Some v) (word ∷ others) manner good e = absurd cc

protocol-good : (words : List (List ℕ)) (manner : Manner) → protocol words ≡ Ok manner → IsGoodManner manner
unfolding protocol
protocol-good words manner e =
    let word = bind_ok (argument words) _ manner e in
    let test = passed (bytes_eq word.0.0 (codes "fcgi")) Argument (no_more word.0.1 >>= λ ended. Ok (None, true)) manner word.1.1 in
    let ended = bind_ok (no_more word.0.1) (λ ended. Ok (None, true)) manner test.1 in
    subst IsGoodManner (ok_is (None, true) manner ended.1.1) tt

server_options-good : (words : List (List ℕ)) (manner : Manner) → server_options words ≡ Ok manner → IsGoodManner manner
unfolding server_options
server_options-good [] manner e = subst IsGoodManner (ok_is (None, false) manner e) tt
server_options-good (word ∷ others) manner e = by (bytes_eq word (codes "proto")) e
  where
    by : (proto : Bool) → cond proto (protocol others) (named (header_version word) >>= λ v. no_more others >>= λ ended. Ok (Some v, false)) ≡ Ok manner → IsGoodManner manner
    by true is = protocol-good others manner is
    by false is = option_alone (header_version word) others manner (header_version-good word) is

-- ---- the configuration so far

-- what follows is sound, if it is not refused
abbrev Keeps : {E : Type 0} → Result Draft E → Type 0
Keeps (Ok draft) = IsSound draft
Keeps (Err refusal) = Unit {0}

keeps_bind : {A : Type 0} (r : Result A CfgKind) (f : A → Result Draft CfgKind) → ((x : A) → r ≡ Ok x → Keeps (f x)) → Keeps (r >>= f)
keeps_bind (Ok x) f keeps = keeps x refl
keeps_bind (Err kind) f keeps = tt

keeps_unless : (b : Bool) (kind : CfgKind) (x : Result Draft CfgKind) → Keeps x → Keeps (cond b (Err kind) x)
keeps_unless true kind x keeps = tt
keeps_unless false kind x keeps = keeps

keeps_if : (b : Bool) (kind : CfgKind) (x : Result Draft CfgKind) → (b ≡ true → Keeps x) → Keeps (cond b x (Err kind))
keeps_if true kind x keeps = keeps refl
keeps_if false kind x keeps = tt

begun_good : (begun : Bool) (rule : Option Rule) → IfSome rule (IsGoodRule lists.Request) → IfSome (cond begun rule None) (IsGoodRule lists.Request)
begun_good true rule good = good
begun_good false rule good = tt

-- with another application
with_application : {draft : Draft} {lines : ApplicationLines} → IsSound draft → IsSoundApplication lines → IsSound (record draft { application = lines })
with_application s application = record { bufsize = s.bufsize; bind = s.bind; server = s.server; send_proxy = s.send_proxy; application = application; request = s.request; response = s.response; after = s.after; param_rules = s.param_rules; req_filters = s.req_filters; res_filters = s.res_filters; forwarding = s.forwarding }

section_line-sound : (draft : Draft) (word : SectionWord) (arguments : List (List ℕ)) → IsSound draft → Keeps (section_line draft word arguments)
unfolding section_line
section_line-sound draft Global arguments s = keeps_bind (no_more arguments) _ (λ ended is. record { bufsize = s.bufsize; bind = s.bind; server = s.server; send_proxy = s.send_proxy; application = s.application; request = s.request; response = s.response; after = s.after; param_rules = s.param_rules; req_filters = s.req_filters; res_filters = s.res_filters; forwarding = s.forwarding })
section_line-sound draft Defaults arguments s = keeps_bind (no_more arguments) _ (λ ended is. record { bufsize = s.bufsize; bind = s.bind; server = s.server; send_proxy = s.send_proxy; application = s.application; request = s.request; response = s.response; after = s.after; param_rules = s.param_rules; req_filters = s.req_filters; res_filters = s.res_filters; forwarding = begun_good (has_listen draft.listen) draft.forwarding s.forwarding })
section_line-sound draft Listen arguments s =
    keeps_unless (has_listen draft.listen) Section _ (keeps_bind (argument arguments) _ (λ name is. keeps_bind (no_more name.1) _ (λ ended ends. record { bufsize = s.bufsize; bind = s.bind; server = s.server; send_proxy = s.send_proxy; application = s.application; request = s.request; response = s.response; after = s.after; param_rules = s.param_rules; req_filters = s.req_filters; res_filters = s.res_filters; forwarding = s.forwarding })))
section_line-sound draft Other arguments s = tt

bufsize_line-sound : (draft : Draft) (arguments : List (List ℕ)) → IsSound draft → Keeps (bufsize_line draft arguments)
unfolding bufsize_line
bufsize_line-sound draft arguments s =
    keeps_bind (argument arguments) _ (λ word is. keeps_bind (size_of 1024 262144 word.0) _ (λ size size-is. keeps_bind (no_more word.1) _ (λ ended ends.
    record { bufsize = size_of-within 1024 262144 word.0 size size-is; bind = s.bind; server = s.server; send_proxy = s.send_proxy; application = s.application; request = s.request; response = s.response; after = s.after; param_rules = s.param_rules; req_filters = s.req_filters; res_filters = s.res_filters; forwarding = s.forwarding })))

maxrewrite_line-sound : (draft : Draft) (arguments : List (List ℕ)) → IsSound draft → Keeps (maxrewrite_line draft arguments)
unfolding maxrewrite_line
maxrewrite_line-sound draft arguments s =
    keeps_bind (argument arguments) _ (λ word is. keeps_bind (number_up_to most_size word.0) _ (λ size size-is. keeps_bind (no_more word.1) _ (λ ended ends.
    record { bufsize = s.bufsize; bind = s.bind; server = s.server; send_proxy = s.send_proxy; application = s.application; request = s.request; response = s.response; after = s.after; param_rules = s.param_rules; req_filters = s.req_filters; res_filters = s.res_filters; forwarding = s.forwarding })))

mode_line-sound : (draft : Draft) (arguments : List (List ℕ)) → IsSound draft → Keeps (mode_line draft arguments)
unfolding mode_line
mode_line-sound draft arguments s =
    keeps_bind (argument arguments) _ (λ word is. keeps_if (bytes_eq word.0 (codes "http")) Argument _ (λ test. keeps_bind (no_more word.1) _ (λ ended ends. s)))

timeout_line-sound : (draft : Draft) (arguments : List (List ℕ)) → IsSound draft → Keeps (timeout_line draft arguments)
unfolding timeout_line
timeout_line-sound draft arguments s =
    keeps_bind (argument arguments) _ (λ word is. keeps_bind (named (timeout_of word.0)) _ (λ name name-is. keeps_bind (argument word.1) _ (λ second second-is. keeps_bind (time_of second.0) _ (λ time time-is. keeps_bind (no_more second.1) _ (λ ended ends.
    record { bufsize = s.bufsize; bind = s.bind; server = s.server; send_proxy = s.send_proxy; application = s.application; request = s.request; response = s.response; after = s.after; param_rules = s.param_rules; req_filters = s.req_filters; res_filters = s.res_filters; forwarding = s.forwarding })))))

bind_line-sound : (draft : Draft) (arguments : List (List ℕ)) → IsSound draft → Keeps (bind_line draft arguments)
unfolding bind_line
bind_line-sound draft arguments s =
    keeps_unless (is_some draft.bind) Argument _ (keeps_bind (argument arguments) _ (λ word is. keeps_bind (address_of word.0) _ (λ address address-is. keeps_bind (bind_options word.1) _ (λ accepts accepts-is.
    record { bufsize = s.bufsize; bind = address_of-port word.0 address address-is; server = s.server; send_proxy = s.send_proxy; application = s.application; request = s.request; response = s.response; after = s.after; param_rules = s.param_rules; req_filters = s.req_filters; res_filters = s.res_filters; forwarding = s.forwarding }))))

server_line-sound : (draft : Draft) (arguments : List (List ℕ)) → IsSound draft → Keeps (server_line draft arguments)
unfolding server_line
server_line-sound draft arguments s =
    keeps_unless (is_some draft.server) Argument _ (keeps_bind (argument arguments) _ (λ name name-is. keeps_bind (argument name.1) _ (λ word is. keeps_bind (server_address_of word.0) _ (λ address address-is. keeps_bind (server_options word.1) _ (λ version version-is.
    record { bufsize = s.bufsize; bind = s.bind; server = server_address_of-good word.0 address address-is; send_proxy = server_options-good word.1 version version-is; application = asked_sound draft.application version.1 s.application; request = s.request; response = s.response; after = s.after; param_rules = s.param_rules; req_filters = s.req_filters; res_filters = s.res_filters; forwarding = s.forwarding })))))

docroot_line-sound : (draft : Draft) (arguments : List (List ℕ)) → IsSound draft → Keeps (docroot_line draft arguments)
unfolding docroot_line
docroot_line-sound draft arguments s =
    keeps_unless (is_some draft.application.root) Argument _ (keeps_bind (last_path arguments) _ (λ root is.
    with_application s (record { root = last_path-good arguments root is; index = s.application.index; script = s.application.script; params = s.application.params })))

index_line-sound : (draft : Draft) (arguments : List (List ℕ)) → IsSound draft → Keeps (index_line draft arguments)
unfolding index_line
index_line-sound draft arguments s =
    keeps_unless (names_file draft.application) Argument _ (keeps_bind (last_path arguments) _ (λ file is.
    with_application s (record { root = s.application.root; index = last_path-good arguments file is; script = s.application.script; params = s.application.params })))

script_line-sound : (draft : Draft) (arguments : List (List ℕ)) → IsSound draft → Keeps (script_line draft arguments)
unfolding script_line
script_line-sound draft arguments s =
    keeps_unless (names_file draft.application) Argument _ (keeps_bind (script_of arguments) _ (λ file is.
    with_application s (record { root = s.application.root; index = s.application.index; script = script_of-good arguments file is; params = s.application.params })))

rules_push : (P : Rule → Type 0) (rules : List Rule) (rule : Rule) → AllByRecursion P rules → P rule → AllByRecursion P (rules ++ rule ∷ [])
rules_push P [] rule all good = (good, tt)
rules_push P (r ∷ rules) rule all good = (all.0, rules_push P rules rule all.1 good)

room_is : (draft : Draft) (direction : Rules) (tests : ℕ) → has_room draft direction tests ≡ true → length (rules_in draft direction) + 1 ≤ 1024
unfolding has_room
room_is draft direction tests room =
    let both = and_true (ltb (length (rules_in draft direction)) 1024) (leb (draft.tests + tests) 65536) room in
    grind (arith, nat_tests)

pub one_more : (direction : Rules) (rules : List Rule) (rule : Rule) → AreRules direction rules → IsGoodRule direction rule → length rules + 1 ≤ 1024
    → AreRules direction (rules ++ rule ∷ [])
one_more direction rules rule all good room =
    let len : length (rules ++ rule ∷ []) ≡ length rules + 1 = length-append rules (rule ∷ []) in
    let few : length (rules ++ rule ∷ []) ≤ 1024 = omega (arith, len, room) in
    record { each = rules_push (IsGoodRule direction) rules rule all.each good; few = few }

with_rule-sound : (draft : Draft) (direction : Rules) (rule : Rule) → IsSound draft → IsGoodRule direction rule → length (rules_in draft direction) + 1 ≤ 1024
    → IsSound (with_rule draft direction rule)
with_rule-sound draft lists.Request rule s good room =
    record { bufsize = s.bufsize; bind = s.bind; server = s.server; send_proxy = s.send_proxy; application = s.application; request = one_more lists.Request draft.request rule s.request good room; response = s.response; after = s.after; param_rules = s.param_rules; req_filters = s.req_filters; res_filters = s.res_filters; forwarding = s.forwarding }
with_rule-sound draft lists.Response rule s good room =
    record { bufsize = s.bufsize; bind = s.bind; server = s.server; send_proxy = s.send_proxy; application = s.application; request = s.request; response = one_more lists.Response draft.response rule s.response good room; after = s.after; param_rules = s.param_rules; req_filters = s.req_filters; res_filters = s.res_filters; forwarding = s.forwarding }
with_rule-sound draft lists.After rule s good room =
    record { bufsize = s.bufsize; bind = s.bind; server = s.server; send_proxy = s.send_proxy; application = s.application; request = s.request; response = s.response; after = one_more lists.After draft.after rule s.after good room; param_rules = s.param_rules; req_filters = s.req_filters; res_filters = s.res_filters; forwarding = s.forwarding }

rule_added-sound : (draft : Draft) (direction : Rules) (rule : Rule) → IsSound draft → IsGoodRule direction rule → Keeps (rule_added draft direction rule)
unfolding rule_added
rule_added-sound draft direction rule s good =
    keeps_if (has_room draft direction (tests_of rule.cond)) Limit _ (λ room.
    with_rule-sound draft direction rule s good (room_is draft direction (tests_of rule.cond) room))

param_added-sound : (draft : Draft) (name : List ℕ) (rule : Rule) → IsSound draft → IsParam name → IsGoodRule lists.Request rule → Keeps (param_added draft name rule)
unfolding param_added
param_added-sound draft name rule s named good =
    let names = with_name-good draft.application.params name s.application.params named in
    let lines : IsSoundApplication (record draft.application { params = with_name draft.application.params name }) = record { root = s.application.root; index = s.application.index; script = s.application.script; params = names } in
    keeps_if (has_param_room draft (tests_of rule.cond)) Limit _ (λ room.
    record { bufsize = s.bufsize; bind = s.bind; server = s.server; send_proxy = s.send_proxy; application = lines; request = s.request; response = s.response; after = s.after; param_rules = all_push (IsGoodRule lists.Request) draft.param_rules rule s.param_rules good; req_filters = s.req_filters; res_filters = s.res_filters; forwarding = s.forwarding })

filter_added-sound : (draft : Draft) (direction : Side) (filter : FilterSpec) → IsSound draft → IsFilter filter → Keeps (filter_added draft direction filter)
filter_added-sound draft Request filter s good =
    keeps_bind (with_filter draft.req_filters filter) _ (λ filters is.
    record { bufsize = s.bufsize; bind = s.bind; server = s.server; send_proxy = s.send_proxy; application = s.application; request = s.request; response = s.response; after = s.after; param_rules = s.param_rules; req_filters = chain_more draft.req_filters filter filters s.req_filters good is; res_filters = s.res_filters; forwarding = s.forwarding })
filter_added-sound draft Response filter s good =
    keeps_bind (with_filter draft.res_filters filter) _ (λ filters is.
    record { bufsize = s.bufsize; bind = s.bind; server = s.server; send_proxy = s.send_proxy; application = s.application; request = s.request; response = s.response; after = s.after; param_rules = s.param_rules; req_filters = s.req_filters; res_filters = chain_more draft.res_filters filter filters s.res_filters good is; forwarding = s.forwarding })

filter_setting-sound : (draft : Draft) (arguments : List (List ℕ)) → IsSound draft → Keeps (filter_setting draft arguments)
unfolding filter_setting
filter_setting-sound draft arguments s =
    keeps_bind (filter_line arguments) _ (λ taken is. filter_added-sound draft taken.0 taken.1 s (filter_line-good arguments taken is))

-- ---- what code leaves

-- what a call leaves is sound where its meaning is
leaves_sound : (result : Result (Unit {0}) LineRefusal) (left : Draft) (meaning : Result Draft CfgKind) → Leaves result left meaning → Keeps meaning → OnOk result (IsSound left)
leaves_sound (Ok done) left (Ok draft) leaves keeps = subst IsSound (ok_is draft left leaves) keeps
leaves_sound (Ok done) left (Err kind) leaves keeps = absurd cc
leaves_sound (Err refusal) left meaning leaves keeps = tt

pub section_left : (draft left : Draft) (word : SectionWord) (arguments : List (List ℕ)) (result : Result (Unit {0}) LineRefusal) → Leaves result left (section_line draft word arguments) → IsSound draft → OnOk result (IsSound left)
section_left draft left word arguments result leaves s = leaves_sound result left (section_line draft word arguments) leaves (section_line-sound draft word arguments s)

pub bufsize_left : (draft left : Draft) (arguments : List (List ℕ)) (result : Result (Unit {0}) LineRefusal) → Leaves result left (bufsize_line draft arguments) → IsSound draft → OnOk result (IsSound left)
bufsize_left draft left arguments result leaves s = leaves_sound result left (bufsize_line draft arguments) leaves (bufsize_line-sound draft arguments s)

pub maxrewrite_left : (draft left : Draft) (arguments : List (List ℕ)) (result : Result (Unit {0}) LineRefusal) → Leaves result left (maxrewrite_line draft arguments) → IsSound draft → OnOk result (IsSound left)
maxrewrite_left draft left arguments result leaves s = leaves_sound result left (maxrewrite_line draft arguments) leaves (maxrewrite_line-sound draft arguments s)

pub mode_left : (draft left : Draft) (arguments : List (List ℕ)) (result : Result (Unit {0}) LineRefusal) → Leaves result left (mode_line draft arguments) → IsSound draft → OnOk result (IsSound left)
mode_left draft left arguments result leaves s = leaves_sound result left (mode_line draft arguments) leaves (mode_line-sound draft arguments s)

pub timeout_left : (draft left : Draft) (arguments : List (List ℕ)) (result : Result (Unit {0}) LineRefusal) → Leaves result left (timeout_line draft arguments) → IsSound draft → OnOk result (IsSound left)
timeout_left draft left arguments result leaves s = leaves_sound result left (timeout_line draft arguments) leaves (timeout_line-sound draft arguments s)

pub bind_left : (draft left : Draft) (arguments : List (List ℕ)) (result : Result (Unit {0}) LineRefusal) → Leaves result left (bind_line draft arguments) → IsSound draft → OnOk result (IsSound left)
bind_left draft left arguments result leaves s = leaves_sound result left (bind_line draft arguments) leaves (bind_line-sound draft arguments s)

pub server_left : (draft left : Draft) (arguments : List (List ℕ)) (result : Result (Unit {0}) LineRefusal) → Leaves result left (server_line draft arguments) → IsSound draft → OnOk result (IsSound left)
server_left draft left arguments result leaves s = leaves_sound result left (server_line draft arguments) leaves (server_line-sound draft arguments s)

pub filter_left : (draft left : Draft) (arguments : List (List ℕ)) (result : Result (Unit {0}) LineRefusal) → Leaves result left (filter_setting draft arguments) → IsSound draft → OnOk result (IsSound left)
filter_left draft left arguments result leaves s = leaves_sound result left (filter_setting draft arguments) leaves (filter_setting-sound draft arguments s)

pub rule_left : (draft left : Draft) (direction : Rules) (rule : Rule) (result : Result (Unit {0}) LineRefusal) → Leaves result left (rule_added draft direction rule) → IsGoodRule direction rule → IsSound draft → OnOk result (IsSound left)
rule_left draft left direction rule result leaves good s = leaves_sound result left (rule_added draft direction rule) leaves (rule_added-sound draft direction rule s good)

pub docroot_left : (draft left : Draft) (arguments : List (List ℕ)) (result : Result (Unit {0}) LineRefusal) → Leaves result left (docroot_line draft arguments) → IsSound draft → OnOk result (IsSound left)
docroot_left draft left arguments result leaves s = leaves_sound result left (docroot_line draft arguments) leaves (docroot_line-sound draft arguments s)

pub index_left : (draft left : Draft) (arguments : List (List ℕ)) (result : Result (Unit {0}) LineRefusal) → Leaves result left (index_line draft arguments) → IsSound draft → OnOk result (IsSound left)
index_left draft left arguments result leaves s = leaves_sound result left (index_line draft arguments) leaves (index_line-sound draft arguments s)

pub script_left : (draft left : Draft) (arguments : List (List ℕ)) (result : Result (Unit {0}) LineRefusal) → Leaves result left (script_line draft arguments) → IsSound draft → OnOk result (IsSound left)
script_left draft left arguments result leaves s = leaves_sound result left (script_line draft arguments) leaves (script_line-sound draft arguments s)

pub param_left : (draft left : Draft) (name : List ℕ) (rule : Rule) (result : Result (Unit {0}) LineRefusal) → Leaves result left (param_added draft name rule) → IsParam name → IsGoodRule lists.Request rule → IsSound draft → OnOk result (IsSound left)
param_left draft left name rule result leaves named good s = leaves_sound result left (param_added draft name rule) leaves (param_added-sound draft name rule s named good)

pub forwarding_left : (draft left : Draft) (rule : Rule) → left ≡ with_forwarding draft rule → IsGoodRule lists.Request rule → IsSound draft → IsSound left
forwarding_left draft left rule is good s = by (has_effect draft) refl
  where
    by : (effect : Bool) → has_effect draft ≡ effect → IsSound left
    by true e = subst IsSound (sym (is ∙ ap (λ (b : Bool). cond b (record draft { forwarding = Some rule }) draft) e))
        (record { bufsize = s.bufsize; bind = s.bind; server = s.server; send_proxy = s.send_proxy; application = s.application; request = s.request; response = s.response; after = s.after; param_rules = s.param_rules; req_filters = s.req_filters; res_filters = s.res_filters; forwarding = good })
    by false e = subst IsSound (sym (is ∙ ap (λ (b : Bool). cond b (record draft { forwarding = Some rule }) draft) e)) s

pub acls_left : (draft : Draft) (lines : List AclLine) → IsSound draft → IsSound (record draft { acls = lines })
acls_left draft lines s = record { bufsize = s.bufsize; bind = s.bind; server = s.server; send_proxy = s.send_proxy; application = s.application; request = s.request; response = s.response; after = s.after; param_rules = s.param_rules; req_filters = s.req_filters; res_filters = s.res_filters; forwarding = s.forwarding }
