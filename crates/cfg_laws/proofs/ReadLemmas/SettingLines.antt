-- What each line leaves of settings can be said again.
use Rattle.std.proofs.Common.{◌≡◌, ℕ, ◌+◌, ◌≤◌, inl, inr, Bool, true, false, cond, List, [], ◌∷◌, Result, Ok, refl, ap}
use Rattle.std.proofs.lemmas.Bool.{and_parts, or_parts, ltb-false}
use Rattle.std.specs.Prelude.{◌&&◌, ◌||◌, not, nat_lt, Some, None, is_some, codes, Option, IfSome}
use Rattle.std.specs.Str.{bytes_eq}
use Rattle.http_model.specs.Sizes.{least_size, most_size}
use Rattle.body_filter.specs.declared.filter_spec.FilterSpec.{FilterSpec}
use Rattle.http_rules.specs.Valid.{IsVersion}
use Rattle.http_rules.specs.declared.config.Timeouts.{Timeouts}
use Rattle.http_rules.specs.declared.rule.rule.Rule.{Rule}
use Rattle.cfg_expr.specs.declared.side.Side.{Side}
use Rattle.cfg_expr.specs.declared.side.Side.TheVariants.{Request, Response}
use Rattle.cfg_parse.specs.declared.fault.CfgKind.{CfgKind}
use Rattle.cfg_parse.specs.declared.fault.CfgKind.TheVariants.{Section, Argument, Limit}
use Rattle.cfg_parse.specs.declared.keywords.SectionWord.{SectionWord}
use Rattle.cfg_parse.specs.declared.keywords.SectionWord.TheVariants.{Global, Defaults, Listen, Other}
use Rattle.cfg_parse.specs.declared.keywords.TimeoutName.{TimeoutName}
use Rattle.cfg_parse.specs.declared.keywords.TimeoutName.TheVariants as names
use Rattle.cfg_parse.specs.declared.draft.Draft.{Draft}
use Rattle.cfg_parse.specs.Reading.{argument, no_more}
use Rattle.cfg_parse.specs.Keywords.{header_version, timeout_of}
use Rattle.cfg_parse.specs.Draft.{has_listen, default_timeouts, start}
use Rattle.cfg_parse.specs.Numbers.{number_up_to, size_of, time_of}
use Rattle.cfg_parse.specs.Addresses.{address_of, server_address_of}
use Rattle.cfg_parse.specs.Settings.{section_line, bufsize_line, maxrewrite_line, mode_line, with_time, has_effect, named, timeout_line, bind_options, bind_line, Manner, protocol, server_options, server_line}
use Rattle.cfg_parse.specs.Applications.{last_path, docroot_line, index_line, script_of, script_line}
use Rattle.cfg_parse.specs.Filters.{with_filter, filter_line, filter_added, filter_setting}
use Rattle.cfg_parse.specs.Whole.{ends_rules}
use Rattle.cfg_laws.specs.SpelledSettings.{is_time, are_times}
use Rattle.cfg_laws.specs.Laws.ReadSettings.{CanSayManner, CanSayFilter, CanSaySettings}
use Rattle.cfg_laws.proofs.ReadLemmas.Steps.{GivesSo, so_given}
use Rattle.cfg_laws.proofs.ReadLemmas.SettingSteps.{so_step, so_unless, so_if, so_either, either_so}
use Rattle.cfg_laws.proofs.ReadLemmas.Addresses.{addresses_spelled, servers_spelled}
use Rattle.cfg_laws.proofs.ReadLemmas.SettingValues.{times_spelled, filters_spelled, paths_spelled, scripts_spelled}
use Rattle.cfg_laws.proofs.ReadLemmas.Chains.{none_said, more_said}

-- what a line leaves
abbrev pub Left : Result Draft CfgKind → Type 0
Left told = GivesSo CanSaySettings told

-- ---- times

abbrev AreTimes : Timeouts → Type 0
AreTimes times = are_times times ≡ true

record Times (times : Timeouts) : Type 0 where
  pub client : is_time times.client ≡ true
  pub server : is_time times.server ≡ true
  pub connect : is_time times.connect ≡ true
  pub http_request : is_time times.http_request ≡ true
  pub http_keep_alive : is_time times.http_keep_alive ≡ true

five : (a b c d e : Bool) → a ≡ true → b ≡ true → c ≡ true → d ≡ true → e ≡ true → (a && (b && (c && (d && e)))) ≡ true
five true true true true true x y z v w = refl
five false b c d e x y z v w = x
five true false c d e x y z v w = y
five true true false d e x y z v w = z
five true true true false e x y z v w = v
five true true true true false x y z v w = w

times_from : (times : Timeouts) → Times times → AreTimes times
unfolding are_times
times_from times t =
    five (is_time times.client) (is_time times.server) (is_time times.connect) (is_time times.http_request) (is_time times.http_keep_alive)
    t.client t.server t.connect t.http_request t.http_keep_alive

times_to : (times : Timeouts) → AreTimes times → Times times
unfolding are_times
times_to times h =
    let of_last : Bool = is_time times.http_request && is_time times.http_keep_alive in
    let of_third : Bool = is_time times.connect && of_last in
    let of_later : Bool = is_time times.server && of_third in
    let one = and_parts (is_time times.client) of_later h in
    let two = and_parts (is_time times.server) of_third one.1 in
    let three = and_parts (is_time times.connect) of_last two.1 in
    let four = and_parts (is_time times.http_request) (is_time times.http_keep_alive) three.1 in
    record { client = one.0; server = two.0; connect = three.0; http_request = four.0; http_keep_alive = four.1 }

one_time : (times : Timeouts) (name : TimeoutName) (time : ℕ) → AreTimes times → is_time time ≡ true → AreTimes (with_time times name time)
one_time times names.Client time h is = let t = times_to times h in times_from (record times { client = time }) (record { client = is; server = t.server; connect = t.connect; http_request = t.http_request; http_keep_alive = t.http_keep_alive })
one_time times names.Server time h is = let t = times_to times h in times_from (record times { server = time }) (record { client = t.client; server = is; connect = t.connect; http_request = t.http_request; http_keep_alive = t.http_keep_alive })
one_time times names.Connect time h is = let t = times_to times h in times_from (record times { connect = time }) (record { client = t.client; server = t.server; connect = is; http_request = t.http_request; http_keep_alive = t.http_keep_alive })
one_time times names.HttpRequest time h is = let t = times_to times h in times_from (record times { http_request = time }) (record { client = t.client; server = t.server; connect = t.connect; http_request = is; http_keep_alive = t.http_keep_alive })
one_time times names.HttpKeepAlive time h is = let t = times_to times h in times_from (record times { http_keep_alive = time }) (record { client = t.client; server = t.server; connect = t.connect; http_request = t.http_request; http_keep_alive = is })
one_time times names.Idle time h is = h

default_times : AreTimes default_timeouts
unfolding are_times
default_times = refl

pub start_said : CanSaySettings start
start_said =
    record { bufsize = tt; times = default_times; bind = tt; server = tt; manner = record { version = tt; alone = refl }; files = record { below = tt; behind = tt; alone = tt; one = refl }; names = tt; sets = refl; forwarding = tt; requests = none_said; responses = none_said }

-- ---- lines that begin a section

-- the rule of `option forwardfor` ends no rules
abbrev EndsNone : Option Rule → Type 0
EndsNone rule = IfSome rule (λ r. ends_rules r ≡ false)

pub section_said : (draft : Draft) (word : SectionWord) (arguments : List (List ℕ)) → CanSaySettings draft → Left (section_line draft word arguments)
unfolding section_line
section_said draft Global arguments c = so_step CanSaySettings (no_more arguments) _ (λ ended is. record { bufsize = c.bufsize; times = c.times; bind = c.bind; server = c.server; manner = c.manner; files = c.files; names = c.names; sets = c.sets; forwarding = c.forwarding; requests = c.requests; responses = c.responses })
section_said draft Defaults arguments c =
    so_step CanSaySettings (no_more arguments) _
    (λ ended is. record { bufsize = c.bufsize; times = either_so AreTimes (has_listen draft.listen) draft.timeouts default_timeouts c.times default_times; bind = c.bind; server = c.server; manner = c.manner; files = c.files; names = c.names; sets = c.sets; forwarding = either_so EndsNone (has_listen draft.listen) draft.forwarding None c.forwarding tt; requests = c.requests; responses = c.responses })
section_said draft Listen arguments c =
    so_unless CanSaySettings (has_listen draft.listen) Section _
    (λ first. so_step CanSaySettings (argument arguments) _
    (λ name a. so_step CanSaySettings (no_more name.1) _ (λ ended b. record { bufsize = c.bufsize; times = c.times; bind = c.bind; server = c.server; manner = c.manner; files = c.files; names = c.names; sets = c.sets; forwarding = c.forwarding; requests = c.requests; responses = c.responses })))
section_said draft Other arguments c = tt

-- ---- sizes, and the mode

-- a size of the buffer
abbrev IsSize : ℕ → Type 0
IsSize n = (least_size ≤ n) × (n ≤ most_size)

size_said : (word : List ℕ) → GivesSo IsSize (size_of least_size most_size word)
unfolding size_of
size_said word =
    so_step IsSize (number_up_to (most_size + 1) word) _
    (λ n is. so_unless IsSize (nat_lt n least_size || nat_lt most_size n) Limit (Ok n)
    (λ h. let both = or_parts (nat_lt n least_size) (nat_lt most_size n) h in (ltb-false n least_size both.0, ltb-false most_size n both.1)))

pub bufsize_said : (draft : Draft) (arguments : List (List ℕ)) → CanSaySettings draft → Left (bufsize_line draft arguments)
unfolding bufsize_line
bufsize_said draft arguments c =
    so_step CanSaySettings (argument arguments) _
    (λ word a. so_step CanSaySettings (size_of least_size most_size word.0) _
    (λ size b. so_step CanSaySettings (no_more word.1) _
    (λ ended d. record { bufsize = so_given IsSize (size_of least_size most_size word.0) size (size_said word.0) b; times = c.times; bind = c.bind; server = c.server; manner = c.manner; files = c.files; names = c.names; sets = c.sets; forwarding = c.forwarding; requests = c.requests; responses = c.responses })))

pub maxrewrite_said : (draft : Draft) (arguments : List (List ℕ)) → CanSaySettings draft → Left (maxrewrite_line draft arguments)
unfolding maxrewrite_line
maxrewrite_said draft arguments c =
    so_step CanSaySettings (argument arguments) _
    (λ word a. so_step CanSaySettings (number_up_to most_size word.0) _
    (λ size b. so_step CanSaySettings (no_more word.1) _ (λ ended d. record { bufsize = c.bufsize; times = c.times; bind = c.bind; server = c.server; manner = c.manner; files = c.files; names = c.names; sets = c.sets; forwarding = c.forwarding; requests = c.requests; responses = c.responses })))

pub mode_said : (draft : Draft) (arguments : List (List ℕ)) → CanSaySettings draft → Left (mode_line draft arguments)
unfolding mode_line
mode_said draft arguments c =
    so_step CanSaySettings (argument arguments) _
    (λ word a. so_if CanSaySettings (bytes_eq word.0 (codes "http")) Argument _
    (λ http. so_step CanSaySettings (no_more word.1) _ (λ ended b. c)))

pub timeout_said : (draft : Draft) (arguments : List (List ℕ)) → CanSaySettings draft → Left (timeout_line draft arguments)
unfolding timeout_line
timeout_said draft arguments c =
    so_step CanSaySettings (argument arguments) _
    (λ word a. so_step CanSaySettings (named (timeout_of word.0)) _
    (λ name b. so_step CanSaySettings (argument word.1) _
    (λ second d. so_step CanSaySettings (time_of second.0) _
    (λ time e. so_step CanSaySettings (no_more second.1) _
    (λ ended f. record { bufsize = c.bufsize; times = either_so AreTimes (has_effect draft) (with_time draft.timeouts name time) draft.timeouts (one_time draft.timeouts name time c.times (times_spelled second.0 time e)) c.times; bind = c.bind; server = c.server; manner = c.manner; files = c.files; names = c.names; sets = c.sets; forwarding = c.forwarding; requests = c.requests; responses = c.responses })))))

-- ---- addresses

pub bind_said : (draft : Draft) (arguments : List (List ℕ)) → CanSaySettings draft → Left (bind_line draft arguments)
unfolding bind_line
bind_said draft arguments c =
    so_unless CanSaySettings (is_some draft.bind) Argument _
    (λ first. so_step CanSaySettings (argument arguments) _
    (λ word a. so_step CanSaySettings (address_of word.0) _
    (λ address b. so_step CanSaySettings (bind_options word.1) _
    (λ accepts d. record { bufsize = c.bufsize; times = c.times; bind = addresses_spelled word.0 address b; server = c.server; manner = c.manner; files = c.files; names = c.names; sets = c.sets; forwarding = c.forwarding; requests = c.requests; responses = c.responses }))))

-- what an option tells of how a server is asked
abbrev MannerSaid : Manner → Type 0
MannerSaid manner = CanSayManner manner.0 manner.1

version_if : (first second : Bool) → GivesSo IsVersion (named (cond first (Some 1) (cond second (Some 2) None)))
version_if true second = inl refl
version_if false true = inr refl
version_if false false = tt

version_said : (word : List ℕ) → GivesSo IsVersion (named (header_version word))
unfolding header_version
version_said word = version_if (bytes_eq word (codes "send-proxy")) (bytes_eq word (codes "send-proxy-v2"))

protocol_said : (words : List (List ℕ)) → GivesSo MannerSaid (protocol words)
unfolding protocol
protocol_said words =
    so_step MannerSaid (argument words) _
    (λ word a. so_if MannerSaid (bytes_eq word.0 (codes "fcgi")) Argument _
    (λ fcgi. so_step MannerSaid (no_more word.1) _ (λ ended b. record { version = tt; alone = refl })))

options_said : (words : List (List ℕ)) → GivesSo MannerSaid (server_options words)
unfolding server_options
options_said [] = record { version = tt; alone = refl }
options_said (word ∷ others) =
    so_either MannerSaid (bytes_eq word (codes "proto")) (protocol others) _ (λ proto. protocol_said others)
    (λ other. so_step MannerSaid (named (header_version word)) _
    (λ version a. so_step MannerSaid (no_more others) _
    (λ ended b. record { version = so_given IsVersion (named (header_version word)) version (version_said word) a; alone = refl })))

pub server_said : (draft : Draft) (arguments : List (List ℕ)) → CanSaySettings draft → Left (server_line draft arguments)
unfolding server_line
server_said draft arguments c =
    so_unless CanSaySettings (is_some draft.server) Argument _
    (λ first. so_step CanSaySettings (argument arguments) _
    (λ name a. so_step CanSaySettings (argument name.1) _
    (λ word b. so_step CanSaySettings (server_address_of word.0) _
    (λ address d. so_step CanSaySettings (server_options word.1) _
    (λ manner e. record { bufsize = c.bufsize; times = c.times; bind = c.bind; server = servers_spelled word.0 address d; manner = so_given MannerSaid (server_options word.1) manner (options_said word.1) e; files = c.files; names = c.names; sets = c.sets; forwarding = c.forwarding; requests = c.requests; responses = c.responses })))))

-- ---- files of an application

pub docroot_said : (draft : Draft) (arguments : List (List ℕ)) → CanSaySettings draft → Left (docroot_line draft arguments)
unfolding docroot_line
docroot_said draft arguments c =
    let before = c.files in
    so_unless CanSaySettings (is_some draft.application.root) Argument _
    (λ first. so_step CanSaySettings (last_path arguments) _
    (λ root a. record { bufsize = c.bufsize; times = c.times; bind = c.bind; server = c.server; manner = c.manner; files = record { below = paths_spelled arguments root a; behind = before.behind; alone = before.alone; one = before.one }; names = c.names; sets = c.sets; forwarding = c.forwarding; requests = c.requests; responses = c.responses }))

pub index_said : (draft : Draft) (arguments : List (List ℕ)) → CanSaySettings draft → Left (index_line draft arguments)
unfolding index_line
index_said draft arguments c =
    let before = c.files in
    so_unless CanSaySettings (is_some draft.application.index || is_some draft.application.script) Argument _
    (λ first. so_step CanSaySettings (last_path arguments) _
    (λ file a. let none = or_parts (is_some draft.application.index) (is_some draft.application.script) first in
    record { bufsize = c.bufsize; times = c.times; bind = c.bind; server = c.server; manner = c.manner; files = record { below = before.below; behind = paths_spelled arguments file a; alone = before.alone; one = ap not none.1 }; names = c.names; sets = c.sets; forwarding = c.forwarding; requests = c.requests; responses = c.responses }))

pub script_said : (draft : Draft) (arguments : List (List ℕ)) → CanSaySettings draft → Left (script_line draft arguments)
unfolding script_line
script_said draft arguments c =
    let before = c.files in
    so_unless CanSaySettings (is_some draft.application.index || is_some draft.application.script) Argument _
    (λ first. so_step CanSaySettings (script_of arguments) _
    (λ file a. let none = or_parts (is_some draft.application.index) (is_some draft.application.script) first in
    record { bufsize = c.bufsize; times = c.times; bind = c.bind; server = c.server; manner = c.manner; files = record { below = before.below; behind = before.behind; alone = scripts_spelled arguments file a; one = ap (λ t. not (t && true)) none.0 }; names = c.names; sets = c.sets; forwarding = c.forwarding; requests = c.requests; responses = c.responses }))

-- ---- filters

added_said : (draft : Draft) (side : Side) (filter : FilterSpec) → CanSaySettings draft → CanSayFilter filter → Left (filter_added draft side filter)
added_said draft Request filter c is =
    so_step CanSaySettings (with_filter draft.req_filters filter) _ (λ filters made. record { bufsize = c.bufsize; times = c.times; bind = c.bind; server = c.server; manner = c.manner; files = c.files; names = c.names; sets = c.sets; forwarding = c.forwarding; requests = more_said draft.req_filters filter filters c.requests is made; responses = c.responses })
added_said draft Response filter c is =
    so_step CanSaySettings (with_filter draft.res_filters filter) _ (λ filters made. record { bufsize = c.bufsize; times = c.times; bind = c.bind; server = c.server; manner = c.manner; files = c.files; names = c.names; sets = c.sets; forwarding = c.forwarding; requests = c.requests; responses = more_said draft.res_filters filter filters c.responses is made })

pub filter_said : (draft : Draft) (arguments : List (List ℕ)) → CanSaySettings draft → Left (filter_setting draft arguments)
unfolding filter_setting
filter_said draft arguments c =
    so_step CanSaySettings (filter_line arguments) _ (λ taken is. added_said draft taken.0 taken.1 c (filters_spelled arguments taken is))
