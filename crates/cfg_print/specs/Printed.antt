-- The canonical text of a configuration: the same of configurations that are the same, each default written, in one order (Configuration Manual, sections 2 to 4).
use Rattle.std.specs.Prelude.{ℕ, List, [], ◌∷◌, ◌++◌, take, Bool, true, false, ◌==◌, if◌then◌else◌, Option, Some, None, codes}
use Rattle.std.specs.List.{list_any, flat_map}
use Rattle.std.specs.Fmt.{decimal}
use Rattle.http_model.specs.declared.Limits.{Limits}
use Rattle.px_link.specs.declared.address.Address.{Address}
use Rattle.fcgi_model.specs.Application.{Application}
use Rattle.body_filter.specs.declared.filter_spec.FilterSpec.{FilterSpec}
use Rattle.body_filter.specs.declared.filter_spec.FilterSpec.TheVariants as filters
use Rattle.acl_eval.specs.declared.condition.Term.{Term}
use Rattle.http_rules.specs.declared.config.Timeouts.{Timeouts}
use Rattle.http_rules.specs.declared.config.Config.{Config}
use Rattle.cfg_print.specs.Words.{line_text}
use Rattle.cfg_print.specs.Table.{terms_in, keys_from, table_text}
use Rattle.cfg_print.specs.Rules.{rules_text}
use Rattle.cfg_print.specs.Pairs.{pair_names, plain_count, value_rules, pairs_text}
use Rattle.http_rules.specs.declared.rule.rule.Rule.{Rule}

-- ---- addresses

abbrev pub is_colon : ℕ → Bool
is_colon b = b == 58

-- a host, in brackets where it is an IPv6 address (RFC 3986 section 3.2.2)
abbrev pub host_text : List ℕ → List ℕ
host_text host = if list_any is_colon host then 91 ∷ host ++ 93 ∷ [] else host

-- HOST:PORT
unfoldable pub address_text : Address → List ℕ
address_text address = host_text address.host ++ 58 ∷ decimal address.port

-- ---- settings

abbrev pub accept_words : Bool → List (List ℕ)
accept_words true = codes "accept-proxy" ∷ []
accept_words false = []

abbrev pub bind_line : Config → List ℕ
bind_line config = line_text (codes "bind" ∷ address_text config.bind ∷ accept_words config.accept_proxy)

-- the header that the server is sent; there are two versions
abbrev pub header_words : Option ℕ → List (List ℕ)
header_words None = []
header_words (Some version) = if version == 1 then codes "send-proxy" ∷ [] else codes "send-proxy-v2" ∷ []

-- how the server is asked
abbrev pub manner_words : Option Application → Option ℕ → List (List ℕ)
manner_words (Some app) send_proxy = codes "proto" ∷ codes "fcgi" ∷ []
manner_words None send_proxy = header_words send_proxy

abbrev pub server_line : Config → List ℕ
server_line config =
    line_text (codes "server" ∷ codes "app" ∷ address_text config.server ∷ manner_words config.application config.send_proxy)

-- a time in milliseconds
abbrev pub time_line : (name : List ℕ) → ℕ → List ℕ
time_line name time = line_text (codes "timeout" ∷ name ∷ (decimal time ++ codes "ms") ∷ [])

unfoldable pub times_text : Timeouts → List ℕ
times_text times =
    time_line (codes "client") times.client ++ time_line (codes "server") times.server ++ time_line (codes "connect") times.connect
    ++ time_line (codes "http-request") times.http_request ++ time_line (codes "http-keep-alive") times.http_keep_alive

-- a path, where there is one
abbrev pub path_line : (name : List ℕ) → Option (List ℕ) → List ℕ
path_line name None = []
path_line name (Some path) = line_text (name ∷ path ∷ [])

-- what an application is
unfoldable pub application_text : Option Application → List ℕ
application_text None = []
application_text (Some app) =
    line_text (codes "fcgi-docroot" ∷ app.root ∷ []) ++ path_line (codes "fcgi-index") app.index ++ path_line (codes "fcgi-script") app.script

-- ---- filters

unfoldable pub filter_line : (side : List ℕ) → FilterSpec → List ℕ
filter_line side (filters.Limit most) = line_text (codes "filter" ∷ codes "body-limit" ∷ side ∷ decimal most ∷ [])
filter_line side (filters.Deny needle) = line_text (codes "filter" ∷ codes "body-deny" ∷ side ∷ needle ∷ [])
filter_line side (filters.Replace from to) = line_text (codes "filter" ∷ codes "body-replace" ∷ side ∷ from ∷ to ∷ [])

abbrev pub filters_text : (side : List ℕ) → List FilterSpec → List ℕ
filters_text side chain = flat_map (filter_line side) chain

-- ---- sections

unfoldable pub global_text : Limits → List ℕ
global_text limits =
    codes "global\n" ++ line_text (codes "tune.bufsize" ∷ decimal limits.bufsize ∷ []) ++ line_text (codes "tune.maxrewrite" ∷ decimal limits.maxrewrite ∷ [])

-- what is said without rules
unfoldable pub settings_text : Config → List ℕ
settings_text config =
    codes "\nlisten proxy\n" ++ line_text (codes "mode" ∷ codes "http" ∷ []) ++ bind_line config ++ server_line config ++ times_text config.timeouts
    ++ application_text config.application

-- ---- rules

-- the rules on requests that stand in front of those of pairs
abbrev pub plain_rules : Config → List Rule
plain_rules config = take (plain_count (pair_names config.application) config.request) config.request

-- those that tell the values of pairs
abbrev pub pair_rules : Config → List Rule
pair_rules config = value_rules (pair_names config.application) config.request

-- the terms of all rules whose lines are written, in the order of these lines
unfoldable pub all_terms : Config → List Term
all_terms config = terms_in (plain_rules config) ++ terms_in config.response ++ terms_in config.after ++ terms_in (pair_rules config)

-- what tells their tests apart, each once
abbrev pub keys_of : Config → List (List ℕ)
keys_of config = keys_from [] (all_terms config)

-- lines of rules, by the names of a table
unfoldable pub ruling_text : (keys : List (List ℕ)) → Config → List ℕ
ruling_text keys config =
    rules_text keys (codes "http-request") (plain_rules config) ++ rules_text keys (codes "http-response") config.response
    ++ rules_text keys (codes "http-after-response") config.after ++ pairs_text keys (pair_names config.application) (pair_rules config)

-- ---- the whole

-- the canonical text of a configuration
unfoldable pub config_text : Config → List ℕ
config_text config =
    global_text config.limits ++ settings_text config ++ table_text [] (all_terms config) ++ ruling_text (keys_of config) config
    ++ filters_text (codes "req") config.req_filters ++ filters_text (codes "res") config.res_filters
