-- What of settings a text can say. What is read from a text is so; a value that was made otherwise need not be.
use Rattle.std.specs.Prelude.{ℕ, ◌^◌, Bool, true, false, not, ◌&&◌, ◌==◌, nat_le, nat_lt, List, [], ◌∷◌, if◌then◌else◌, Option, None, Some, is_some, is_none}
use Rattle.std.specs.List.{list_any, list_all}
use Rattle.uri_parts.specs.Authority.{is_ipv6}
use Rattle.fcgi_model.specs.Application.{Application}
use Rattle.body_filter.specs.declared.filter_spec.FilterSpec.{FilterSpec}
use Rattle.body_filter.specs.declared.filter_spec.FilterSpec.TheVariants.{Limit, Deny, Replace}
use Rattle.http_rules.specs.declared.config.Timeouts.{Timeouts}
use Rattle.http_rules.specs.declared.config.Config.{Config}
use Rattle.cfg_parse.specs.Limits.{most_digits}
use Rattle.cfg_parse.specs.Numbers.{most_time}
use Rattle.cfg_print.specs.Printed.{is_colon}

-- ---- addresses

abbrev pub is_closing_bracket : ℕ → Bool
is_closing_bracket b = b == 93

-- a bracket stands at the front
abbrev pub begins_bracketed : List ℕ → Bool
begins_bracketed [] = false
begins_bracketed (b ∷ bs) = b == 91

-- a host that an address can have: one with a colon is an IPv6 address, and stands in brackets; no other begins with one
unfoldable pub is_spelled_host : List ℕ → Bool
is_spelled_host host = if list_any is_colon host then is_ipv6 host && not (list_any is_closing_bracket host) else not (begins_bracketed host)

-- ---- times

-- a time that is no longer than the longest
abbrev pub is_time : ℕ → Bool
is_time time = nat_le time most_time

unfoldable pub are_times : Timeouts → Bool
are_times times = is_time times.client && (is_time times.server && (is_time times.connect && (is_time times.http_request && is_time times.http_keep_alive)))

-- ---- how a server is asked

-- an application is sent no header of the PROXY protocol, and has one file at most
unfoldable pub is_manner : Option Application → (send_proxy : Option ℕ) → Bool
is_manner None send_proxy = true
is_manner (Some app) send_proxy = is_none send_proxy && not (is_some app.index && is_some app.script)

-- ---- filters

-- a filter whose number is not too long
abbrev pub is_spelled_filter : FilterSpec → Bool
is_spelled_filter (Limit most) = nat_lt most (10 ^ most_digits)
is_spelled_filter (Deny needle) = true
is_spelled_filter (Replace from to) = true

abbrev pub are_spelled_filters : List FilterSpec → Bool
are_spelled_filters chain = list_all is_spelled_filter chain

-- ---- the whole

-- settings that a text can say
unfoldable pub are_spelled_settings : Config → Bool
are_spelled_settings config =
    (is_spelled_host config.bind.host && is_spelled_host config.server.host) && (are_times config.timeouts && is_manner config.application config.send_proxy)
