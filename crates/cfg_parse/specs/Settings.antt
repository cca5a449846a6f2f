-- Lines that begin a section, and settings without rules (Configuration Manual, sections 2 to 4).
use Rattle.std.specs.Prelude.{ℕ, List, [], ◌∷◌, Bool, true, false, not, ◌||◌, if◌then◌else◌, Option, Some, None, is_some, Result, Ok, Err, codes}
use Rattle.std.specs.Str.{bytes_eq}
use Rattle.http_model.specs.Sizes.{least_size, most_size}
use Rattle.http_rules.specs.declared.config.Timeouts.{Timeouts}
use Rattle.http_rules.specs.declared.rule.rule.Rule.{Rule}
use Rattle.cfg_parse.specs.declared.fault.CfgKind.{CfgKind}
use Rattle.cfg_parse.specs.declared.fault.CfgKind.TheVariants.{Section, Argument}
use Rattle.cfg_parse.specs.declared.keywords.SectionWord.{SectionWord}
use Rattle.cfg_parse.specs.declared.keywords.SectionWord.TheVariants.{Global, Defaults, Listen, Other}
use Rattle.cfg_parse.specs.declared.draft.Draft.{Draft}
use Rattle.cfg_parse.specs.declared.draft.Section.TheVariants as sections
use Rattle.cfg_parse.specs.declared.draft.Listen.TheVariants as listens
use Rattle.cfg_parse.specs.Reading.{◌>>=◌, argument, no_more}
use Rattle.cfg_parse.specs.declared.keywords.TimeoutName.{TimeoutName}
use Rattle.cfg_parse.specs.declared.keywords.TimeoutName.TheVariants as names
use Rattle.cfg_parse.specs.Keywords.{header_version, timeout_of}
use Rattle.cfg_parse.specs.Numbers.{number_up_to, size_of, time_of}
use Rattle.cfg_parse.specs.Addresses.{address_of, server_address_of}
use Rattle.cfg_parse.specs.Draft.{has_listen, is_listen, default_timeouts}

-- ---- lines that begin a section

-- a `defaults` section begins with what holds where no line says otherwise, whatever one before it said
abbrev pub begun_times : Draft → Timeouts
begun_times draft = if has_listen draft.listen then draft.timeouts else default_timeouts

-- the same of `option forwardfor`
abbrev pub begun_forwarding : Draft → Option Rule
begun_forwarding draft = if has_listen draft.listen then draft.forwarding else None

-- a section begins; `listen` has a name, and comes once
unfoldable pub section_line : Draft → SectionWord → List (List ℕ) → Result Draft CfgKind
section_line draft Global arguments = no_more arguments >>= λ ended. Ok (record draft { section = sections.Global })
section_line draft Defaults arguments = no_more arguments >>= λ ended. Ok (record draft { section = sections.Defaults; timeouts = begun_times draft; forwarding = begun_forwarding draft })
section_line draft Listen arguments =
    if has_listen draft.listen then Err Section
    else (argument arguments >>= λ name. no_more name.1 >>= λ ended. Ok (record draft { section = sections.Listen; listen = listens.Begun }))
section_line draft Other arguments = Err Section

-- ---- lines of a section

-- `tune.bufsize`: a later line replaces the earlier one
unfoldable pub bufsize_line : Draft → List (List ℕ) → Result Draft CfgKind
bufsize_line draft arguments = do
  word ← argument arguments
  size ← size_of least_size most_size word.0
  ended ← no_more word.1
  Ok (record draft { bufsize = Some size })

-- `tune.maxrewrite`, any number: a later line replaces the earlier one. Whether it suits the buffer is seen after all lines; what
-- is above the largest buffer suits none, and counts as that.
unfoldable pub maxrewrite_line : Draft → List (List ℕ) → Result Draft CfgKind
maxrewrite_line draft arguments = do
  word ← argument arguments
  size ← number_up_to most_size word.0
  ended ← no_more word.1
  Ok (record draft { maxrewrite = Some size })

-- `mode http`, which changes nothing
unfoldable pub mode_line : Draft → List (List ℕ) → Result Draft CfgKind
mode_line draft arguments = do
  word ← argument arguments
  if bytes_eq word.0 (codes "http") then (no_more word.1 >>= λ ended. Ok draft) else Err Argument

-- the times with this one in its place
abbrev pub with_time : Timeouts → TimeoutName → ℕ → Timeouts
with_time times names.Client time = record times { client = time }
with_time times names.Server time = record times { server = time }
with_time times names.Connect time = record times { connect = time }
with_time times names.HttpRequest time = record times { http_request = time }
with_time times names.HttpKeepAlive time = record times { http_keep_alive = time }
with_time times names.Idle time = times

-- `defaults` speaks of the sections behind it: behind a `listen`, of none
abbrev pub has_effect : Draft → Bool
has_effect draft = is_listen draft.section || not (has_listen draft.listen)

abbrev pub named : {A : Type 0} → Option A → Result A CfgKind
named (Some name) = Ok name
named None = Err Argument

-- `timeout NAME TIME`: a later line replaces the earlier one
unfoldable pub timeout_line : Draft → List (List ℕ) → Result Draft CfgKind
timeout_line draft arguments = do
  word ← argument arguments
  name ← named (timeout_of word.0)
  second ← argument word.1
  time ← time_of second.0
  ended ← no_more second.1
  Ok (record draft { timeouts = if has_effect draft then with_time draft.timeouts name time else draft.timeouts })

-- what may stand behind the address of `bind`: nothing, or `accept-proxy` alone, which it tells
unfoldable pub bind_options : List (List ℕ) → Result Bool CfgKind
bind_options [] = Ok false
bind_options (word ∷ others) = if bytes_eq word (codes "accept-proxy") then (no_more others >>= λ ended. Ok true) else Err Argument

-- `bind HOST:PORT` or `bind HOST:PORT accept-proxy`, once
unfoldable pub bind_line : Draft → List (List ℕ) → Result Draft CfgKind
bind_line draft arguments =
    if is_some draft.bind then Err Argument
    else (argument arguments >>= λ word. address_of word.0 >>= λ address. bind_options word.1 >>= λ accepts. Ok (record draft { bind = Some address; accept_proxy = accepts }))

-- the version of a header that the server is sent, where it is sent one, and whether it is an application
abbrev pub Manner : Type 0
Manner = Option ℕ × Bool

-- behind `proto`: `fcgi` alone
unfoldable pub protocol : List (List ℕ) → Result Manner CfgKind
protocol words = do
  word ← argument words
  if bytes_eq word.0 (codes "fcgi") then (no_more word.1 >>= λ ended. Ok (None, true)) else Err Argument

-- what may stand behind the address of `server`: nothing, one option that asks for a header, or `proto fcgi`
unfoldable pub server_options : List (List ℕ) → Result Manner CfgKind
server_options [] = Ok (None, false)
server_options (word ∷ others) =
    if bytes_eq word (codes "proto") then protocol others
    else (named (header_version word) >>= λ version. no_more others >>= λ ended. Ok (Some version, false))

-- `server NAME HOST:PORT` with `send-proxy`, `send-proxy-v2`, `proto fcgi` or nothing behind it, once
unfoldable pub server_line : Draft → List (List ℕ) → Result Draft CfgKind
server_line draft arguments =
    if is_some draft.server then Err Argument
    else (argument arguments >>= λ name. argument name.1 >>= λ word. server_address_of word.0 >>= λ address. server_options word.1 >>= λ manner. Ok (record draft { server = Some address; send_proxy = manner.0; application = record draft.application { is_asked = manner.1 } }))
