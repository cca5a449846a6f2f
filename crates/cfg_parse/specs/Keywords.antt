-- The words that a configuration knows by name: the table of all settings, each with the sections in which it may stand.
use Rattle.std.specs.Prelude.{ℕ, List, Bool, ◌||◌, if◌then◌else◌, Option, Some, None, codes}
use Rattle.std.specs.Str.{bytes_eq}
use Rattle.cfg_parse.specs.declared.keywords.FirstWord.{FirstWord}
use Rattle.cfg_parse.specs.declared.keywords.FirstWord.TheVariants.{Begins, Sets, Unknown}
use Rattle.cfg_parse.specs.declared.keywords.SectionWord.{SectionWord}
use Rattle.cfg_parse.specs.declared.keywords.SectionWord.TheVariants.{Global, Defaults, Listen, Other}
use Rattle.cfg_parse.specs.declared.keywords.Setting.{Setting}
use Rattle.cfg_parse.specs.declared.keywords.Setting.TheVariants.{Bufsize, Maxrewrite, Mode, Timeout, Options, Bind, Server, Acl, HttpRequest, HttpResponse, HttpAfterResponse, Filter, Docroot, Index, Script, Param}
use Rattle.cfg_parse.specs.declared.keywords.TimeoutName.{TimeoutName}
use Rattle.cfg_parse.specs.declared.keywords.TimeoutName.TheVariants as names
use Rattle.cfg_parse.specs.declared.keywords.Places.{Places}
use Rattle.cfg_parse.specs.declared.keywords.Places.TheVariants.{InGlobal, InBoth, InListen}

-- the words that begin a section
unfoldable pub section_word : List ℕ → Option SectionWord
section_word word =
    if bytes_eq word (codes "global") then Some Global
    else (if bytes_eq word (codes "defaults") then Some Defaults
    else (if bytes_eq word (codes "listen") then Some Listen
    else (if bytes_eq word (codes "frontend") || bytes_eq word (codes "backend") then Some Other
    else None)))

-- the settings that stand outside of `listen` too, and where
unfoldable pub general_setting : List ℕ → Option (Setting × Places)
general_setting word =
    if bytes_eq word (codes "tune.bufsize") then Some (Bufsize, InGlobal)
    else (if bytes_eq word (codes "tune.maxrewrite") then Some (Maxrewrite, InGlobal)
    else (if bytes_eq word (codes "mode") then Some (Mode, InBoth)
    else (if bytes_eq word (codes "timeout") then Some (Timeout, InBoth)
    else (if bytes_eq word (codes "option") then Some (Options, InBoth)
    else None))))

-- the settings of `listen` alone
unfoldable pub listen_setting : List ℕ → Option Setting
listen_setting word =
    if bytes_eq word (codes "bind") then Some Bind
    else (if bytes_eq word (codes "server") then Some Server
    else (if bytes_eq word (codes "acl") then Some Acl
    else (if bytes_eq word (codes "http-request") then Some HttpRequest
    else (if bytes_eq word (codes "http-response") then Some HttpResponse
    else (if bytes_eq word (codes "http-after-response") then Some HttpAfterResponse
    else (if bytes_eq word (codes "filter") then Some Filter
    else None))))))

-- those of `listen` that say how an application is asked
unfoldable pub application_setting : List ℕ → Option Setting
application_setting word =
    if bytes_eq word (codes "fcgi-docroot") then Some Docroot
    else (if bytes_eq word (codes "fcgi-index") then Some Index
    else (if bytes_eq word (codes "fcgi-script") then Some Script
    else (if bytes_eq word (codes "fcgi-param") then Some Param
    else None)))

abbrev pub or_setting : Option Setting → Option Setting → Option Setting
or_setting (Some setting) other = Some setting
or_setting None other = other

abbrev pub as_listen_setting : Option Setting → FirstWord
as_listen_setting (Some setting) = Sets setting InListen
as_listen_setting None = Unknown

abbrev pub as_setting : Option (Setting × Places) → FirstWord → FirstWord
as_setting (Some row) other = Sets row.0 row.1
as_setting None other = other

abbrev pub as_section : Option SectionWord → FirstWord → FirstWord
as_section (Some word) other = Begins word
as_section None other = other

-- what a first word says of its line
abbrev pub first_word_of : List ℕ → FirstWord
first_word_of word =
    as_section (section_word word) (as_setting (general_setting word) (as_listen_setting (or_setting (listen_setting word) (application_setting word))))

-- the options of `server`, each by the version of the header of the PROXY protocol that it asks for
unfoldable pub header_version : List ℕ → Option ℕ
header_version word =
    if bytes_eq word (codes "send-proxy") then Some 1
    else (if bytes_eq word (codes "send-proxy-v2") then Some 2
    else None)

-- the timeouts that have an effect, by name
unfoldable pub timed_wait : List ℕ → Option TimeoutName
timed_wait word =
    if bytes_eq word (codes "client") then Some names.Client
    else (if bytes_eq word (codes "server") then Some names.Server
    else (if bytes_eq word (codes "connect") then Some names.Connect
    else (if bytes_eq word (codes "http-request") then Some names.HttpRequest
    else (if bytes_eq word (codes "http-keep-alive") then Some names.HttpKeepAlive
    else None))))

-- the other timeouts that a line may name: nothing waits in a queue or a tunnel, and no server is checked
unfoldable pub is_idle_timeout : List ℕ → Bool
is_idle_timeout word = bytes_eq word (codes "queue") || bytes_eq word (codes "tunnel") || bytes_eq word (codes "check")

abbrev pub as_timeout : Option TimeoutName → Bool → Option TimeoutName
as_timeout (Some name) is_idle = Some name
as_timeout None is_idle = if is_idle then Some names.Idle else None

-- the timeout of a name
abbrev pub timeout_of : List ℕ → Option TimeoutName
timeout_of word = as_timeout (timed_wait word) (is_idle_timeout word)
