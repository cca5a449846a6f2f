-- What lines leave of settings can be said again: it meets the premises of the laws on what is read back of them.
use Rattle.std.specs.Prelude.{◌≡◌, ℕ, ◌≤◌, List, Bool, true, false, not, ◌&&◌, Option, None, is_some, IfSome, Ok}
use Rattle.std.specs.List.{list_all, AllByRecursion}
use Rattle.http_model.specs.Sizes.{least_size, most_size}
use Rattle.px_link.specs.declared.address.Address.{Address}
use Rattle.body_filter.specs.declared.filter_spec.FilterSpec.{FilterSpec}
use Rattle.body_filter.specs.Valid.{IsFilter}
use Rattle.http_rules.specs.Valid.{AreLimits, HasPort, HasHost, IsVersion, IsPath, IsScript, IsParam, IsApplication, IsChain}
use Rattle.http_rules.specs.declared.config.Config.{Config}
use Rattle.cfg_expr.specs.declared.side.Side.{Side}
use Rattle.cfg_parse.specs.declared.draft.Draft.{Draft}
use Rattle.cfg_parse.specs.Draft.{start}
use Rattle.cfg_parse.specs.Numbers.{time_of}
use Rattle.cfg_parse.specs.Addresses.{address_of, server_address_of}
use Rattle.cfg_parse.specs.Applications.{last_path, script_of}
use Rattle.cfg_parse.specs.Filters.{filter_line}
use Rattle.cfg_parse.specs.Lines.{line_of}
use Rattle.cfg_parse.specs.Whole.{ends_rules, whole, lines_from, read_whole}
use Rattle.cfg_print.specs.Pairs.{is_set}
use Rattle.cfg_laws.specs.SpelledPairs.{are_spelled_pairs}
use Rattle.cfg_laws.specs.SpelledSettings.{is_spelled_host, is_time, are_times, is_spelled_filter, are_spelled_filters, are_spelled_settings}

-- ---- values

abbrev pub TimesAreSpelled : Type 0
TimesAreSpelled = (word : List ℕ) (time : ℕ) → time_of word ≡ Ok time → is_time time ≡ true

-- an address that can be said
pub record CanSayAddress (address : Address) : Type 0 where
  pub port : HasPort address
  pub host : is_spelled_host address.host ≡ true

-- the same of a server
pub record CanSayServer (address : Address) : Type 0 where
  pub said : CanSayAddress address
  pub host : HasHost address

abbrev pub AddressesAreSpelled : Type 0
AddressesAreSpelled = (word : List ℕ) (address : Address) → address_of word ≡ Ok address → CanSayAddress address

abbrev pub ServersAreSpelled : Type 0
ServersAreSpelled = (word : List ℕ) (address : Address) → server_address_of word ≡ Ok address → CanSayServer address

-- a filter that there may be, and that can be said
pub record CanSayFilter (filter : FilterSpec) : Type 0 where
  pub good : IsFilter filter
  pub said : is_spelled_filter filter ≡ true

-- the filter of a line
abbrev pub FiltersAreSpelled : Type 0
FiltersAreSpelled = (arguments : List (List ℕ)) (taken : Side × FilterSpec) → filter_line arguments ≡ Ok taken → CanSayFilter taken.1

-- a root, or a file behind paths that end in `/`
abbrev pub PathsAreSpelled : Type 0
PathsAreSpelled = (arguments : List (List ℕ)) (path : List ℕ) → last_path arguments ≡ Ok path → IsPath path

-- the one file that is asked
abbrev pub ScriptsAreSpelled : Type 0
ScriptsAreSpelled = (arguments : List (List ℕ)) (path : List ℕ) → script_of arguments ≡ Ok path → IsScript path

-- ---- settings of a draft

-- the files of an application, of which one sort is asked at most
pub record CanSayFiles (root index script : Option (List ℕ)) : Type 0 where
  pub below : IfSome root IsPath
  pub behind : IfSome index IsPath
  pub alone : IfSome script IsScript
  pub one : not (is_some index && is_some script) ≡ true

-- how a server is asked: an application is sent no header of the PROXY protocol
pub record CanSayManner (send_proxy : Option ℕ) (is_asked : Bool) : Type 0 where
  pub version : IfSome send_proxy IsVersion
  pub alone : not (is_asked && is_some send_proxy) ≡ true

-- the filters of a direction
pub record CanSayChain (filters : List FilterSpec) : Type 0 where
  pub good : IsChain filters
  pub said : are_spelled_filters filters ≡ true

-- what lines so far have left of settings and pairs: each rule of a pair tells the field of a name, and that of `option forwardfor` ends no rules
pub record CanSaySettings (draft : Draft) : Type 0 where
  pub bufsize : IfSome draft.bufsize (λ n. (least_size ≤ n) × (n ≤ most_size))
  pub times : are_times draft.timeouts ≡ true
  pub bind : IfSome draft.bind CanSayAddress
  pub server : IfSome draft.server CanSayServer
  pub manner : CanSayManner draft.send_proxy draft.application.is_asked
  pub files : CanSayFiles draft.application.root draft.application.index draft.application.script
  pub names : AllByRecursion IsParam draft.application.params
  pub sets : list_all (is_set draft.application.params) draft.param_rules ≡ true
  pub forwarding : IfSome draft.forwarding (λ rule. ends_rules rule ≡ false)
  pub requests : CanSayChain draft.req_filters
  pub responses : CanSayChain draft.res_filters

-- before the first line
abbrev pub StartIsSpelled : Type 0
StartIsSpelled = CanSaySettings start

-- behind one more line
abbrev pub LineKeepsSettings : Type 0
LineKeepsSettings = (draft next : Draft) (line : List ℕ) → CanSaySettings draft → (line_of draft line).gives ≡ Ok next → CanSaySettings next

-- behind all lines
abbrev pub LinesKeepSettings : Type 0
LinesKeepSettings = (number : ℕ) (draft next : Draft) (lines : List (List ℕ)) → CanSaySettings draft → (lines_from number draft lines).gives ≡ Ok next → CanSaySettings next

-- ---- what all lines come to

-- what the laws on settings and pairs ask of a configuration
pub record CanSayConfig (config : Config) : Type 0 where
  pub limits : AreLimits config.limits
  pub spelled : are_spelled_settings config ≡ true
  pub bind : HasPort config.bind
  pub server : CanSayServer config.server
  pub version : IfSome config.send_proxy IsVersion
  pub application : IfSome config.application IsApplication
  pub pairs : are_spelled_pairs config ≡ true
  pub requests : CanSayChain config.req_filters
  pub responses : CanSayChain config.res_filters
  pub peer : config.peer ≡ None

abbrev pub WholeIsSpelled : Type 0
WholeIsSpelled = (draft : Draft) (config : Config) → CanSaySettings draft → whole draft ≡ Ok config → CanSayConfig config

-- the configuration of a text
abbrev pub TextsAreSpelled : Type 0
TextsAreSpelled = (text : List ℕ) (config : Config) → (read_whole text).gives ≡ Ok config → CanSayConfig config
