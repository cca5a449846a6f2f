-- Which configurations are valid: those that loading gives, and that the layers above take.
use Rattle.std.specs.Prelude.{◌≡◌, ◌+◌, ◌≤◌, ◌⊎◌, ℕ, List, length, take, count_by, Bool, true, false, ◌||◌, ◌==◌, IfSome, codes}
use Rattle.std.specs.List.{list_all, AllByRecursion}
use Rattle.std.specs.Char.{is_ascii_digit, is_ascii_uppercase}
use Rattle.std.specs.Str.{bytes_eq}
use Rattle.http_model.specs.declared.Limits.{Limits}
use Rattle.http_model.specs.Sizes.{least_size, most_size, least_head}
use Rattle.px_link.specs.declared.address.Address.{Address}
use Rattle.fcgi_model.specs.Application.{Application}
use Rattle.body_filter.specs.declared.filter_spec.FilterSpec.{FilterSpec}
use Rattle.body_filter.specs.declared.filter_spec.FilterSpec.TheVariants.{Limit, Deny, Replace}
use Rattle.body_filter.specs.Valid.{AreFilters}
use Rattle.http_rules.specs.declared.rule.action.Direction.TheVariants as directions
use Rattle.http_rules.specs.Rule.Valid.{AreRules}
use Rattle.http_rules.specs.declared.config.Config.{Config}

-- sizes within their limits, of which a received head leaves at least 512 bytes
pub record AreLimits (limits : Limits) : Type 0 where
  pub least : least_size ≤ limits.bufsize
  pub most : limits.bufsize ≤ most_size
  pub leaves : limits.maxrewrite + least_head ≤ limits.bufsize

-- an address with a port
pub record HasPort (address : Address) : Type 0 where
  pub least : 1 ≤ address.port
  pub most : address.port ≤ 65535

-- an address that a connection can be made to
pub record HasHost (address : Address) : Type 0 where
  pub some : 1 ≤ length address.host
  pub one : bytes_eq address.host (codes "*") ≡ false

-- a version of the headers of the PROXY protocol
abbrev pub IsVersion : ℕ → Type 0
IsVersion version = (version ≡ 1) ⊎ (version ≡ 2)

-- a root, or a file below one: 1 to 255 bytes
pub record IsPath (path : List ℕ) : Type 0 where
  pub some : 1 ≤ length path
  pub short : length path ≤ 255

-- the one file that is asked: a path that begins with `/`
pub record IsScript (path : List ℕ) : Type 0 where
  pub file : IsPath path
  pub slash : bytes_eq (take 1 path) (codes "/") ≡ true

-- a byte of the name of a pair: a capital letter, a digit or `_`
abbrev pub is_param_byte : ℕ → Bool
is_param_byte b = is_ascii_uppercase b || (is_ascii_digit b || b == 95)

-- the name of a pair that a configuration may tell: 1 to 64 such bytes, and not that of the field `proxy`
pub record IsParam (name : List ℕ) : Type 0 where
  pub some : 1 ≤ length name
  pub short : length name ≤ 64
  pub bytes : list_all is_param_byte name ≡ true
  pub free : bytes_eq name (codes "HTTP_PROXY") ≡ false

-- how an application may be asked: a file behind paths that end in `/`, or one file alone, or neither
pub record IsApplication (app : Application) : Type 0 where
  pub root : IsPath app.root
  pub index : IfSome app.index IsPath
  pub script : IfSome app.script IsScript
  pub params : AllByRecursion IsParam app.params

-- a filter that changes the length of a body
abbrev pub is_replace : FilterSpec → Bool
is_replace (Limit most) = false
is_replace (Deny needle) = false
is_replace (Replace from to) = true

-- filters of one direction: at most 8, and of them one that replaces
pub record IsChain (chain : List FilterSpec) : Type 0 where
  pub filters : AreFilters chain
  pub few : length chain ≤ 8
  pub one : count_by is_replace chain ≤ 1

pub record IsValid (config : Config) : Type 0 where
  pub limits : AreLimits config.limits
  pub bind_port : HasPort config.bind
  pub server_port : HasPort config.server
  pub server_host : HasHost config.server
  pub send_proxy : IfSome config.send_proxy IsVersion
  pub application : IfSome config.application IsApplication
  pub request : AreRules directions.Request config.request
  pub response : AreRules directions.Response config.response
  pub after : AreRules directions.After config.after
  pub req_filters : IsChain config.req_filters
  pub res_filters : IsChain config.res_filters
