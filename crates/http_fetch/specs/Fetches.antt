-- What the fetches of a request and of a response give (Configuration Manual, section 7.3).
use Rattle.std.specs.Prelude.{ℕ, zero, suc, ◌-◌, ℤ, pos, negsuc, true, false, nat_lt, List, [], ◌∷◌, ◌++◌, length, drop, map, Option, Some, None, option_map, option_and_then, unwrap_or, slice_get, if◌then◌else◌, codes}
use Rattle.htx_model.specs.Block.{Block}
use Rattle.htx_view.specs.Lines.{request_in, response_in, status_in}
use Rattle.header_ops.specs.Lists.{values_named, fulls_named}
use Rattle.uri_parts.specs.Target.{target_parts}
use Rattle.uri_parts.specs.Cut.{query_text}
use Rattle.px_sample.specs.Sample.{Value, Truth, Number, Bytes}
use Rattle.px_sample.specs.Variables.{Variables, variable}
use Rattle.px_sample.specs.declared.scope.Scope.{Scope}
use Rattle.px_sample.specs.declared.scope.Scope.TheVariants as scopes
use Rattle.px_sample.specs.declared.fetch.Fetch.{Fetch}
use Rattle.px_sample.specs.declared.fetch.Fetch.TheVariants as fetches
use Rattle.http_fetch.specs.Param.{param}

-- a request: its blocks, and the variables
pub record RequestAt : Type 0 where
  pub blocks : List Block
  pub vars : Variables

-- a response: its blocks, the method of the request that was sent, and the variables
pub record ResponseAt : Type 0 where
  pub blocks : List Block
  pub method : List ℕ
  pub vars : Variables

-- a fetch with one sample, which may be absent
abbrev pub one : Option Value → List (Option Value)
one value = value ∷ []

-- The value of this number, counted from 1 at the front, or where the number is negative from -1 at the back. None has number 0.
abbrev pub at_occurrence : ℤ → List (List ℕ) → Option (List ℕ)
at_occurrence (pos zero) values = None
at_occurrence (pos (suc before)) values = slice_get values before
at_occurrence (negsuc behind) values = if nat_lt behind (length values) then slice_get values (length values - 1 - behind) else None

-- the samples of a field: each value, or with a number the value of that number alone
abbrev pub header_samples : List (List ℕ) → Option ℤ → List (Option Value)
header_samples values None = map (λ value. Some (Bytes value)) values
header_samples values (Some occurrence) = one (option_map Bytes (at_occurrence occurrence values))

-- how many values there are
abbrev pub count_sample : List (List ℕ) → Option Value
count_sample values = Some (Number (pos (length values)))

-- the target of a request
abbrev pub target_in : List Block → Option (List ℕ)
target_in blocks = option_map (λ line. line.1) (request_in blocks)

-- these bytes, unless there are none
abbrev pub some_bytes : List ℕ → Option Value
some_bytes [] = None
some_bytes (b ∷ bs) = Some (Bytes (b ∷ bs))

-- the path of a target; absent where it is empty
abbrev pub path_of : List ℕ → Option Value
path_of target = some_bytes (target_parts target).path

-- the query; absent where there is no `?`
abbrev pub query_of : List ℕ → Option Value
query_of target = option_map Bytes (target_parts target).query

-- path and query, with the `?` between
abbrev pub pathq_of : List ℕ → Option Value
pathq_of target = Some (Bytes ((target_parts target).path ++ query_text (target_parts target).query))

-- the first Host value, or nothing
abbrev pub host_in : List Block → List ℕ
host_in blocks = unwrap_or (slice_get (values_named (codes "host") blocks) 0) []

-- the first Host value and the path behind it; absent where both are empty
abbrev pub base_of : List Block → List ℕ → Option Value
base_of blocks target = some_bytes (host_in blocks ++ (target_parts target).path)

-- a parameter of the query
abbrev pub url_param_of : List ℕ → List ℕ → Option Value
url_param_of name target = option_and_then (λ query. option_map Bytes (param name query)) (target_parts target).query

-- the numbers of a version, which stand behind `HTTP/`
abbrev pub version_numbers : List ℕ → Value
version_numbers version = Bytes (drop 5 version)

-- a variable of the session, the exchange or the request rules; one of the response rules isn't alive
abbrev pub request_variable : Variables → Scope → List ℕ → Option Value
request_variable vars scopes.Sess name = variable vars scopes.Sess name
request_variable vars scopes.Txn name = variable vars scopes.Txn name
request_variable vars scopes.Req name = variable vars scopes.Req name
request_variable vars scopes.Res name = None

-- a variable of the session, the exchange or the response rules; one of the request rules isn't alive
abbrev pub response_variable : Variables → Scope → List ℕ → Option Value
response_variable vars scopes.Sess name = variable vars scopes.Sess name
response_variable vars scopes.Txn name = variable vars scopes.Txn name
response_variable vars scopes.Req name = None
response_variable vars scopes.Res name = variable vars scopes.Res name

-- the samples of each fetch in a request; a fetch of a response is absent
abbrev pub request_samples : RequestAt → Fetch → List (Option Value)
request_samples at (fetches.ReqHdr name occurrence) = header_samples (values_named name at.blocks) occurrence
request_samples at (fetches.ReqFhdr name occurrence) = header_samples (fulls_named name at.blocks) occurrence
request_samples at (fetches.ReqHdrCnt name) = one (count_sample (values_named name at.blocks))
request_samples at fetches.Path = one (option_and_then path_of (target_in at.blocks))
request_samples at fetches.Query = one (option_and_then query_of (target_in at.blocks))
request_samples at fetches.Pathq = one (option_and_then pathq_of (target_in at.blocks))
request_samples at fetches.Url = one (option_map Bytes (target_in at.blocks))
request_samples at fetches.Base = one (option_and_then (base_of at.blocks) (target_in at.blocks))
request_samples at (fetches.UrlParam name) = one (option_and_then (url_param_of name) (target_in at.blocks))
request_samples at fetches.Method = one (option_map (λ line. Bytes line.0) (request_in at.blocks))
request_samples at fetches.ReqVer = one (option_map (λ line. version_numbers line.2) (request_in at.blocks))
request_samples at (fetches.Var scope name) = one (request_variable at.vars scope name)
request_samples at (fetches.Str text) = one (Some (Bytes text))
request_samples at (fetches.Int number) = one (Some (Number number))
request_samples at (fetches.Bool truth) = one (Some (Truth truth))
request_samples at fetches.AlwaysTrue = one (Some (Truth true))
request_samples at fetches.AlwaysFalse = one (Some (Truth false))
request_samples at (fetches.ResHdr name occurrence) = one None
request_samples at (fetches.ResFhdr name occurrence) = one None
request_samples at (fetches.ResHdrCnt name) = one None
request_samples at fetches.ResVer = one None
request_samples at fetches.Status = one None

-- the samples of each fetch in a response; a fetch of a request but the method is absent
abbrev pub response_samples : ResponseAt → Fetch → List (Option Value)
response_samples at (fetches.ResHdr name occurrence) = header_samples (values_named name at.blocks) occurrence
response_samples at (fetches.ResFhdr name occurrence) = header_samples (fulls_named name at.blocks) occurrence
response_samples at (fetches.ResHdrCnt name) = one (count_sample (values_named name at.blocks))
response_samples at fetches.ResVer = one (option_map (λ line. version_numbers line.0) (response_in at.blocks))
response_samples at fetches.Status = one (option_map (λ number. Number (pos number)) (status_in at.blocks))
response_samples at fetches.Method = one (Some (Bytes at.method))
response_samples at (fetches.Var scope name) = one (response_variable at.vars scope name)
response_samples at (fetches.Str text) = one (Some (Bytes text))
response_samples at (fetches.Int number) = one (Some (Number number))
response_samples at (fetches.Bool truth) = one (Some (Truth truth))
response_samples at fetches.AlwaysTrue = one (Some (Truth true))
response_samples at fetches.AlwaysFalse = one (Some (Truth false))
response_samples at (fetches.ReqHdr name occurrence) = one None
response_samples at (fetches.ReqFhdr name occurrence) = one None
response_samples at (fetches.ReqHdrCnt name) = one None
response_samples at fetches.Path = one None
response_samples at fetches.Query = one None
response_samples at fetches.Pathq = one None
response_samples at fetches.Url = one None
response_samples at fetches.Base = one None
response_samples at (fetches.UrlParam name) = one None
response_samples at fetches.ReqVer = one None
