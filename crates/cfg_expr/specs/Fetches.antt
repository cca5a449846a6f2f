-- Fetches by their names and arguments (Configuration Manual, section 7.3). They are told apart by how many arguments stand
-- in brackets.
use Rattle.std.specs.Prelude.{ℕ, ◌+◌, ℤ, pos, Bool, true, false, ◌&&◌, ◌||◌, ◌==◌, List, [], ◌∷◌, length, take, drop, position, nat_le, int_le, Option, Some, None, option_map, Ok, Err, if◌then◌else◌, codes}
use Rattle.std.specs.Ordering.{int_eq}
use Rattle.std.specs.List.{list_all}
use Rattle.std.specs.Char.{is_ascii_alphanumeric}
use Rattle.std.specs.Str.{bytes_eq}
use Rattle.px_expr.specs.declared.expr.Expr as exprs
use Rattle.px_bytes.specs.Tokens.{is_token}
use Rattle.px_peer.specs.Names.{src_name, src_port_name}
use Rattle.px_sample.specs.Cast.{number_of_text}
use Rattle.px_sample.specs.declared.scope.Scope.{Scope}
use Rattle.px_sample.specs.declared.scope.Scope.TheVariants as scopes
use Rattle.px_sample.specs.declared.fetch.Fetch.{Fetch}
use Rattle.px_sample.specs.declared.fetch.Fetch.TheVariants as fetches
use Rattle.cfg_expr.specs.declared.fault.TextKind.TheVariants.{Expr}
use Rattle.cfg_expr.specs.declared.fetches.FieldFetch.{FieldFetch}
use Rattle.cfg_expr.specs.declared.fetches.FieldFetch.TheVariants as fields
use Rattle.cfg_expr.specs.declared.source.Source.{Source}
use Rattle.cfg_expr.specs.declared.source.Source.TheVariants.{Hdr, Of}
use Rattle.cfg_expr.specs.declared.source.Written.{Written}
use Rattle.cfg_expr.specs.declared.side.Side.{Side}
use Rattle.cfg_expr.specs.Calls.{Form}
use Rattle.cfg_expr.specs.Sides.{checked, on_side}
use Rattle.cfg_expr.specs.Steps.{◌>>=◌}
use Rattle.cfg_expr.specs.Faults.{Told}

-- ---- arguments

-- where there is none, the expression is malformed
abbrev pub expected : {A : Type 0} → Option A → Told A
expected None = Err Expr
expected (Some x) = Ok x

-- an optional `-` and digits, within 64 bits
abbrev pub number : List ℕ → Told ℤ
number text = expected (number_of_text text)

-- a number that counts something
abbrev pub count : List ℕ → Told ℤ
count text = number text >>= λ n. if int_le (pos 0) n then Ok n else Err Expr

-- which value of a field: from 1 on from the front, from -1 on from the back
abbrev pub occurrence : List ℕ → Told ℤ
occurrence text = number text >>= λ n. if int_eq n (pos 0) then Err Expr else Ok n

-- the name of a field: a token of at most 255 bytes
abbrev pub field_name : List ℕ → Told (List ℕ)
field_name text = if is_token text && nat_le (length text) 255 then Ok text else Err Expr

-- `true` or `1`, `false` or `0`
unfoldable pub truth : List ℕ → Told Bool
truth text =
    if bytes_eq text (codes "true") || bytes_eq text (codes "1") then Ok true
    else (if bytes_eq text (codes "false") || bytes_eq text (codes "0") then Ok false
    else Err Expr)

-- ---- variables

-- the life of a variable
unfoldable pub scope_of : List ℕ → Option Scope
scope_of text =
    if bytes_eq text (codes "sess") then Some scopes.Sess
    else (if bytes_eq text (codes "txn") then Some scopes.Txn
    else (if bytes_eq text (codes "req") then Some scopes.Req
    else (if bytes_eq text (codes "res") then Some scopes.Res
    else None)))

-- a letter, a digit, `_` or `.`
abbrev pub is_variable_byte : ℕ → Bool
is_variable_byte b = is_ascii_alphanumeric b || b == 95 || b == 46

-- one or more of these
abbrev pub is_variable_name : List ℕ → Bool
is_variable_name text = nat_le 1 (length text) && list_all is_variable_byte text

abbrev pub is_dot : ℕ → Bool
is_dot b = b == 46

-- a variable in this scope
abbrev pub variable_in : List ℕ → Option Scope → Option (Scope × List ℕ)
variable_in name None = None
variable_in name (Some scope) = if is_variable_name name then Some (scope, name) else None

abbrev pub variable_at : List ℕ → Option ℕ → Option (Scope × List ℕ)
variable_at text None = None
variable_at text (Some at) = variable_in (drop (at + 1) text) (scope_of (take at text))

-- SCOPE.NAME, with the first dot between
unfoldable pub variable_of : List ℕ → Option (Scope × List ℕ)
variable_of text = variable_at text (position is_dot text)

-- ---- without brackets

unfoldable pub bare_fetch : List ℕ → Option Fetch
bare_fetch name =
    if bytes_eq name (codes "path") then Some fetches.Path
    else (if bytes_eq name (codes "query") then Some fetches.Query
    else (if bytes_eq name (codes "pathq") then Some fetches.Pathq
    else (if bytes_eq name (codes "url") then Some fetches.Url
    else (if bytes_eq name (codes "base") then Some fetches.Base
    else (if bytes_eq name (codes "method") then Some fetches.Method
    else (if bytes_eq name (codes "req.ver") then Some fetches.ReqVer
    else (if bytes_eq name (codes "res.ver") then Some fetches.ResVer
    else (if bytes_eq name (codes "status") then Some fetches.Status
    else (if bytes_eq name (codes "always_true") then Some fetches.AlwaysTrue
    else (if bytes_eq name (codes "always_false") then Some fetches.AlwaysFalse
    else None))))))))))

-- the variable of the session that `src` and `src_port` are
unfoldable pub peer_variable : List ℕ → Option (List ℕ)
peer_variable name =
    if bytes_eq name (codes "src") then Some src_name
    else (if bytes_eq name (codes "src_port") then Some src_port_name
    else None)

abbrev pub bare_source : Option (List ℕ) → (name : List ℕ) → Told Source
bare_source (Some variable) name = Ok (Of (fetches.Var scopes.Sess variable))
bare_source None name = expected (option_map Of (bare_fetch name))

-- ---- a field

-- fetches of a field, which may have an occurrence
unfoldable pub field_fetch : List ℕ → Option FieldFetch
field_fetch name =
    if bytes_eq name (codes "hdr") then Some fields.Hdr
    else (if bytes_eq name (codes "req.hdr") then Some fields.ReqHdr
    else (if bytes_eq name (codes "res.hdr") then Some fields.ResHdr
    else (if bytes_eq name (codes "req.fhdr") then Some fields.ReqFhdr
    else (if bytes_eq name (codes "res.fhdr") then Some fields.ResFhdr
    else None))))

-- the fetch of a field with this name; `hdr` is that of the direction in which it is used
abbrev pub field_source : FieldFetch → List ℕ → Option ℤ → Source
field_source fields.Hdr name occ = Hdr name occ
field_source fields.ReqHdr name occ = Of (fetches.ReqHdr name occ)
field_source fields.ResHdr name occ = Of (fetches.ResHdr name occ)
field_source fields.ReqFhdr name occ = Of (fetches.ReqFhdr name occ)
field_source fields.ResFhdr name occ = Of (fetches.ResFhdr name occ)

-- ---- one argument

-- a variable, or a malformed one
abbrev pub variable_fetch : Option (Scope × List ℕ) → Told Fetch
variable_fetch None = Err Expr
variable_fetch (Some found) = Ok (fetches.Var found.0 found.1)

-- fetches with one argument, but for those of a field's values
unfoldable pub fetch_with : (name arg : List ℕ) → Told Fetch
fetch_with name arg =
    if bytes_eq name (codes "req.hdr_cnt") then (field_name arg >>= λ field. Ok (fetches.ReqHdrCnt field))
    else (if bytes_eq name (codes "res.hdr_cnt") then (field_name arg >>= λ field. Ok (fetches.ResHdrCnt field))
    else (if bytes_eq name (codes "url_param") then Ok (fetches.UrlParam arg)
    else (if bytes_eq name (codes "str") then Ok (fetches.Str arg)
    else (if bytes_eq name (codes "int") then (number arg >>= λ n. Ok (fetches.Int n))
    else (if bytes_eq name (codes "bool") then (truth arg >>= λ b. Ok (fetches.Bool b))
    else (if bytes_eq name (codes "var") then variable_fetch (variable_of arg)
    else Err Expr))))))

abbrev pub source_with : Option FieldFetch → (name arg : List ℕ) → Told Source
source_with None name arg = fetch_with name arg >>= λ fetch. Ok (Of fetch)
source_with (Some which) name arg = field_name arg >>= λ field. Ok (field_source which field None)

-- a field and an occurrence
abbrev pub source_at_occurrence : Option FieldFetch → (first second : List ℕ) → Told Source
source_at_occurrence None first second = Err Expr
source_at_occurrence (Some which) first second =
    field_name first >>= λ field. occurrence second >>= λ occ. Ok (field_source which field (Some occ))

-- ---- any fetch

-- the fetch of a name and its arguments
unfoldable pub source_of : List ℕ → List (List ℕ) → Told Source
source_of name [] = bare_source (peer_variable name) name
source_of name (arg ∷ []) = source_with (field_fetch name) name arg
source_of name (first ∷ second ∷ []) = source_at_occurrence (field_fetch name) first second
source_of name (first ∷ second ∷ third ∷ others) = Err Expr

-- ---- in a direction

-- the fetch of a form and what is behind it; the direction has it, where one is given
abbrev pub placed_source : Option Side → Form → Told (Source × List ℕ)
placed_source place form =
    source_of form.name form.args >>= λ source. checked place source >>= λ ok. Ok (source, form.rest)

-- an expression with the fetch that its source is in a direction
abbrev pub with_fetch : Side → Written → Told exprs.Expr
with_fetch side written =
    expected (on_side side written.source) >>= λ fetch. Ok (record { fetch = fetch; convs = written.convs })
