-- The text of an expression: a fetch, and converters behind commas (Configuration Manual, sections 7.1 and 7.3).
use Rattle.std.specs.Prelude.{ℕ, ℤ, Bool, true, false, not, ◌&&◌, ◌||◌, ◌==◌, List, [], ◌∷◌, ◌++◌, Option, Some, None, if◌then◌else◌, codes}
use Rattle.std.specs.List.{list_all, flat_map}
use Rattle.std.specs.Fmt.{signed_decimal}
use Rattle.std.specs.Str.{bytes_eq}
use Rattle.px_pattern.specs.Pattern.{Pattern}
use Rattle.px_sample.specs.declared.scope.Scope.{Scope}
use Rattle.px_sample.specs.declared.scope.Scope.TheVariants as scopes
use Rattle.px_sample.specs.declared.fetch.Fetch.{Fetch}
use Rattle.px_sample.specs.declared.fetch.Fetch.TheVariants as fetches
use Rattle.px_peer.specs.Names.{src_name, src_port_name}
use Rattle.px_conv.specs.declared.conv.Conv.{Conv}
use Rattle.px_conv.specs.declared.conv.Conv.TheVariants as convs
use Rattle.px_conv.specs.declared.conv.Matches.{Matches}
use Rattle.px_conv.specs.declared.conv.Matches.TheVariants.{First, All}
use Rattle.px_expr.specs.declared.expr.Expr.{Expr}

-- ---- arguments

-- a byte that an argument without quotes may have: no blank, no comma and no `)`
abbrev pub is_bare_byte : ℕ → Bool
is_bare_byte b = not (b == 32 || (b == 9 || (b == 44 || b == 41)))

-- it begins with a single quote
abbrev pub begins_quoted : List ℕ → Bool
begins_quoted [] = false
begins_quoted (b ∷ rest) = b == 39

-- an argument as it is, or in single quotes
unfoldable pub argument_text : List ℕ → List ℕ
argument_text argument =
    if list_all is_bare_byte argument && not (begins_quoted argument) then argument
    else 39 ∷ argument ++ 39 ∷ []

-- arguments in brackets, with commas between them
abbrev pub bracketed : List (List ℕ) → List ℕ
bracketed [] = []
bracketed (argument ∷ others) = 40 ∷ argument_text argument ++ flat_map (λ other. 44 ∷ argument_text other) others ++ 41 ∷ []

-- a name, and its arguments; without any there are no brackets
pub record Call : Type 0 where
  pub name : List ℕ
  pub arguments : List (List ℕ)

abbrev pub call_text : Call → List ℕ
call_text call = call.name ++ bracketed call.arguments

abbrev pub bare : List ℕ → Call
bare name = record { name = name; arguments = [] }

abbrev pub call : List ℕ → List (List ℕ) → Call
call name arguments = record { name = name; arguments = arguments }

-- ---- fetches

-- a number that may be left out
abbrev pub and_number : Option ℤ → List (List ℕ)
and_number None = []
and_number (Some n) = signed_decimal n ∷ []

abbrev pub truth_text : Bool → List ℕ
truth_text true = codes "true"
truth_text false = codes "false"

abbrev pub scope_text : Scope → List ℕ
scope_text scopes.Sess = codes "sess"
scope_text scopes.Txn = codes "txn"
scope_text scopes.Req = codes "req"
scope_text scopes.Res = codes "res"

-- SCOPE.NAME
abbrev pub variable_text : Scope → (name : List ℕ) → List ℕ
variable_text scope name = scope_text scope ++ 46 ∷ name

-- a variable; those of a session in which its client's address stands have fetches of their own
unfoldable pub variable_call : Scope → (name : List ℕ) → Call
variable_call scope name =
    if bytes_eq name src_name then bare (codes "src")
    else (if bytes_eq name src_port_name then bare (codes "src_port")
    else call (codes "var") (variable_text scope name ∷ []))

unfoldable pub fetch_call : Fetch → Call
fetch_call (fetches.ReqHdr name occurrence) = call (codes "req.hdr") (name ∷ and_number occurrence)
fetch_call (fetches.ResHdr name occurrence) = call (codes "res.hdr") (name ∷ and_number occurrence)
fetch_call (fetches.ReqFhdr name occurrence) = call (codes "req.fhdr") (name ∷ and_number occurrence)
fetch_call (fetches.ResFhdr name occurrence) = call (codes "res.fhdr") (name ∷ and_number occurrence)
fetch_call (fetches.ReqHdrCnt name) = call (codes "req.hdr_cnt") (name ∷ [])
fetch_call (fetches.ResHdrCnt name) = call (codes "res.hdr_cnt") (name ∷ [])
fetch_call fetches.Path = bare (codes "path")
fetch_call fetches.Query = bare (codes "query")
fetch_call fetches.Pathq = bare (codes "pathq")
fetch_call fetches.Url = bare (codes "url")
fetch_call fetches.Base = bare (codes "base")
fetch_call (fetches.UrlParam name) = call (codes "url_param") (name ∷ [])
fetch_call fetches.Method = bare (codes "method")
fetch_call fetches.ReqVer = bare (codes "req.ver")
fetch_call fetches.ResVer = bare (codes "res.ver")
fetch_call fetches.Status = bare (codes "status")
fetch_call (fetches.Var scope name) = variable_call scope name
fetch_call (fetches.Str text) = call (codes "str") (text ∷ [])
fetch_call (fetches.Int n) = call (codes "int") (signed_decimal n ∷ [])
fetch_call (fetches.Bool b) = call (codes "bool") (truth_text b ∷ [])
fetch_call fetches.AlwaysTrue = bare (codes "always_true")
fetch_call fetches.AlwaysFalse = bare (codes "always_false")

-- ---- converters

-- the letters behind a pattern and its template; none where there is no letter
abbrev pub icase_letter : Bool → List ℕ
icase_letter true = codes "i"
icase_letter false = []

abbrev pub matches_letter : Matches → List ℕ
matches_letter First = []
matches_letter All = codes "g"

abbrev pub letters : Pattern → Matches → List ℕ
letters pat which = matches_letter which ++ icase_letter pat.icase

abbrev pub and_letters : List ℕ → List (List ℕ)
and_letters [] = []
and_letters (b ∷ others) = (b ∷ others) ∷ []

unfoldable pub conv_call : Conv → Call
conv_call convs.Lower = bare (codes "lower")
conv_call convs.Upper = bare (codes "upper")
conv_call convs.Length = bare (codes "length")
conv_call (convs.Bytes offset len) = call (codes "bytes") (signed_decimal offset ∷ and_number len)
conv_call (convs.Field index separators count) = call (codes "field") (signed_decimal index ∷ separators ∷ signed_decimal count ∷ [])
conv_call (convs.Word index separators count) = call (codes "word") (signed_decimal index ∷ separators ∷ signed_decimal count ∷ [])
conv_call (convs.Iif yes_text no_text) = call (codes "iif") (yes_text ∷ no_text ∷ [])
conv_call (convs.Add n) = call (codes "add") (signed_decimal n ∷ [])
conv_call (convs.Sub n) = call (codes "sub") (signed_decimal n ∷ [])
conv_call (convs.Mul n) = call (codes "mul") (signed_decimal n ∷ [])
conv_call (convs.Div n) = call (codes "div") (signed_decimal n ∷ [])
conv_call (convs.Mod n) = call (codes "mod") (signed_decimal n ∷ [])
conv_call convs.Neg = bare (codes "neg")
conv_call convs.Not = bare (codes "not")
conv_call convs.Bool = bare (codes "bool")
conv_call convs.Base64 = bare (codes "base64")
conv_call convs.Hex = bare (codes "hex")
conv_call convs.UrlDec = bare (codes "url_dec")
conv_call (convs.Regsub pat template which) = call (codes "regsub") (pat.text ∷ template ∷ and_letters (letters pat which))

-- ---- expressions

abbrev pub conv_text : Conv → List ℕ
conv_text conv = 44 ∷ call_text (conv_call conv)

unfoldable pub expr_text : Expr → List ℕ
expr_text expr = call_text (fetch_call expr.fetch) ++ flat_map conv_text expr.convs
