-- The lines of `filter`: a direction, and what is done to the bodies that pass in it.
use Rattle.std.specs.Prelude.{ℕ, List, [], ◌∷◌, ◌++◌, length, Bool, true, false, not, ◌&&◌, nat_le, nat_lt, if◌then◌else◌, Option, Some, None, Result, Ok, Err, codes}
use Rattle.std.specs.List.{list_any}
use Rattle.std.specs.Str.{bytes_eq}
use Rattle.px_bytes.specs.Numbers.{decimal_of}
use Rattle.cfg_parse.specs.declared.fault.CfgKind.{CfgKind}
use Rattle.cfg_parse.specs.declared.fault.CfgKind.TheVariants as kinds
use Rattle.cfg_expr.specs.declared.side.Side.{Side}
use Rattle.cfg_expr.specs.declared.side.Side.TheVariants.{Request, Response}
use Rattle.cfg_parse.specs.declared.filters.FilterName.{FilterName}
use Rattle.cfg_parse.specs.declared.filters.FilterName.TheVariants as names
use Rattle.body_filter.specs.declared.filter_spec.FilterSpec.{FilterSpec}
use Rattle.body_filter.specs.declared.filter_spec.FilterSpec.TheVariants.{Limit, Deny, Replace}
use Rattle.http_rules.specs.Valid.{is_replace}
use Rattle.cfg_parse.specs.Limits.{most_digits, most_filters, most_needle}
use Rattle.cfg_parse.specs.declared.draft.Draft.{Draft}
use Rattle.cfg_parse.specs.Reading.{◌>>=◌, argument, no_more}

-- the filter of this name
unfoldable pub filter_name_of : List ℕ → Result FilterName CfgKind
filter_name_of word =
    if bytes_eq word (codes "body-limit") then Ok names.Limit
    else (if bytes_eq word (codes "body-deny") then Ok names.Deny
    else (if bytes_eq word (codes "body-replace") then Ok names.Replace
    else Err kinds.Keyword))

-- `req` or `res`
unfoldable pub named_side : List ℕ → Result Side CfgKind
named_side word =
    if bytes_eq word (codes "req") then Ok Request
    else (if bytes_eq word (codes "res") then Ok Response
    else Err kinds.Argument)

-- a number of bytes
abbrev pub counted : Option ℕ → Result ℕ CfgKind
counted (Some most) = Ok most
counted None = Err kinds.Argument

-- a number of bytes, in 1 to 18 digits
unfoldable pub count_of : List ℕ → Result ℕ CfgKind
count_of word = counted (decimal_of most_digits word)

-- a text of at least so many bytes, and of no more than a needle may have
unfoldable pub text_of : (least : ℕ) → List ℕ → Result (List ℕ) CfgKind
text_of least word = if nat_le least (length word) && nat_le (length word) most_needle then Ok word else Err kinds.Argument

-- `n`
unfoldable pub limit_filter : List (List ℕ) → Result FilterSpec CfgKind
limit_filter arguments = do
  word ← argument arguments
  most ← count_of word.0
  ended ← no_more word.1
  Ok (Limit most)

-- `NEEDLE`
unfoldable pub deny_filter : List (List ℕ) → Result FilterSpec CfgKind
deny_filter arguments = do
  word ← argument arguments
  needle ← text_of 1 word.0
  ended ← no_more word.1
  Ok (Deny needle)

-- `FROM TO`
unfoldable pub replace_filter : List (List ℕ) → Result FilterSpec CfgKind
replace_filter arguments = do
  first ← argument arguments
  from ← text_of 1 first.0
  second ← argument first.1
  to ← text_of 0 second.0
  ended ← no_more second.1
  Ok (Replace from to)

-- what stands behind the side
abbrev pub named_filter : FilterName → List (List ℕ) → Result FilterSpec CfgKind
named_filter names.Limit arguments = limit_filter arguments
named_filter names.Deny arguments = deny_filter arguments
named_filter names.Replace arguments = replace_filter arguments

-- the words behind `filter`
unfoldable pub filter_line : List (List ℕ) → Result (Side × FilterSpec) CfgKind
filter_line arguments = do
  first ← argument arguments
  name ← filter_name_of first.0
  second ← argument first.1
  side ← named_side second.0
  filter ← named_filter name second.1
  Ok (side, filter)

-- one more filter of a direction: of at most 8, and of them one body-replace
unfoldable pub with_filter : List FilterSpec → FilterSpec → Result (List FilterSpec) CfgKind
with_filter filters filter =
    if nat_lt (length filters) most_filters && not (is_replace filter && list_any is_replace filters) then Ok (filters ++ filter ∷ [])
    else Err kinds.Limit

-- ---- the line, and what it makes of the configuration so far

-- one more filter of this direction
abbrev pub filter_added : Draft → Side → FilterSpec → Result Draft CfgKind
filter_added draft Request filter =
    with_filter draft.req_filters filter >>= λ filters. Ok (record draft { req_filters = filters })
filter_added draft Response filter =
    with_filter draft.res_filters filter >>= λ filters. Ok (record draft { res_filters = filters })

-- the words behind `filter`; too many filters are refused last
unfoldable pub filter_setting : Draft → List (List ℕ) → Result Draft CfgKind
filter_setting draft arguments = filter_line arguments >>= λ taken. filter_added draft taken.0 taken.1
