-- What of expressions and formats a text can say. What is read from a text is so; a value that was made otherwise need not be.
use Rattle.std.specs.Prelude.{ℕ, ℤ, pos, negsuc, ◌^◌, Bool, true, false, not, ◌||◌, ◌&&◌, ◌==◌, List, [], ◌∷◌, length, nat_le, nat_lt, int_le, Option, Some, None, is_some}
use Rattle.std.specs.Ordering.{int_eq}
use Rattle.std.specs.List.{list_any, list_all}
use Rattle.std.specs.Str.{bytes_eq}
use Rattle.px_bytes.specs.Tokens.{is_token}
use Rattle.px_peer.specs.Names.{src_name, src_port_name}
use Rattle.px_sample.specs.declared.scope.Scope.{Scope}
use Rattle.px_sample.specs.declared.scope.Scope.TheVariants as scopes
use Rattle.px_sample.specs.declared.fetch.Fetch.{Fetch}
use Rattle.px_sample.specs.declared.fetch.Fetch.TheVariants as fetches
use Rattle.px_conv.specs.declared.conv.Conv.{Conv}
use Rattle.px_conv.specs.declared.conv.Conv.TheVariants as convs
use Rattle.px_expr.specs.declared.expr.Expr.{Expr}
use Rattle.log_format.specs.declared.fmt.Part.{Part}
use Rattle.log_format.specs.declared.fmt.Part.TheVariants.{Literal, Sample}
use Rattle.log_format.specs.declared.fmt.Fmt.{Fmt}
use Rattle.acl_eval.specs.declared.condition.Match.{Match}
use Rattle.acl_eval.specs.declared.condition.Match.TheVariants as matches
use Rattle.acl_eval.specs.declared.condition.TestValue.{TestValue}
use Rattle.acl_eval.specs.declared.condition.TestValue.TheVariants as values
use Rattle.acl_eval.specs.declared.condition.Test.{Test}
use Rattle.cfg_expr.specs.declared.side.Side.{Side}
use Rattle.cfg_expr.specs.Calls.{is_quote, ends_name}
use Rattle.cfg_expr.specs.Fetches.{is_variable_name}
use Rattle.cfg_expr.specs.Sides.{is_on}
use Rattle.cfg_expr.specs.Exprs.{most_convs}
use Rattle.cfg_expr.specs.Formats.{most_parts}
use Rattle.cfg_print.specs.Exprs.{is_bare_byte, begins_quoted, Call}

-- ---- calls

-- an argument that needs no quotes
abbrev pub is_bare : List ℕ → Bool
is_bare argument = list_all is_bare_byte argument && not (begins_quoted argument)

-- an argument that can be said, with quotes or without
abbrev pub is_spellable : List ℕ → Bool
is_spellable argument = is_bare argument || not (list_any is_quote argument)

-- a name that ends where its arguments, or the next text, begin
abbrev pub is_whole_name : List ℕ → Bool
is_whole_name name = not (list_any ends_name name)

-- a call that can be said
abbrev pub is_spellable_call : Call → Bool
is_spellable_call call = is_whole_name call.name && (nat_le (length call.arguments) 3 && list_all is_spellable call.arguments)

-- a comma or `]` stands there, or nothing
abbrev pub is_end : List ℕ → Bool
is_end [] = true
is_end (b ∷ rest) = b == 44 || b == 93

-- what stands behind a call does not go on with it
abbrev pub ends_call : (arguments : List (List ℕ)) → (rest : List ℕ) → Bool
ends_call [] rest = is_end rest
ends_call (argument ∷ others) rest = true

-- ---- numbers

-- within 64 bits
abbrev pub is_within : ℤ → Bool
is_within (pos n) = nat_lt n (2 ^ 63)
is_within (negsuc n) = nat_lt n (2 ^ 63)

-- a number that counts something
abbrev pub is_count : ℤ → Bool
is_count n = is_within n && int_le (pos 0) n

-- which value of a field
abbrev pub is_occurrence : ℤ → Bool
is_occurrence n = is_within n && not (int_eq n (pos 0))

-- a number that may be left out
abbrev pub is_optional : (ℤ → Bool) → Option ℤ → Bool
is_optional test None = true
is_optional test (Some n) = test n

-- ---- fetches

-- the name of a field
abbrev pub is_field : List ℕ → Bool
is_field name = (is_token name && nat_le (length name) 255) && is_spellable name

abbrev pub is_session : Scope → Bool
is_session scopes.Sess = true
is_session scopes.Txn = false
is_session scopes.Req = false
is_session scopes.Res = false

-- the names of the variables in which the client's address stands
abbrev pub is_peer : List ℕ → Bool
is_peer name = bytes_eq name src_name || bytes_eq name src_port_name

-- a variable; those of the client's address are the session's
abbrev pub is_variable : Scope → (name : List ℕ) → Bool
is_variable scope name = is_variable_name name || (is_session scope && is_peer name)

-- a fetch whose arguments a text can say
unfoldable pub is_spelled_fetch : Fetch → Bool
is_spelled_fetch (fetches.ReqHdr name occurrence) = is_field name && is_optional is_occurrence occurrence
is_spelled_fetch (fetches.ResHdr name occurrence) = is_field name && is_optional is_occurrence occurrence
is_spelled_fetch (fetches.ReqFhdr name occurrence) = is_field name && is_optional is_occurrence occurrence
is_spelled_fetch (fetches.ResFhdr name occurrence) = is_field name && is_optional is_occurrence occurrence
is_spelled_fetch (fetches.ReqHdrCnt name) = is_field name
is_spelled_fetch (fetches.ResHdrCnt name) = is_field name
is_spelled_fetch (fetches.UrlParam name) = is_spellable name
is_spelled_fetch (fetches.Var scope name) = is_variable scope name
is_spelled_fetch (fetches.Str text) = is_spellable text
is_spelled_fetch (fetches.Int n) = is_within n
is_spelled_fetch _ = true

-- ---- converters

-- a converter whose arguments a text can say
unfoldable pub is_spelled_conv : Conv → Bool
is_spelled_conv (convs.Bytes offset len) = is_count offset && is_optional is_count len
is_spelled_conv (convs.Field index separators count) = is_within index && (is_spellable separators && is_count count)
is_spelled_conv (convs.Word index separators count) = is_within index && (is_spellable separators && is_count count)
is_spelled_conv (convs.Iif yes_text no_text) = is_spellable yes_text && is_spellable no_text
is_spelled_conv (convs.Add n) = is_within n
is_spelled_conv (convs.Sub n) = is_within n
is_spelled_conv (convs.Mul n) = is_within n
is_spelled_conv (convs.Div n) = is_within n
is_spelled_conv (convs.Mod n) = is_within n
is_spelled_conv (convs.Regsub pat template which) = is_spellable pat.text && is_spellable template
is_spelled_conv _ = true

-- ---- expressions

-- an expression that rules of this direction can say
abbrev pub is_spelled : Side → Expr → Bool
is_spelled side expr =
    (is_spelled_fetch expr.fetch && is_on side expr.fetch) && (list_all is_spelled_conv expr.convs && nat_le (length expr.convs) most_convs)

-- ---- formats

abbrev pub is_literal : Part → Bool
is_literal (Literal text) = true
is_literal (Sample expr) = false

-- a text stands at the front
abbrev pub begins_literal : List Part → Bool
begins_literal [] = false
begins_literal (part ∷ parts) = is_literal part

-- no two texts stand one behind the other
abbrev pub are_apart : List Part → Bool
are_apart [] = true
are_apart (part ∷ parts) = not (is_literal part && begins_literal parts) && are_apart parts

-- a text that is not empty, or an expression
abbrev pub is_spelled_part : Side → Part → Bool
is_spelled_part side (Literal text) = nat_lt 0 (length text)
is_spelled_part side (Sample expr) = is_spelled side expr

-- a format that rules of this direction can say
abbrev pub is_spelled_format : Side → Fmt → Bool
is_spelled_format side fmt = nat_le (length fmt.parts) most_parts && (list_all (is_spelled_part side) fmt.parts && are_apart fmt.parts)

-- ---- tests

-- a range, open on one side at most
abbrev pub is_range : TestValue → Bool
is_range (values.Range low high) = (is_some low || is_some high) && (is_optional is_within low && is_optional is_within high)
is_range (values.Literal text) = false
is_range (values.Pattern pat) = false

abbrev pub is_text : TestValue → Bool
is_text (values.Range low high) = false
is_text (values.Literal text) = true
is_text (values.Pattern pat) = false

abbrev pub is_same : Bool → Bool → Bool
is_same true b = b
is_same false b = not b

-- a pattern of a test, which ignores case where the test does
abbrev pub is_pattern : (icase : Bool) → TestValue → Bool
is_pattern icase (values.Range low high) = false
is_pattern icase (values.Literal text) = false
is_pattern icase (values.Pattern pat) = is_same icase pat.icase

-- one value or more
abbrev pub are_some : (TestValue → Bool) → List TestValue → Bool
are_some test tried = nat_lt 0 (length tried) && list_all test tried

-- the values that a match has
abbrev pub are_values : Match → (icase : Bool) → List TestValue → Bool
are_values matches.Found icase tried = length tried == 0
are_values matches.Bool icase tried = length tried == 0
are_values matches.Int icase tried = are_some is_range tried
are_values matches.Len icase tried = are_some is_range tried
are_values matches.Str icase tried = are_some is_text tried
are_values matches.Beg icase tried = are_some is_text tried
are_values matches.End icase tried = are_some is_text tried
are_values matches.Sub icase tried = are_some is_text tried
are_values matches.Reg icase tried = are_some (is_pattern icase) tried

-- an expression that lines of no direction can say
abbrev pub is_spelled_expr : Expr → Bool
is_spelled_expr expr = is_spelled_fetch expr.fetch && (list_all is_spelled_conv expr.convs && nat_le (length expr.convs) most_convs)

-- a test that a line can say
abbrev pub is_spelled_test : Test → Bool
is_spelled_test test = is_spelled_expr test.expr && are_values test.how test.icase test.values
