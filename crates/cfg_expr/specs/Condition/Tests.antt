-- A test: CRITERION FLAGS VALUES (Configuration Manual, section 7.1).
use Rattle.std.specs.Prelude.{ℕ, ◌-◌, Bool, true, false, ◌||◌, List, [], ◌∷◌, ◌++◌, length, take, drop, slice_get, Option, Some, None, Ok, Err, if◌then◌else◌, codes}
use Rattle.std.specs.Str.{bytes_eq}
use Rattle.px_peer.specs.Names.{src_port_name}
use Rattle.px_sample.specs.declared.fetch.Fetch.{Fetch}
use Rattle.px_sample.specs.declared.fetch.Fetch.TheVariants as fetches
use Rattle.px_conv.specs.declared.conv.Conv.{Conv}
use Rattle.px_conv.specs.declared.conv.Conv.TheVariants as convs
use Rattle.acl_eval.specs.declared.condition.Match.{Match}
use Rattle.acl_eval.specs.declared.condition.Match.TheVariants as matches
use Rattle.acl_eval.specs.declared.condition.TestValue.{TestValue}
use Rattle.acl_eval.specs.declared.condition.TestValue.TheVariants as values
use Rattle.cfg_expr.specs.declared.fault.TextKind.TheVariants.{Acl}
use Rattle.cfg_expr.specs.declared.side.Side.{Side}
use Rattle.cfg_expr.specs.declared.source.Source.{Source}
use Rattle.cfg_expr.specs.declared.source.Source.TheVariants as sources
use Rattle.cfg_expr.specs.declared.source.Written.{Written}
use Rattle.cfg_expr.specs.Reading.{plain, built, ◌>>=◌}
use Rattle.cfg_expr.specs.Faults.{TextReading}
use Rattle.cfg_expr.specs.Calls.{Form, form_in}
use Rattle.cfg_expr.specs.Fetches.{expected, placed_source}
use Rattle.cfg_expr.specs.Exprs.{convs_at, ended}
use Rattle.cfg_expr.specs.declared.condition.flags.Flags.{Flags}
use Rattle.cfg_expr.specs.declared.condition.criterion.Criterion.{Criterion}
use Rattle.cfg_expr.specs.declared.condition.written.WrittenTest.{WrittenTest}
use Rattle.cfg_expr.specs.Condition.Values.{no_ranges, ranges_from, literals}
use Rattle.cfg_expr.specs.Condition.Flags.{no_flags, flags_from}

-- ---- matches

-- the match of what a fetch gives, where none is written
abbrev pub fetch_match : Fetch → Match
fetch_match (fetches.ReqHdrCnt name) = matches.Int
fetch_match (fetches.ResHdrCnt name) = matches.Int
fetch_match fetches.Status = matches.Int
fetch_match (fetches.Int n) = matches.Int
fetch_match (fetches.Bool b) = matches.Bool
fetch_match fetches.AlwaysTrue = matches.Bool
fetch_match fetches.AlwaysFalse = matches.Bool
fetch_match (fetches.Var scope name) = if bytes_eq name src_port_name then matches.Int else matches.Str
fetch_match _ = matches.Str

abbrev pub source_match : Source → Match
source_match (sources.Hdr name occurrence) = matches.Str
source_match (sources.Of fetch) = fetch_match fetch

-- and of what a converter makes
abbrev pub conv_match : Conv → Match
conv_match convs.Length = matches.Int
conv_match (convs.Add n) = matches.Int
conv_match (convs.Sub n) = matches.Int
conv_match (convs.Mul n) = matches.Int
conv_match (convs.Div n) = matches.Int
conv_match (convs.Mod n) = matches.Int
conv_match convs.Neg = matches.Int
conv_match convs.Not = matches.Bool
conv_match convs.Bool = matches.Bool
conv_match _ = matches.Str

-- by the last converter, or by the fetch where there is none
abbrev pub match_by : Source → Option Conv → Match
match_by source None = source_match source
match_by source (Some conv) = conv_match conv

abbrev pub default_match : Written → Match
default_match written = match_by written.source (slice_get written.convs (length written.convs - 1))

-- ---- the criterion

-- fetches behind whose names a match may stand
unfoldable pub takes_suffix : List ℕ → Bool
takes_suffix name =
    bytes_eq name (codes "path") || bytes_eq name (codes "url") || bytes_eq name (codes "base") || bytes_eq name (codes "hdr")

-- such a match
unfoldable pub suffix_match : List ℕ → Option Match
suffix_match suffix =
    if bytes_eq suffix (codes "_beg") then Some matches.Beg
    else (if bytes_eq suffix (codes "_end") then Some matches.End
    else (if bytes_eq suffix (codes "_sub") then Some matches.Sub
    else (if bytes_eq suffix (codes "_reg") then Some matches.Reg
    else (if bytes_eq suffix (codes "_len") then Some matches.Len
    else None))))

-- the name in front of the last four bytes
abbrev pub stem : List ℕ → List ℕ
stem name = take (length name - 4) name

-- the match that the last four bytes of a name say, where it is such a fetch's
unfoldable pub match_in : List ℕ → Option Match
match_in name = if takes_suffix (stem name) then suffix_match (drop (length name - 4) name) else None

-- the fetch's own name
abbrev pub without_suffix : Option Match → List ℕ → List ℕ
without_suffix None name = name
without_suffix (Some how) name = stem name

-- the form with the fetch's own name
abbrev pub fetch_form : Form → Form
fetch_form form = record { name = without_suffix (match_in form.name) form.name; args = form.args; rest = form.rest }

-- the converters up to the end of a text
unfoldable pub convs_to_end : List ℕ → TextReading (List Conv)
convs_to_end text = do
  convs ← convs_at text
  end ← plain (ended convs.1)
  plain (Ok convs.0)

-- an expression, or one whose fetch has a match behind its name; of a direction where one is given
unfoldable pub criterion_of : Option Side → List ℕ → TextReading Criterion
criterion_of place word = do
  form ← plain (expected (form_in word))
  source ← plain (placed_source place (fetch_form form))
  convs ← convs_to_end source.1
  plain (Ok (record { written = record { source = source.0; convs = convs }; how = match_in form.name }))

-- ---- values

-- patterns, in their order
unfoldable pub patterns_from : (icase : Bool) → List TestValue → List (List ℕ) → TextReading (List TestValue)
patterns_from icase so_far [] = plain (Ok so_far)
patterns_from icase so_far (word ∷ others) =
    built (record { text = word; icase = icase }) >>= λ pat. patterns_from icase (so_far ++ values.Pattern pat ∷ []) others

-- one value or more, as the match has them; `found` and `bool` have none
abbrev pub some_values : Match → (icase : Bool) → List (List ℕ) → TextReading (List TestValue)
some_values matches.Found icase words = plain (Err Acl)
some_values matches.Bool icase words = plain (Err Acl)
some_values matches.Int icase words = plain (ranges_from no_ranges words)
some_values matches.Len icase words = plain (ranges_from no_ranges words)
some_values matches.Str icase words = plain (Ok (literals words))
some_values matches.Beg icase words = plain (Ok (literals words))
some_values matches.End icase words = plain (Ok (literals words))
some_values matches.Sub icase words = plain (Ok (literals words))
some_values matches.Reg icase words = patterns_from icase [] words

-- a match that needs no value
abbrev pub needs_none : Match → Bool
needs_none matches.Found = true
needs_none matches.Bool = true
needs_none _ = false

unfoldable pub values_of : Match → (icase : Bool) → List (List ℕ) → TextReading (List TestValue)
values_of how icase [] = plain (if needs_none how then Ok [] else Err Acl)
values_of how icase (word ∷ others) = some_values how icase (word ∷ others)

-- ---- the whole

-- the match that counts: the last `-m`, or that behind the fetch's name, or that of what the expression gives
abbrev pub first_of_two : Option Match → Match → Match
first_of_two None other = other
first_of_two (Some how) other = how

abbrev pub chosen_match : Criterion → Flags → Match
chosen_match criterion flags = first_of_two flags.how (first_of_two criterion.how (default_match criterion.written))

-- what stands behind the criterion and the flags
unfoldable pub flagged_test : Criterion → Flags → List (List ℕ) → TextReading WrittenTest
flagged_test criterion flags others = do
  tried ← values_of (chosen_match criterion flags) flags.icase others
  plain (Ok (record { written = criterion.written; how = chosen_match criterion flags; icase = flags.icase; values = tried }))

-- what stands behind the criterion
unfoldable pub test_behind : Criterion → List (List ℕ) → TextReading WrittenTest
test_behind criterion others = do
  flags ← plain (flags_from false no_flags others)
  flagged_test criterion flags.0 flags.1

-- the criterion and the words behind it
unfoldable pub test_of : Option Side → List ℕ → List (List ℕ) → TextReading WrittenTest
test_of place word others = criterion_of place word >>= λ criterion. test_behind criterion others
