-- `acl` lines, and the tests that a name stands for (Configuration Manual, sections 7.1 and 7.4).
use Rattle.std.specs.Prelude.{ℕ, Bool, true, false, not, ◌&&◌, ◌||◌, ◌==◌, List, [], ◌∷◌, ◌++◌, length, count_by, nat_le, nat_lt, Option, Some, None, is_some, Ok, Err, if◌then◌else◌, codes}
use Rattle.std.specs.List.{list_all}
use Rattle.std.specs.Char.{is_ascii_alphanumeric}
use Rattle.std.specs.Str.{bytes_eq}
use Rattle.px_sample.specs.declared.fetch.Fetch.{Fetch}
use Rattle.px_sample.specs.declared.fetch.Fetch.TheVariants as fetches
use Rattle.acl_eval.specs.declared.condition.Match.{Match}
use Rattle.acl_eval.specs.declared.condition.Match.TheVariants as matches
use Rattle.acl_eval.specs.declared.condition.Test.{Test}
use Rattle.cfg_expr.specs.declared.fault.TextKind.TheVariants.{Argument, Acl, Limit}
use Rattle.cfg_expr.specs.declared.side.Side.{Side}
use Rattle.cfg_expr.specs.declared.side.Side.TheVariants.{Request, Response}
use Rattle.cfg_expr.specs.Steps.{◌>>=◌}
use Rattle.cfg_expr.specs.Faults.{Told}
use Rattle.cfg_expr.specs.Sides.{on_side}
use Rattle.cfg_expr.specs.declared.condition.names.Predefined.{Predefined}
use Rattle.cfg_expr.specs.declared.condition.names.Predefined.TheVariants as names
use Rattle.cfg_expr.specs.declared.condition.written.WrittenTest.{WrittenTest}
use Rattle.cfg_expr.specs.declared.condition.written.AclLine.{AclLine}
use Rattle.cfg_expr.specs.Condition.Values.{literals}

-- ---- a test in a direction

-- the test with the fetch that its source is there
abbrev pub with_fetch : WrittenTest → Option Fetch → Told Test
with_fetch written None = Err Acl
with_fetch written (Some fetch) =
    Ok (record {
      expr = record { fetch = fetch; convs = written.written.convs };
      how = written.how;
      icase = written.icase;
      values = written.values;
    })

abbrev pub test_on : Side → WrittenTest → Told Test
test_on side written = with_fetch written (on_side side written.written.source)

-- ---- names

-- a letter, a digit, `-`, `_`, `.` or `:`
abbrev pub is_name_byte : ℕ → Bool
is_name_byte b = is_ascii_alphanumeric b || b == 45 || b == 95 || b == 46 || b == 58

abbrev pub is_acl_name : List ℕ → Bool
is_acl_name word = nat_le 1 (length word) && list_all is_name_byte word

-- a fetch without converters, tried against texts
abbrev pub plain_test : Fetch → Match → List (List ℕ) → Test
plain_test fetch how words =
    record { expr = record { fetch = fetch; convs = [] }; how = how; icase = false; values = literals words }

-- a predefined name
unfoldable pub predefined_of : List ℕ → Option Predefined
predefined_of name =
    if bytes_eq name (codes "TRUE") then Some names.True
    else (if bytes_eq name (codes "FALSE") then Some names.False
    else (if bytes_eq name (codes "METH_GET") then Some names.MethGet
    else (if bytes_eq name (codes "METH_HEAD") then Some names.MethHead
    else (if bytes_eq name (codes "METH_POST") then Some names.MethPost
    else (if bytes_eq name (codes "METH_PUT") then Some names.MethPut
    else (if bytes_eq name (codes "METH_DELETE") then Some names.MethDelete
    else (if bytes_eq name (codes "METH_OPTIONS") then Some names.MethOptions
    else (if bytes_eq name (codes "HTTP_1.0") then Some names.Http10
    else (if bytes_eq name (codes "HTTP_1.1") then Some names.Http11
    else (if bytes_eq name (codes "HTTP_URL_SLASH") then Some names.HttpUrlSlash
    else (if bytes_eq name (codes "HTTP_URL_STAR") then Some names.HttpUrlStar
    else None)))))))))))

-- what it stands for
abbrev pub predefined_test : Predefined → Test
predefined_test names.True = plain_test fetches.AlwaysTrue matches.Bool []
predefined_test names.False = plain_test fetches.AlwaysFalse matches.Bool []
predefined_test names.MethGet = plain_test fetches.Method matches.Str (codes "GET" ∷ codes "HEAD" ∷ [])
predefined_test names.MethHead = plain_test fetches.Method matches.Str (codes "HEAD" ∷ [])
predefined_test names.MethPost = plain_test fetches.Method matches.Str (codes "POST" ∷ [])
predefined_test names.MethPut = plain_test fetches.Method matches.Str (codes "PUT" ∷ [])
predefined_test names.MethDelete = plain_test fetches.Method matches.Str (codes "DELETE" ∷ [])
predefined_test names.MethOptions = plain_test fetches.Method matches.Str (codes "OPTIONS" ∷ [])
predefined_test names.Http10 = plain_test fetches.ReqVer matches.Str (codes "1.0" ∷ [])
predefined_test names.Http11 = plain_test fetches.ReqVer matches.Str (codes "1.1" ∷ [])
predefined_test names.HttpUrlSlash = plain_test fetches.Url matches.Beg (codes "/" ∷ [])
predefined_test names.HttpUrlStar = plain_test fetches.Url matches.Str (codes "*" ∷ [])

-- it is one of requests alone
abbrev pub is_of_requests : Predefined → Bool
is_of_requests names.Http10 = true
is_of_requests names.Http11 = true
is_of_requests names.HttpUrlSlash = true
is_of_requests names.HttpUrlStar = true
is_of_requests _ = false

-- the direction has it
abbrev pub has_predefined : Side → Predefined → Bool
has_predefined Request which = true
has_predefined Response which = not (is_of_requests which)

-- no line may declare it
abbrev pub is_predefined : List ℕ → Bool
is_predefined name = is_some (predefined_of name)

-- ---- lines

abbrev pub is_named : List ℕ → AclLine → Bool
is_named name line = bytes_eq line.name name

-- the tests of all lines of a name, behind those so far
abbrev pub tests_from : Side → List ℕ → List Test → List AclLine → Told (List Test)
tests_from side name so_far [] = Ok so_far
tests_from side name so_far (line ∷ lines) =
    if is_named name line then (test_on side line.test >>= λ test. tests_from side name (so_far ++ test ∷ []) lines)
    else tests_from side name so_far lines

-- a name needs a line above
abbrev pub some_tests : List Test → Told (List Test)
some_tests [] = Err Acl
some_tests (test ∷ tests) = Ok (test ∷ tests)

-- what a name stands for: its own test where it is predefined, else those of the lines of the name
abbrev pub tests_by : Side → List AclLine → List ℕ → Option Predefined → Told (List Test)
tests_by side lines name (Some which) = if has_predefined side which then Ok (predefined_test which ∷ []) else Err Acl
tests_by side lines name None = tests_from side name [] lines >>= some_tests

abbrev pub named_tests : Side → List AclLine → List ℕ → Told (List Test)
named_tests side lines name = tests_by side lines name (predefined_of name)

-- ---- one more line

abbrev pub most_lines : ℕ
most_lines = 1024

abbrev pub most_lines_of_a_name : ℕ
most_lines_of_a_name = 64

-- a line may declare the name
abbrev pub declared_name : List ℕ → Told (List ℕ)
declared_name word = if not (is_acl_name word) then Err Argument else (if is_predefined word then Err Acl else Ok word)

-- with one more line, unless there are too many of all or of its name
abbrev pub with_line : List AclLine → AclLine → Told (List AclLine)
with_line lines line =
    if nat_lt (length lines) most_lines && nat_lt (count_by (is_named line.name) lines) most_lines_of_a_name then Ok (lines ++ line ∷ [])
    else Err Limit
