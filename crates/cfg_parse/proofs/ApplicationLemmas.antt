-- What the lines of an application leave is such as a configuration may have.
use Rattle.std.proofs.Common.{◌≡◌, ℕ, ◌+◌, ◌≤◌, Bool, true, false, cond, ltb, leb, List, [], ◌∷◌, ◌++◌, length, take, map, Option, Some, None, Result, Ok, Err, refl, ap, subst, arith}
use Rattle.std.specs.Prelude.{not, ◌&&◌, ◌||◌, ◌==◌, IfSome, codes}
use Rattle.std.specs.List.{AllByRecursion, list_all}
use Rattle.std.specs.Str.{bytes_eq}
use Rattle.std.specs.Char.{is_ascii_uppercase, is_ascii_digit, is_ascii_alphanumeric}
use Rattle.std.proofs.lemmas.Bool.Decides.{nat_tests}
use Rattle.px_bytes.specs.Tokens.{is_token, is_token_byte}
use Rattle.fcgi_model.specs.Application.{Application, param_field}
use Rattle.log_format.specs.declared.fmt.Fmt.{Fmt}
use Rattle.acl_eval.specs.declared.condition.Cond.{Cond}
use Rattle.http_rules.specs.declared.rule.rule.Rule.{Rule}
use Rattle.http_rules.specs.declared.rule.action.Direction.TheVariants as lists
use Rattle.http_rules.specs.Rule.Valid.{IsName, IsMadeName, IsGoodRule}
use Rattle.http_rules.specs.Valid.{IsPath, IsScript, IsParam, IsApplication, is_param_byte}
use Rattle.cfg_parse.specs.declared.fault.CfgKind.{CfgKind}
use Rattle.cfg_parse.specs.declared.fault.CfgKind.TheVariants.{Argument, Missing}
use Rattle.cfg_parse.specs.declared.draft.ApplicationLines.{ApplicationLines}
use Rattle.cfg_parse.specs.Reading.{◌>>=◌, argument, no_more}
use Rattle.cfg_parse.specs.Applications.{path_of, last_path, begins_with_slash, script_of}
use Rattle.cfg_parse.specs.Pairs.{is_among, with_name}
use Rattle.cfg_parse.specs.Action.Params.{is_param, param_set}
use Rattle.cfg_parse.specs.Sound.{IsSoundApplication}
use Rattle.cfg_parse.specs.Whole.{param_removal, application_below, tells_more, application_of}
use Rattle.cfg_parse.proofs.ActionLemmas.NameLemmas.{lower_name}
use Rattle.cfg_parse.proofs.StepLemmas.{bind_ok, passed, given, ok_is, and_true}

-- ---- paths

path_of-good : (word path : List ℕ) → path_of word ≡ Ok path → IsPath path
unfolding path_of
path_of-good word path e =
    let test = passed (leb 1 (length word) && leb (length word) 255) Argument (given word) path e in
    let both = and_true (leb 1 (length word)) (leb (length word) 255) test.0 in
    let some : 1 ≤ length word = grind (arith, nat_tests) in
    let short : length word ≤ 255 = grind (arith, nat_tests) in
    subst IsPath (ok_is word path test.1) (record { some = some; short = short })

pub last_path-good : (arguments : List (List ℕ)) (path : List ℕ) → last_path arguments ≡ Ok path → IsPath path
unfolding last_path
last_path-good arguments path e =
    let word = bind_ok (argument arguments) _ path e in
    let first = bind_ok (path_of word.0.0) _ path word.1.1 in
    let ended = bind_ok (no_more word.0.1) _ path first.1.1 in
    subst IsPath (ok_is first.0 path ended.1.1) (path_of-good word.0.0 first.0 first.1.0)

slash_taken : (path : List ℕ) → begins_with_slash path ≡ true → bytes_eq (take 1 path) (codes "/") ≡ true
slash_taken [] e = absurd cc
slash_taken (b ∷ bs) e = ap (λ (t : Bool). t && true) e

pub script_of-good : (arguments : List (List ℕ)) (path : List ℕ) → script_of arguments ≡ Ok path → IsScript path
unfolding script_of
script_of-good arguments path e =
    let file = bind_ok (last_path arguments) _ path e in
    let test = passed (begins_with_slash file.0) Argument (given file.0) path file.1.1 in
    subst IsScript (ok_is file.0 path test.1) (record { file = last_path-good arguments file.0 file.1.0; slash = slash_taken file.0 test.0 })

-- ---- names of pairs

not_true : (b : Bool) → not b ≡ true → b ≡ false
not_true true e = absurd cc
not_true false e = refl

-- a word that is taken is such a name
pub is_param-good : (word : List ℕ) → is_param word ≡ true → IsParam word
unfolding is_param
is_param-good word e =
    let both = and_true (leb 1 (length word) && leb (length word) 64) (list_all is_param_byte word && not (bytes_eq word (codes "HTTP_PROXY"))) e in
    let size = and_true (leb 1 (length word)) (leb (length word) 64) both.0 in
    let rest = and_true (list_all is_param_byte word) (not (bytes_eq word (codes "HTTP_PROXY"))) both.1 in
    let some : 1 ≤ length word = grind (arith, nat_tests) in
    let short : length word ≤ 64 = grind (arith, nat_tests) in
    record { some = some; short = short; bytes = rest.0; free = not_true (bytes_eq word (codes "HTTP_PROXY")) rest.1 }

both_true : (a b : Bool) → a ≡ true → b ≡ true → (a && b) ≡ true
both_true true b first second = second
both_true false b first second = absurd cc

param_byte_is_token : (b : ℕ) → is_param_byte b ≡ true → is_token_byte b ≡ true
unfolding is_token_byte
param_byte_is_token b e = grind (arith, nat_tests)

tokens_of : (name : List ℕ) → list_all is_param_byte name ≡ true → list_all is_token_byte name ≡ true
tokens_of [] all = refl
tokens_of (b ∷ name) all =
    let both = and_true (is_param_byte b) (list_all is_param_byte name) all in
    let first = param_byte_is_token b both.0 in
    let others = tokens_of name both.1 in
    rw (first, others) refl

-- the field of a pair is one that a rule may make
pub param_made : (name : List ℕ) → IsParam name → IsMadeName (param_field name)
unfolding is_token_byte
param_made name is =
    let tokens = tokens_of name is.bytes in
    let short : leb (length (95 ∷ name)) 255 ≡ true = let few = is.short in grind (arith, nat_tests) in
    let full : ltb 0 (length (95 ∷ name)) ≡ true = grind (arith, nat_tests) in
    let token : is_token (95 ∷ name) ≡ true = both_true (ltb 0 (length (95 ∷ name))) (list_all is_token_byte (95 ∷ name)) full tokens in
    let word : (is_token (95 ∷ name) && leb (length (95 ∷ name)) 255) ≡ true = both_true (is_token (95 ∷ name)) (leb (length (95 ∷ name)) 255) token short in
    record { named = lower_name (95 ∷ name) (param_field name) word refl; free = refl }

-- the rule that makes it stands on requests
pub param_set-good : (name : List ℕ) (fmt : Fmt) (cond : Option Cond) → IsParam name → IsGoodRule lists.Request (param_set name fmt cond)
param_set-good name fmt cond is = record { stands = refl; good = param_made name is }

-- ---- lists

pub all_push : {X : Type 0} (P : X → Type 0) (xs : List X) (x : X) → AllByRecursion P xs → P x → AllByRecursion P (xs ++ x ∷ [])
all_push P [] x all good = (good, tt)
all_push P (y ∷ xs) x all good = (all.0, all_push P xs x all.1 good)

pub all_append : {X : Type 0} (P : X → Type 0) (xs ys : List X) → AllByRecursion P xs → AllByRecursion P ys → AllByRecursion P (xs ++ ys)
all_append P [] ys all others = others
all_append P (x ∷ xs) ys all others = (all.0, all_append P xs ys all.1 others)

pub with_name-good : (names : List (List ℕ)) (name : List ℕ) → AllByRecursion IsParam names → IsParam name → AllByRecursion IsParam (with_name names name)
with_name-good names name all good = by (is_among names name)
  where
    by : (among : Bool) → AllByRecursion IsParam (cond among names (names ++ name ∷ []))
    by true = all
    by false = all_push IsParam names name all good

pub removals_good : (names : List (List ℕ)) → AllByRecursion IsParam names → AllByRecursion (IsGoodRule lists.Request) (map param_removal names)
removals_good [] all = tt
removals_good (name ∷ names) all = (record { stands = refl; good = (param_made name all.0).named }, removals_good names all.1)

-- ---- applications

-- whether the server is one says nothing of the others
pub asked_sound : (lines : ApplicationLines) (asked : Bool) → IsSoundApplication lines → IsSoundApplication (record lines { is_asked = asked })
asked_sound lines asked s = record { root = s.root; index = s.index; script = s.script; params = s.params }

below_good : (lines : ApplicationLines) (root : Option (List ℕ)) (app : Option Application) → IsSoundApplication lines → IfSome root IsPath → application_below lines root ≡ Ok app → IfSome app IsApplication
below_good lines None app s good e = absurd cc
below_good lines (Some root) app s good e =
    let made : Application = record { root = root; index = lines.index; script = lines.script; params = lines.params } in
    subst (λ (o : Option Application). IfSome o IsApplication) (ok_is (Some made) app e) (record { root = good; index = s.index; script = s.script; params = s.params })

none_good : (more : Bool) (app : Option Application) → cond more (Err Missing) (given None) ≡ Ok app → IfSome app IsApplication
none_good true app e = absurd cc
none_good false app e = subst (λ (o : Option Application). IfSome o IsApplication) (ok_is None app e) tt

pub application_of-good : (lines : ApplicationLines) (app : Option Application) → IsSoundApplication lines → application_of lines ≡ Ok app → IfSome app IsApplication
unfolding application_of
application_of-good lines app s e = by lines.is_asked e
  where
    by : (asked : Bool) → cond asked (application_below lines lines.root) (cond (tells_more lines) (Err Missing) (given None)) ≡ Ok app → IfSome app IsApplication
    by true is = below_good lines lines.root app s s.root is
    by false is = none_good (tells_more lines) app is

pub ruleset params = (is_param-good, param_set-good)
