-- No pair is named `HTTP_PROXY`.
use Rattle.std.proofs.Common.{◌≡◌, ◌≢◌, ℕ, ◌+◌, ◌-◌, ◌≤◌, Bool, true, false, not, cond, ◌||◌, ◌&&◌, nat_eq, nat_lt, map, List, [], ◌∷◌, ◌++◌, drop, codes, Option, Some, None, refl, sym, ap, ◌∙◌, arith}
use lib.Pointwise.{bytes_decides}
use Rattle.std.specs.List.{AllByRecursion}
use Rattle.std.specs.Char.{to_ascii_lowercase}
use Rattle.std.specs.Str.{bytes_eq}
use Rattle.std.proofs.lemmas.Bool.{lt-ltb, le-ltb, ltb-false}
use Rattle.http_model.specs.Head.{Field}
use Rattle.http_model.specs.Fields.{same_name, is_named, is_named_among, has_field}
use Rattle.http_model.specs.declared.Framing.{Framing}
use Rattle.http_model.specs.declared.Framing.TheVariants.{Absent, Length, Chunked, ToClose}
use Rattle.uri_parts.specs.Target.{TargetParts, target_parts}
use Rattle.fcgi_model.specs.Application.{Application, param_field}
use Rattle.fcgi_model.specs.Head.{first_value}
use Rattle.fcgi_model.specs.Head.{RequestHead}
use Rattle.fcgi_model.specs.Pairs.{Pair, call_pairs, script_pairs, length_pairs, type_pairs, kept_back, has_underscore, is_handed, variable_byte, variable_name, later_values, field_pair, field_pairs, rest_pairs, param_pair, param_pairs, pairs_of}

abbrev proxy_variable : List ℕ
proxy_variable = codes "HTTP_PROXY"

abbrev IsOther : Pair → Type 0
IsOther pair = pair.0 ≢ proxy_variable

-- ---- letters

-- a byte that becomes this capital is that letter, of either case
letter_by : (b u : ℕ) (dash low high : Bool) → nat_lt b 97 ≡ low → nat_lt b 123 ≡ high → cond dash 95 (cond low b (cond high (b - 32) b)) ≡ u → 65 ≤ u → u ≤ 90 → to_ascii_lowercase b ≡ to_ascii_lowercase u
letter_by b u true low high l h e some most = let odd : 95 ≡ u = e in absurd (omega (arith, odd, most))
letter_by b u false true high l h e some most = ap to_ascii_lowercase e
letter_by b u false false true l h e some most =
    let from : 97 ≤ b = ltb-false b 97 l in
    let is : b ≡ u + 32 = omega (arith, from, e) in
    let here : to_ascii_lowercase b ≡ b =
    ap (λ (t : Bool). cond t b (cond (nat_lt b 91) (b + 32) b)) (le-ltb b 65 (omega (arith, from))) ∙ ap (λ (t : Bool). cond t (b + 32) b) (le-ltb b 91 (omega (arith, from))) in
    let there : to_ascii_lowercase u ≡ u + 32 =
    ap (λ (t : Bool). cond t u (cond (nat_lt u 91) (u + 32) u)) (le-ltb u 65 some) ∙ ap (λ (t : Bool). cond t (u + 32) u) (lt-ltb u 91 (omega (arith, most))) in
    here ∙ is ∙ sym there
letter_by b u false false false l h e some most =
    let from : 123 ≤ b = ltb-false b 123 h in
    absurd (omega (arith, from, e, most))

letter : (b u : ℕ) → variable_byte b ≡ u → 65 ≤ u → u ≤ 90 → to_ascii_lowercase b ≡ to_ascii_lowercase u
letter b u e some most = letter_by b u (nat_eq b 45) (nat_lt b 97) (nat_lt b 123) refl refl e some most

abbrev IsCapital : ℕ → Type 0
IsCapital u = (65 ≤ u) × (u ≤ 90)

letters : (name capitals : List ℕ) → map variable_byte name ≡ capitals → AllByRecursion IsCapital capitals → map to_ascii_lowercase name ≡ map to_ascii_lowercase capitals
letters [] [] e h = refl
letters [] (u ∷ capitals) e h = absurd cc
letters (b ∷ name) [] e h = absurd cc
letters (b ∷ name) (u ∷ capitals) e h =
    let first : variable_byte b ≡ u = cc in
    let rest : map variable_byte name ≡ capitals = cc in
    ap (λ (x : ℕ). x ∷ map to_ascii_lowercase name) (letter b u first h.0.0 h.0.1) ∙ ap (λ (xs : List ℕ). to_ascii_lowercase u ∷ xs) (letters name capitals rest h.1)

capitals_are : AllByRecursion IsCapital (codes "PROXY")
capitals_are = ((omega arith, omega arith), ((omega arith, omega arith), ((omega arith, omega arith), ((omega arith, omega arith), ((omega arith, omega arith), tt)))))

-- a field whose variable has this name is named `proxy`
is_proxy : (name : List ℕ) → variable_name name ≡ proxy_variable → same_name name (codes "proxy") ≡ true
is_proxy name e =
    let rest : map variable_byte name ≡ codes "PROXY" = ap (drop 5) e in
    (bytes_decides (map to_ascii_lowercase name) (codes "proxy")).1 (letters name (codes "PROXY") rest capitals_are)

-- ---- fields

second_on : (a b : Bool) → b ≡ true → a || b ≡ true
second_on true b h = refl
second_on false b h = h

first_on : (a b : Bool) → a ≡ true → a || b ≡ true
first_on a b h = ap (λ (t : Bool). t || b) h

kept : (field : Field) → same_name field.0 (codes "proxy") ≡ true → is_named_among kept_back field ≡ true
kept field h =
    let named : List ℕ → Bool = λ (name : List ℕ). is_named name field in
    second_on (named (codes "content-length")) _ (second_on (named (codes "content-type")) _ (second_on (named (codes "transfer-encoding")) _ (second_on (named (codes "connection")) _ (first_on (named (codes "proxy")) false h))))

not_handed : (field : Field) → same_name field.0 (codes "proxy") ≡ true → is_handed field ≡ false
not_handed field h = ap not (first_on (is_named_among kept_back field) (has_underscore field.0) (kept field h))

one_pair : (value : List ℕ) (field : Field) (handed new : Bool) → is_handed field ≡ handed → AllByRecursion IsOther (cond (handed && new) ((variable_name field.0, value) ∷ []) [])
one_pair value field false new is = tt
one_pair value field true false is = tt
one_pair value field true true is = ((λ e. let off = not_handed field (is_proxy field.0 e) in absurd cc), tt)

all_pairs : (first second : List Pair) → AllByRecursion IsOther first → AllByRecursion IsOther second → AllByRecursion IsOther (first ++ second)
all_pairs [] second a b = b
all_pairs (pair ∷ first) second a b = (a.0, all_pairs first second a.1 b)

fields_other : (before fields : List Field) → AllByRecursion IsOther (field_pairs before fields)
fields_other before [] = tt
fields_other before (field ∷ fields) =
    all_pairs (field_pair before field fields) (field_pairs (before ++ field ∷ []) fields)
    (one_pair (field.1 ++ later_values field.0 fields) field (is_handed field) (not (has_field field.0 before)) refl) (fields_other (before ++ field ∷ []) fields)

-- ---- the other pairs

other_name : (name : List ℕ) → bytes_eq name proxy_variable ≡ false → name ≢ proxy_variable
other_name name off e = let on = (bytes_decides name proxy_variable).1 e in absurd cc

call_other : (method target : List ℕ) → AllByRecursion IsOther (call_pairs method target)
call_other method target =
    (other_name (codes "GATEWAY_INTERFACE") refl, (other_name (codes "REQUEST_METHOD") refl, (other_name (codes "SERVER_PROTOCOL") refl, (other_name (codes "REQUEST_URI") refl, tt))))

script_other : (application : Application) (parts : TargetParts) → AllByRecursion IsOther (script_pairs application parts)
script_other application parts =
    (other_name (codes "SCRIPT_NAME") refl, (other_name (codes "SCRIPT_FILENAME") refl, (other_name (codes "DOCUMENT_ROOT") refl, (other_name (codes "QUERY_STRING") refl, tt))))

length_other : (framing : Framing) → AllByRecursion IsOther (length_pairs framing)
length_other Absent = tt
length_other (Length n) = (other_name (codes "CONTENT_LENGTH") refl, tt)
length_other Chunked = tt
length_other ToClose = tt

type_other : (kind : Option (List ℕ)) → AllByRecursion IsOther (type_pairs kind)
type_other None = tt
type_other (Some kind) = (other_name (codes "CONTENT_TYPE") refl, tt)

param_other : (name : List ℕ) (value : Option (List ℕ)) → name ≢ proxy_variable → AllByRecursion IsOther (param_pair name value)
param_other name None other = tt
param_other name (Some value) other = (other, tt)

params_other : (names : List (List ℕ)) (fields : List Field) → AllByRecursion (λ name. name ≢ proxy_variable) names → AllByRecursion IsOther (param_pairs names fields)
params_other [] fields other = tt
params_other (name ∷ names) fields other =
    all_pairs (param_pair name (first_value (param_field name) fields)) (param_pairs names fields) (param_other name (first_value (param_field name) fields) other.0) (params_other names fields other.1)

pub no_proxy : (application : Application) (head : RequestHead) (framing : Framing) → AllByRecursion (λ name. name ≢ proxy_variable) application.params
    → AllByRecursion IsOther (pairs_of application head framing)
no_proxy application head framing other =
    let script : List Pair = script_pairs application (target_parts head.target) in
    let rest : List Pair = rest_pairs head.fields framing in
    let typed : List Pair = type_pairs (first_value (codes "content-type") head.fields) in
    let named : List Pair = field_pairs [] head.fields in
    let params : List Pair = param_pairs application.params head.fields in
    all_pairs (call_pairs head.method head.target) (script ++ (rest ++ params)) (call_other head.method head.target)
    (all_pairs script (rest ++ params) (script_other application (target_parts head.target))
    (all_pairs rest params
    (all_pairs (length_pairs framing) (typed ++ named) (length_other framing)
    (all_pairs typed named (type_other (first_value (codes "content-type") head.fields)) (fields_other [] head.fields)))
    (params_other application.params head.fields other)))
