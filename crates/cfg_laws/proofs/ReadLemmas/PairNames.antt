-- The names of pairs that lines tell: their fields tell them apart, and each rule of a pair sets the field of one of them.
use Rattle.std.proofs.Common.{◌≡◌, ℕ, ◌+◌, ◌<◌, ◌≤◌, ◌⊎◌, inl, inr, Bool, true, false, cond, List, [], ◌∷◌, ◌++◌, length, map, refl, sym, ap, ◌∙◌, arith}
use Rattle.std.proofs.lemmas.Bool.{false≢true, and_from, cases_lt}
use Rattle.std.proofs.lemmas.Bool.Decides.{nat_tests}
use Rattle.std.proofs.lemmas.List.Folds.{list_all-append}
use Rattle.std.proofs.lemmas.Slice.Eq.{bytes_eq-Decides}
use Rattle.std.proofs.lemmas.Str.Ascii.{lowercase_is}
use Rattle.std.specs.Prelude.{◌&&◌, ◌||◌, Option}
use Rattle.std.specs.Char.{to_ascii_lowercase}
use Rattle.std.specs.List.{list_all, list_any, AllByRecursion}
use Rattle.std.specs.Str.{bytes_eq}
use Rattle.fcgi_model.specs.Application.{param_field}
use Rattle.http_rules.specs.Valid.{is_param_byte, IsParam}
use Rattle.http_rules.specs.declared.rule.action.Action.{Action}
use Rattle.http_rules.specs.declared.rule.rule.Rule.{Rule}
use Rattle.acl_eval.specs.declared.condition.Cond.{Cond}
use Rattle.log_format.specs.declared.fmt.Fmt.{Fmt}
use Rattle.cfg_parse.specs.Action.Params.{param_set}
use Rattle.cfg_parse.specs.Pairs.{is_among, with_name}
use Rattle.cfg_print.specs.Pairs.{is_field_of, sets_one, is_set, name_in}
use Rattle.cfg_laws.specs.Laws.Listing.{name_told, names_told}
use Rattle.cfg_laws.specs.Laws.ReadPairs.{ArePairs}
use Rattle.cfg_laws.proofs.LawLemmas.Pairing.{by_set}
use Rattle.cfg_laws.proofs.LawLemmas.Words.{both_left, both_right}

-- ---- fields

low : (b : ℕ) → is_param_byte b ≡ true → b ≤ 95
low b h = grind (arith, nat_tests, h)

-- a letter becomes greater by 32, and is beyond any other byte of a name then
abbrev Lower : ℕ → Type 0
Lower b = ((to_ascii_lowercase b ≡ b + 32) × (65 ≤ b)) ⊎ (to_ascii_lowercase b ≡ b)

lower : (b : ℕ) → Lower b
lower b = by (cases_lt b 65) (cases_lt b 91)
  where
    by : (b < 65) ⊎ (65 ≤ b) → (b < 91) ⊎ (91 ≤ b) → Lower b
    by (inl below) other = inr ((lowercase_is b).1 below)
    by (inr above) (inl within) = inl ((lowercase_is b).0 (above, omega (arith, within)), above)
    by (inr above) (inr beyond) = inr ((lowercase_is b).2 (omega (arith, beyond)))

-- bytes of names that are the same in lower case are the same
byte_same : (a b : ℕ) → is_param_byte a ≡ true → is_param_byte b ≡ true → to_ascii_lowercase a ≡ to_ascii_lowercase b → a ≡ b
byte_same a b h i e = by (lower a) (lower b) (low a h) (low b i)
  where
    by : Lower a → Lower b → a ≤ 95 → b ≤ 95 → a ≡ b
    by (inl p) (inl q) x y = let one = p.0 in let other = q.0 in omega (arith, one, other, e)
    by (inl p) (inr q) x y = let one = p.0 in let least = p.1 in absurd (omega (arith, one, least, q, e, y))
    by (inr p) (inl q) x y = let one = q.0 in let least = q.1 in absurd (omega (arith, one, least, p, e, x))
    by (inr p) (inr q) x y = sym p ∙ e ∙ q

abbrev bytes_behind : List ℕ → List ℕ
bytes_behind [] = []
bytes_behind (b ∷ bs) = bs

abbrev byte_first : List ℕ → ℕ
byte_first [] = 0
byte_first (b ∷ bs) = b

bytes_same : (a b : List ℕ) → list_all is_param_byte a ≡ true → list_all is_param_byte b ≡ true → map to_ascii_lowercase a ≡ map to_ascii_lowercase b → a ≡ b
bytes_same [] [] h i e = refl
bytes_same [] (y ∷ ys) h i e = let sizes = ap length e in absurd (omega (arith, sizes))
bytes_same (x ∷ xs) [] h i e = let sizes = ap length e in absurd (omega (arith, sizes))
bytes_same (x ∷ xs) (y ∷ ys) h i e =
    let first = byte_same x y (both_left (is_param_byte x) (list_all is_param_byte xs) h) (both_left (is_param_byte y) (list_all is_param_byte ys) i) (ap byte_first e) in
    let rest = bytes_same xs ys (both_right (is_param_byte x) (list_all is_param_byte xs) h) (both_right (is_param_byte y) (list_all is_param_byte ys) i) (ap bytes_behind e) in
    ap (λ b. b ∷ xs) first ∙ ap (λ (bs : List ℕ). y ∷ bs) rest

-- names with the same field are the same
names_same : (name other : List ℕ) → IsParam name → IsParam other → param_field name ≡ param_field other → name ≡ other
names_same name other is also e = bytes_same name other is.bytes also.bytes (ap bytes_behind e)

-- ---- a name among others

or_true : (t : Bool) → (t || true) ≡ true
or_true true = refl
or_true false = refl

or_more : (t u v : Bool) → (t || u) ≡ true → (u ≡ true → v ≡ true) → (t || v) ≡ true
or_more true u v h more = refl
or_more false u v h more = more h

-- the field of a name among these is one of theirs
field_found : (names : List (List ℕ)) (name : List ℕ) → is_among names name ≡ true → list_any (is_field_of (param_field name)) names ≡ true
field_found [] name h = absurd (false≢true h)
field_found (other ∷ names) name h = by (bytes_eq other name) refl h (λ i. field_found names name i)
  where
    by : (t : Bool) → bytes_eq other name ≡ t → (t || is_among names name) ≡ true → (is_among names name ≡ true → list_any (is_field_of (param_field name)) names ≡ true) → (is_field_of (param_field name) other || list_any (is_field_of (param_field name)) names) ≡ true
    by true is h later = ap (λ t. t || list_any (is_field_of (param_field name)) names) ((bytes_eq-Decides (param_field name) (param_field other)).1 (ap param_field (sym ((bytes_eq-Decides other name).0 is))))
    by false is h later = ap (λ t. is_field_of (param_field name) other || t) (later h) ∙ or_true (is_field_of (param_field name) other)

-- and it tells which
name_again : (names : List (List ℕ)) (name : List ℕ) → AllByRecursion IsParam names → IsParam name → list_any (is_field_of (param_field name)) names ≡ true → name_in names (param_field name) ≡ name
name_again [] name each is h = absurd (false≢true h)
name_again (other ∷ names) name each is h = by (is_field_of (param_field name) other) refl h (λ i. name_again names name each.1 is i)
  where
    by : (t : Bool) → is_field_of (param_field name) other ≡ t → (t || list_any (is_field_of (param_field name)) names) ≡ true → (list_any (is_field_of (param_field name)) names ≡ true → name_in names (param_field name) ≡ name) → cond t other (name_in names (param_field name)) ≡ name
    by true same h later = sym (names_same name other is each.0 ((bytes_eq-Decides (param_field name) (param_field other)).0 same))
    by false same h later = later h

last_among : (names : List (List ℕ)) (name : List ℕ) → is_among (names ++ name ∷ []) name ≡ true
last_among [] name = ap (λ t. t || false) ((bytes_eq-Decides name name).1 refl)
last_among (other ∷ names) name = ap (λ t. bytes_eq other name || t) (last_among names name) ∙ or_true (bytes_eq other name)

-- ---- with one more name

any_more : (test : List ℕ → Bool) (names : List (List ℕ)) (name : List ℕ) → list_any test names ≡ true → list_any test (names ++ name ∷ []) ≡ true
any_more test [] name h = absurd (false≢true h)
any_more test (other ∷ names) name h = or_more (test other) (list_any test names) (list_any test (names ++ name ∷ [])) h (any_more test names name)

name_in_more : (names : List (List ℕ)) (name field : List ℕ) → list_any (is_field_of field) names ≡ true → name_in (names ++ name ∷ []) field ≡ name_in names field
name_in_more [] name field h = absurd (false≢true h)
name_in_more (other ∷ names) name field h = by (is_field_of field other) h (λ i. name_in_more names name field i)
  where
    by : (t : Bool) → (t || list_any (is_field_of field) names) ≡ true → (list_any (is_field_of field) names ≡ true → name_in (names ++ name ∷ []) field ≡ name_in names field) → cond t other (name_in (names ++ name ∷ []) field) ≡ cond t other (name_in names field)
    by true h later = refl
    by false h later = later h

-- a rule sets the field of the same name with one more name behind
pub record StaysSet (names more : List (List ℕ)) (action : Action) : Type 0 where
  pub sets : sets_one more action ≡ true
  pub told : name_told more action ≡ name_told names action

stays_set : (names : List (List ℕ)) (name : List ℕ) (action : Action) → sets_one names action ≡ true → StaysSet names (names ++ name ∷ []) action
unfolding sets_one
stays_set names name action h = by_set (StaysSet names (names ++ name ∷ [])) names action h (λ field fmt i. record { sets = any_more (is_field_of field) names name i; told = name_in_more names name field i })

all_stay : (names : List (List ℕ)) (name : List ℕ) (rules : List Rule) → list_all (is_set names) rules ≡ true → list_all (is_set (names ++ name ∷ [])) rules ≡ true
all_stay names name [] h = refl
all_stay names name (rule ∷ rules) h =
    let one = stays_set names name rule.action (both_left (is_set names rule) (list_all (is_set names) rules) h) in
    and_from (is_set (names ++ name ∷ []) rule) (list_all (is_set (names ++ name ∷ [])) rules) one.sets (all_stay names name rules (both_right (is_set names rule) (list_all (is_set names) rules) h))

told_stay : (names so_far : List (List ℕ)) (name : List ℕ) (rules : List Rule) → list_all (is_set names) rules ≡ true → names_told (names ++ name ∷ []) so_far rules ≡ names_told names so_far rules
unfolding names_told
told_stay names so_far name [] h = refl
told_stay names so_far name (rule ∷ rules) h =
    let one = stays_set names name rule.action (both_left (is_set names rule) (list_all (is_set names) rules) h) in
    ap (λ n. names_told (names ++ name ∷ []) (with_name so_far n) rules) one.told
    ∙ told_stay names (with_name so_far (name_told names rule.action)) name rules (both_right (is_set names rule) (list_all (is_set names) rules) h)

-- ---- with one more rule

told_last : (names so_far : List (List ℕ)) (rules : List Rule) (rule : Rule) → names_told names so_far (rules ++ rule ∷ []) ≡ with_name (names_told names so_far rules) (name_told names rule.action)
unfolding names_told
told_last names so_far [] rule = refl
told_last names so_far (first ∷ rules) rule = told_last names (with_name so_far (name_told names first.action)) rules rule

each_last : (names : List (List ℕ)) (name : List ℕ) → AllByRecursion IsParam names → IsParam name → AllByRecursion IsParam (names ++ name ∷ [])
each_last [] name each is = (is, tt)
each_last (other ∷ names) name each is = (each.0, each_last names name each.1 is)

-- names with one more, of which there are rules of those in front
record Named (names more : List (List ℕ)) (name : List ℕ) (rules : List Rule) : Type 0 where
  pub each : AllByRecursion IsParam more
  pub sets : list_all (is_set more) rules ≡ true
  pub told : names_told more [] rules ≡ names
  pub among : is_among more name ≡ true

named_by : (names : List (List ℕ)) (name : List ℕ) (rules : List Rule) (t : Bool) → is_among names name ≡ t → AllByRecursion IsParam names → IsParam name → ArePairs names rules → Named names (cond t names (names ++ name ∷ [])) name rules
named_by names name rules true among each is pairs = record { each = each; sets = pairs.sets; told = pairs.told; among = among }
named_by names name rules false among each is pairs =
    record { each = each_last names name each is; sets = all_stay names name rules pairs.sets; told = told_stay names [] name rules pairs.sets ∙ pairs.told; among = last_among names name }

pub names_grow : (names : List (List ℕ)) (name : List ℕ) (rules : List Rule) → AllByRecursion IsParam names → IsParam name → ArePairs names rules → AllByRecursion IsParam (with_name names name)
names_grow names name rules each is pairs = let named = named_by names name rules (is_among names name) refl each is pairs in named.each

-- one more pair
pub pairs_grow : (names : List (List ℕ)) (name : List ℕ) (rules : List Rule) (fmt : Fmt) (last : Option Cond) → AllByRecursion IsParam names → IsParam name → ArePairs names rules
    → ArePairs (with_name names name) (rules ++ param_set name fmt last ∷ [])
unfolding sets_one
pairs_grow names name rules fmt last each is pairs =
    let named = named_by names name rules (is_among names name) refl each is pairs in
    let more = with_name names name in
    let rule = param_set name fmt last in
    let own = field_found more name named.among in
    record {
      sets = list_all-append (is_set more) rules (rule ∷ []) ∙ and_from (list_all (is_set more) rules) (is_set more rule && true) named.sets (and_from (is_set more rule) true own refl);
      told = told_last more [] rules rule ∙ ap (λ (ns : List (List ℕ)). with_name ns (name_told more rule.action)) named.told ∙ ap (with_name names) (name_again more name named.each is own);
    }
