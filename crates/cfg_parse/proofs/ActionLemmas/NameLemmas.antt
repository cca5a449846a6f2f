-- Names in lower case, and names of variables.
use Rattle.std.proofs.Common.{inl, inr, ◌≡◌, ℕ, ◌+◌, ◌≤◌, ◌<◌, Bool, true, false, ltb, leb, List, [], ◌∷◌, length, take, drop, Option, Some, None, cond, Ok, refl, sym, ap, subst, ◌∙◌, arith}
use Rattle.std.specs.Prelude.{◌&&◌, ◌||◌, ◌⊎◌, ◌==◌, position}
use Rattle.std.specs.List.{list_all}
use Rattle.std.specs.Char.{to_ascii_lowercase, is_ascii_alphanumeric}
use Rattle.std.specs.Str.{str_to_ascii_lowercase}
use Rattle.std.proofs.lemmas.Bool.Decides.{nat_tests}
use Rattle.std.proofs.lemmas.Bool.{cases_lt}
use Rattle.std.proofs.lemmas.List.{length-map}
use Rattle.px_bytes.specs.Tokens.{is_token, is_token_byte}
use Rattle.px_sample.specs.declared.scope.Scope.{Scope}
use Rattle.cfg_expr.specs.Fetches as fetches
use Rattle.cfg_expr.specs.Fetches.{is_variable_name, is_dot, scope_of, variable_in, variable_at, variable_of}
use Rattle.cfg_parse.specs.Action.Faults.{Read}
use Rattle.http_rules.specs.Rule.Valid.{IsName, IsVariableName, is_variable_byte}

lower_twice : (c : ℕ) → to_ascii_lowercase (to_ascii_lowercase c) ≡ to_ascii_lowercase c
lower_twice c = grind (arith, nat_tests)

str_lower_twice : (bytes : List ℕ) → str_to_ascii_lowercase (str_to_ascii_lowercase bytes) ≡ str_to_ascii_lowercase bytes
str_lower_twice [] = refl
str_lower_twice (c ∷ bytes) =
    let first = lower_twice c in
    let others = str_lower_twice bytes in
    cc

small_is_token_byte : (c : ℕ) → 97 ≤ c → c ≤ 122 → is_token_byte c ≡ true
unfolding is_token_byte
small_is_token_byte c low high =
    let letter : is_ascii_alphanumeric c ≡ true = grind (arith, nat_tests) in
    rw letter refl

token_byte_lower : (c : ℕ) → is_token_byte c ≡ true → is_token_byte (to_ascii_lowercase c) ≡ true
token_byte_lower c is = by_range (cases_lt c 65) (cases_lt c 91)
  where
    same : to_ascii_lowercase c ≡ c → is_token_byte (to_ascii_lowercase c) ≡ true
    same e = rw e is

    by_range : (c < 65) ⊎ (65 ≤ c) → (c < 91) ⊎ (91 ≤ c) → is_token_byte (to_ascii_lowercase c) ≡ true
    by_range (inl low) below = same (grind (arith, nat_tests))
    by_range (inr high) (inl below) =
        let is_big : to_ascii_lowercase c ≡ c + 32 = grind (arith, nat_tests) in
        rw is_big (small_is_token_byte (c + 32) (omega arith) (omega arith))
    by_range (inr high) (inr above) = same (grind (arith, nat_tests))

and_true : (a b : Bool) → (a && b) ≡ true → (a ≡ true) × (b ≡ true)
and_true true b e = (refl, e)
and_true false b e = absurd cc

tokens_lower : (bytes : List ℕ) → list_all is_token_byte bytes ≡ true → list_all is_token_byte (str_to_ascii_lowercase bytes) ≡ true
tokens_lower [] all = refl
tokens_lower (c ∷ bytes) all =
    let both = and_true (is_token_byte c) (list_all is_token_byte bytes) all in
    let first = token_byte_lower c both.0 in
    let others = tokens_lower bytes both.1 in
    rw (first, others) refl

-- a token of at most 255 bytes is a name in lower case
pub lower_name : (word name : List ℕ) → (is_token word && leb (length word) 255) ≡ true → name ≡ str_to_ascii_lowercase word → IsName name
lower_name word name is same =
    let tests = and_true (is_token word) (leb (length word) 255) is in
    let parts = and_true (ltb 0 (length word)) (list_all is_token_byte word) tests.0 in
    let len : length (str_to_ascii_lowercase word) ≡ length word = length-map word to_ascii_lowercase in
    let some : 1 ≤ length (str_to_ascii_lowercase word) = grind (arith, nat_tests) in
    let short : length (str_to_ascii_lowercase word) ≤ 255 = grind (arith, nat_tests) in
    let full : ltb 0 (length (str_to_ascii_lowercase word)) ≡ true = grind (arith, nat_tests) in
    let bytes = tokens_lower word parts.1 in
    let token : is_token (str_to_ascii_lowercase word) ≡ true = rw (full, bytes) refl in
    rw same (record { some = some; short = short; token = token; lower = str_lower_twice word })

abbrev given : List ℕ → Read (List ℕ)
given name = Ok name

-- a name that was read is the one that was meant
pub read_is : (x y : List ℕ) → given x ≡ given y → x ≡ y
read_is x y e = cc

-- ---- variables

tested : (name : List ℕ) (scope : Scope) (b : Bool) (v : Scope × List ℕ) → is_variable_name name ≡ b → cond b (Some (scope, name)) None ≡ Some v → is_variable_name v.1 ≡ true
tested name scope true v is e =
    let same : name ≡ v.1 = cc in
    subst (λ (n : List ℕ). is_variable_name n ≡ true) same is
tested name scope false v is e = absurd cc

in_scope : (name : List ℕ) (scope : Option Scope) (v : Scope × List ℕ) → variable_in name scope ≡ Some v → is_variable_name v.1 ≡ true
in_scope name None v e = absurd cc
in_scope name (Some scope) v e = tested name scope (is_variable_name name) v refl e

behind_dot : (text : List ℕ) (at : Option ℕ) (v : Scope × List ℕ) → variable_at text at ≡ Some v → is_variable_name v.1 ≡ true
behind_dot text None v e = absurd cc
behind_dot text (Some at) v e = in_scope (drop (at + 1) text) (scope_of (take at text)) v e

or_assoc : (a b c : Bool) → ((a || b) || c) ≡ (a || (b || c))
or_assoc true b c = refl
or_assoc false b c = refl

all_same : (name : List ℕ) → list_all fetches.is_variable_byte name ≡ list_all is_variable_byte name
all_same [] = refl
all_same (b ∷ name) =
    let first : fetches.is_variable_byte b ≡ is_variable_byte b = or_assoc (is_ascii_alphanumeric b) (b == 95) (b == 46) in
    ap (λ t. t && list_all fetches.is_variable_byte name) first ∙ ap (λ t. is_variable_byte b && t) (all_same name)

-- the name in SCOPE.NAME is one of a variable
pub variable_named : (text : List ℕ) (v : Scope × List ℕ) → variable_of text ≡ Some v → IsVariableName v.1
unfolding variable_of
variable_named text v e =
    let is = behind_dot text (position is_dot text) v e in
    let tests = and_true (leb 1 (length v.1)) (list_all fetches.is_variable_byte v.1) is in
    let some : 1 ≤ length v.1 = grind (arith, nat_tests) in
    record { some = some; bytes = sym (all_same v.1) ∙ tests.1 }
