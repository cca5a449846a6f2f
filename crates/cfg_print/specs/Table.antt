-- The `acl` lines of a canonical text: the tests of each term, once, by a name that is `c` and a number from 1 on, in the order in which rules use them.
use Rattle.std.specs.Prelude.{ℕ, ◌+◌, List, [], ◌∷◌, ◌++◌, length, min, position, unwrap_or, if◌then◌else◌, Option, Some, None, Bool, codes}
use Rattle.std.specs.List.{list_any, flat_map}
use Rattle.std.specs.Fmt.{decimal}
use Rattle.std.specs.Str.{bytes_eq}
use Rattle.acl_eval.specs.declared.condition.Test.{Test}
use Rattle.acl_eval.specs.declared.condition.Term.{Term}
use Rattle.acl_eval.specs.declared.condition.Cond.{Cond}
use Rattle.http_rules.specs.declared.rule.rule.Rule.{Rule}
use Rattle.cfg_expr.specs.Condition.Lines.{most_lines}
use Rattle.cfg_print.specs.Words.{words_text, line_text}
use Rattle.cfg_print.specs.Conditions.{test_words}

-- ---- terms

-- the terms of a condition, in their order
abbrev pub terms_of : Option Cond → List Term
terms_of None = []
terms_of (Some cond) = flat_map (λ group. group) cond.groups

-- those of rules
abbrev pub terms_in : List Rule → List Term
terms_in rules = flat_map (λ rule. terms_of rule.cond) rules

-- ---- what tells tests apart

-- the words of a test as text
abbrev pub test_text : Test → List ℕ
test_text test = words_text (test_words test) ++ 10 ∷ []

-- the tests of a term as text, a line each
unfoldable pub key_of : Term → List ℕ
key_of term = flat_map test_text term.tests

abbrev pub is_key : List ℕ → List ℕ → Bool
is_key key other = bytes_eq other key

-- it stands among these
abbrev pub is_among : (keys : List (List ℕ)) → (key : List ℕ) → Bool
is_among keys key = list_any (is_key key) keys

-- ---- the table

-- these keys and one more, each once
abbrev pub with_key : (keys : List (List ℕ)) → (key : List ℕ) → List (List ℕ)
with_key keys key = if is_among keys key then keys else keys ++ key ∷ []

-- the keys of terms, behind those so far
unfoldable pub keys_from : (keys : List (List ℕ)) → List Term → List (List ℕ)
keys_from keys [] = keys
keys_from keys (term ∷ terms) = keys_from (with_key keys (key_of term)) terms

-- ---- names

-- the name of this number
abbrev pub name_at : ℕ → List ℕ
name_at number = codes "c" ++ decimal number

-- the name of the tests with this key
unfoldable pub name_for : (keys : List (List ℕ)) → (key : List ℕ) → List ℕ
name_for keys key = name_at (unwrap_or (position (is_key key) keys) (length keys) + 1)

-- ---- lines

-- `acl NAME TEST`
abbrev pub acl_line : (name : List ℕ) → Test → List ℕ
acl_line name test = line_text (codes "acl" ∷ name ∷ test_words test)

-- the lines of a term
abbrev pub acl_lines : (name : List ℕ) → Term → List ℕ
acl_lines name term = flat_map (acl_line name) term.tests

-- the lines of a term whose tests don't stand in the table yet
abbrev pub new_lines : (keys : List (List ℕ)) → Term → List ℕ
new_lines keys term = if is_among keys (key_of term) then [] else acl_lines (name_at (length keys + 1)) term

-- the lines of terms, behind those in the table
unfoldable pub table_text : (keys : List (List ℕ)) → List Term → List ℕ
table_text keys [] = []
table_text keys (term ∷ terms) = new_lines keys term ++ table_text (with_key keys (key_of term)) terms

-- ---- how many lines there are

abbrev pub new_count : (keys : List (List ℕ)) → Term → ℕ
new_count keys term = if is_among keys (key_of term) then 0 else length term.tests

-- how many lines of terms there are, behind those in the table
unfoldable pub count_lines : (keys : List (List ℕ)) → List Term → ℕ
count_lines keys [] = 0
count_lines keys (term ∷ terms) = new_count keys term + count_lines (with_key keys (key_of term)) terms

-- ---- what the terms so far come to

-- what was written, the keys, and how many lines there are; one more than there may be where there are more
pub record Tabled : Type 0 where
  pub text : List ℕ
  pub keys : List (List ℕ)
  pub lines : ℕ

abbrev pub tabled : (text : List ℕ) (keys : List (List ℕ)) (lines : ℕ) → Tabled
tabled text keys lines = record { text = text; keys = keys; lines = lines }

-- with the lines of a term whose tests don't stand in the table yet
abbrev pub with_new : Tabled → Term → Tabled
with_new so_far term =
    tabled (so_far.text ++ acl_lines (name_at (length so_far.keys + 1)) term) (so_far.keys ++ key_of term ∷ []) (min (so_far.lines + length term.tests) (most_lines + 1))

-- with one more term
abbrev pub with_term : Tabled → Term → Tabled
with_term so_far term = if is_among so_far.keys (key_of term) then so_far else with_new so_far term
