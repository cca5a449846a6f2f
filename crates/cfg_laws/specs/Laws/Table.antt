-- What the `acl` lines of a canonical text declare, and what their names stand for.
use Rattle.std.specs.Prelude.{◌≡◌, ℕ, ◌+◌, ◌≤◌, ◌<◌, ◌^◌, true, Bool, ◌&&◌, nat_le, nat_lt, List, [], ◌∷◌, ◌++◌, map, length, if◌then◌else◌, Some, Ok, codes}
use Rattle.std.specs.List.{list_all, flat_map}
use Rattle.px_pattern.specs.Pattern.{Pattern}
use Rattle.acl_eval.specs.declared.condition.Test.{Test}
use Rattle.acl_eval.specs.declared.condition.Term.{Term}
use Rattle.acl_eval.specs.declared.condition.Cond.{Cond}
use Rattle.cfg_expr.specs.declared.side.Side.{Side}
use Rattle.cfg_expr.specs.declared.condition.written.AclLine.{AclLine}
use Rattle.cfg_expr.specs.Sides.{is_on}
use Rattle.cfg_expr.specs.Reading.{plain, ◌>>=◌}
use Rattle.cfg_expr.specs.Faults.{TextReading}
use Rattle.cfg_expr.specs.Condition.Lines.{most_lines, most_lines_of_a_name, declared_name, named_tests}
use Rattle.cfg_expr.specs.Condition.Conditions.{acl_line}
use Rattle.cfg_print.specs.Words.{line_text}
use Rattle.cfg_print.specs.Conditions.{test_words}
use Rattle.cfg_print.specs.Table.{terms_of, key_of, is_among, with_key, keys_from, name_at, name_for, table_text, count_lines}
use Rattle.cfg_laws.specs.Spelled.{is_spelled_test}
use Rattle.cfg_laws.specs.Laws.Tests.{test_patterns, written_test}
use Rattle.cfg_laws.specs.Laws.Conditions.{AreAllNamed}

-- ---- lines

-- a line that gives a test this name
abbrev pub line_with : (name : List ℕ) → Test → AclLine
line_with name test = record { name = name; test = written_test test }

-- those of a term whose tests don't stand in the table yet
abbrev pub new_declared : (keys : List (List ℕ)) → Term → List AclLine
new_declared keys term = if is_among keys (key_of term) then [] else map (line_with (name_at (length keys + 1))) term.tests

-- those of terms, behind the keys so far
unfoldable pub declared : (keys : List (List ℕ)) → List Term → List AclLine
declared keys [] = []
declared keys (term ∷ terms) = new_declared keys term ++ declared (with_key keys (key_of term)) terms

-- ---- the words of lines

-- the words behind `acl`
abbrev pub line_words : (name : List ℕ) → Test → List (List ℕ)
line_words name test = name ∷ test_words test

abbrev pub new_words : (keys : List (List ℕ)) → Term → List (List (List ℕ))
new_words keys term = if is_among keys (key_of term) then [] else map (line_words (name_at (length keys + 1))) term.tests

-- those of the lines of terms, behind the keys so far
unfoldable pub declared_words : (keys : List (List ℕ)) → List Term → List (List (List ℕ))
declared_words keys [] = []
declared_words keys (term ∷ terms) = new_words keys term ++ declared_words (with_key keys (key_of term)) terms

abbrev pub new_patterns : (keys : List (List ℕ)) → Term → List Pattern
new_patterns keys term = if is_among keys (key_of term) then [] else flat_map test_patterns term.tests

-- and their patterns
unfoldable pub declared_patterns : (keys : List (List ℕ)) → List Term → List Pattern
declared_patterns keys [] = []
declared_patterns keys (term ∷ terms) = new_patterns keys term ++ declared_patterns (with_key keys (key_of term)) terms

-- `acl` and these words
abbrev pub acl_text : List (List ℕ) → List ℕ
acl_text words = line_text (codes "acl" ∷ words)

-- what lines come to, one behind the other
abbrev pub lines_from : List AclLine → List (List (List ℕ)) → TextReading (List AclLine)
lines_from lines [] = plain (Ok lines)
lines_from lines (words ∷ others) = acl_line lines words >>= λ more. lines_from more others

-- ---- terms

-- a term that lines can say: it has tests, and no more than a name may have
abbrev pub is_spelled_term : Term → Bool
is_spelled_term term = nat_lt 0 (length term.tests) && (nat_le (length term.tests) most_lines_of_a_name && list_all is_spelled_test term.tests)

abbrev pub are_spelled_terms : List Term → Bool
are_spelled_terms terms = list_all is_spelled_term terms

-- the direction has the fetch of a test
abbrev pub is_test_on : Side → Test → Bool
is_test_on side test = is_on side test.expr.fetch

-- and those of each test of a term
abbrev pub is_term_on : Side → Term → Bool
is_term_on side term = list_all (is_test_on side) term.tests

-- ---- laws

-- each name of the table may be declared
abbrev pub NamesDeclared : Type 0
NamesDeclared = (number : ℕ) → number < 2 ^ 64 → declared_name (name_at number) ≡ Ok (name_at number)

-- the name of each term of a table stands for its tests
abbrev pub TermsNamed : Type 0
TermsNamed = (side : Side) (before : List Term) (term : Term) (behind : List Term) → are_spelled_terms (before ++ term ∷ behind) ≡ true
    → count_lines [] (before ++ term ∷ behind) ≤ most_lines → is_term_on side term ≡ true
    → named_tests side (declared [] (before ++ term ∷ behind)) (name_for (keys_from [] (before ++ term ∷ behind)) (key_of term)) ≡ Ok term.tests

-- so do those of each condition whose terms are among those of the table
abbrev pub ConditionsNamed : Type 0
ConditionsNamed = (side : Side) (before : List Term) (cond : Cond) (behind : List Term) → are_spelled_terms (before ++ (terms_of (Some cond) ++ behind)) ≡ true
    → count_lines [] (before ++ (terms_of (Some cond) ++ behind)) ≤ most_lines → list_all (is_term_on side) (terms_of (Some cond)) ≡ true
    → AreAllNamed side (declared [] (before ++ (terms_of (Some cond) ++ behind))) (keys_from [] (before ++ (terms_of (Some cond) ++ behind))) cond.groups

-- the text of a table is that of these words
abbrev pub TableSpelled : Type 0
TableSpelled = (keys : List (List ℕ)) (terms : List Term) → table_text keys terms ≡ flat_map acl_text (declared_words keys terms)

-- its lines are read back, with the patterns that its tests have
abbrev pub TableDeclared : Type 0
TableDeclared = (terms : List Term) → are_spelled_terms terms ≡ true → count_lines [] terms ≤ most_lines
    → lines_from [] (declared_words [] terms) ≡ record { asks = declared_patterns [] terms; gives = Ok (declared [] terms) }
