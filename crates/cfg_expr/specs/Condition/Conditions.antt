-- `acl` lines and conditions, over the words of a line (Configuration Manual, sections 7.1 and 7.2).
use Rattle.std.specs.Prelude.{ℕ, zero, suc, ◌-◌, ◌^◌, Bool, true, false, ◌==◌, ◌||◌, List, [], ◌∷◌, ◌++◌, length, sum_by, Option, Some, None, Ok, Err, if◌then◌else◌, codes}
use Rattle.std.specs.Str.{bytes_eq}
use Rattle.acl_eval.specs.declared.condition.Test.{Test}
use Rattle.acl_eval.specs.declared.condition.Term.{Term}
use Rattle.acl_eval.specs.declared.condition.Cond.{Cond}
use Rattle.cfg_expr.specs.declared.fault.TextKind.TheVariants.{Argument, Acl}
use Rattle.cfg_expr.specs.declared.side.Side.{Side}
use Rattle.cfg_expr.specs.Reading.{plain, ◌>>=◌}
use Rattle.cfg_expr.specs.Faults.{Told, TextReading}
use Rattle.cfg_expr.specs.declared.condition.conditions.Groups.{Groups}
use Rattle.cfg_expr.specs.declared.condition.written.AclLine.{AclLine}
use Rattle.cfg_expr.specs.Condition.Words.{word_or, up_to_close}
use Rattle.cfg_expr.specs.Condition.Values.{needed}
use Rattle.cfg_expr.specs.Condition.Tests.{test_of}
use Rattle.cfg_expr.specs.Condition.Lines.{test_on, named_tests, declared_name, with_line}

-- ---- acl

-- the line that the words behind `acl` say: NAME CRITERION FLAGS VALUES
unfoldable pub line_read : List (List ℕ) → TextReading AclLine
line_read words = do
  first ← plain (word_or Argument words)
  name ← plain (declared_name first.0)
  second ← plain (word_or Argument first.1)
  test ← test_of None second.0 second.1
  plain (Ok (record { name = name; test = test }))

-- one more line; too many lines are refused last
unfoldable pub acl_line : List AclLine → List (List ℕ) → TextReading (List AclLine)
acl_line lines words = line_read words >>= λ line. plain (with_line lines line)

-- ---- terms

unfoldable pub is_or : List ℕ → Bool
is_or word = bytes_eq word (codes "or") || bytes_eq word (codes "||")

unfoldable pub is_open : List ℕ → Bool
is_open word = bytes_eq word (codes "{")

-- the test in braces, behind the first of them, and the words behind the other, which counts as behind the last word where
-- it is missing
unfoldable pub braces : Side → List (List ℕ) → TextReading (List Test × List (List ℕ))
braces side words = do
  criterion ← plain (word_or Acl (up_to_close words).0)
  written ← test_of (Some side) criterion.0 criterion.1
  test ← plain (test_on side written)
  others ← plain (needed (up_to_close words).1)
  plain (Ok (test ∷ [], others))

-- the tests of a name or of braces, and the words behind
abbrev pub tests_at : Side → List AclLine → List ℕ → List (List ℕ) → TextReading (List Test × List (List ℕ))
tests_at side lines word others =
    if is_open word then braces side others
    else (plain (named_tests side lines word) >>= λ tests. plain (Ok (tests, others)))

-- a term behind what may negate it
abbrev pub negated_or_not : (negated : Bool) → Side → List AclLine → List ℕ → List (List ℕ) → TextReading (Term × List (List ℕ))
negated_or_not negated side lines word others =
    tests_at side lines word others >>= λ found. plain (Ok (record { not = negated; tests = found.0 }, found.1))

-- behind a `!` that is its own word
abbrev pub behind_mark : Side → List AclLine → List (List ℕ) → TextReading (Term × List (List ℕ))
behind_mark side lines words =
    plain (word_or Acl words) >>= λ next. negated_or_not true side lines next.0 next.1

-- behind a `!`, with what is joined to it
abbrev pub marked : Side → List AclLine → (joined : List ℕ) → List (List ℕ) → TextReading (Term × List (List ℕ))
marked side lines [] others = behind_mark side lines others
marked side lines (b ∷ joined) others = negated_or_not true side lines (b ∷ joined) others

-- a term that begins with this word: `!` may stand in front, joined or as its own word
unfoldable pub term_at : Side → List AclLine → List ℕ → List (List ℕ) → TextReading (Term × List (List ℕ))
term_at side lines [] others = negated_or_not false side lines [] others
term_at side lines (b ∷ word) others =
    if b == 33 then marked side lines word others else negated_or_not false side lines (b ∷ word) others

-- ---- conditions

-- with one more group, which has a term
abbrev pub with_group : List (List Term) → List Term → Told (List (List Term))
with_group groups [] = Err Acl
with_group groups (term ∷ terms) = Ok (groups ++ (term ∷ terms) ∷ [])

-- with a word, and those behind it that its term takes
unfoldable pub with_word : Side → List AclLine → Groups → List ℕ → List (List ℕ) → TextReading (Groups × List (List ℕ))
with_word side lines so_far word others =
    if is_or word then
    (plain (with_group so_far.whole so_far.terms) >>= λ whole. plain (Ok (record { whole = whole; terms = [] }, others)))
    else
    (term_at side lines word others >>= λ found.
    plain (Ok (record { whole = so_far.whole; terms = so_far.terms ++ found.0 ∷ [] }, found.1)))

-- Groups of terms, which `or` or `||` joins. There are at most as many terms as words.
unfoldable pub groups_from : Side → List AclLine → (most : ℕ) → Groups → List (List ℕ) → TextReading (List (List Term))
groups_from side lines most so_far [] = plain (with_group so_far.whole so_far.terms)
groups_from side lines zero so_far (word ∷ others) = plain (Err Acl)
groups_from side lines (suc most) so_far (word ∷ others) =
    with_word side lines so_far word others >>= λ next. groups_from side lines most next.0 next.1

abbrev pub no_groups : Groups
no_groups = record { whole = []; terms = [] }

abbrev pub groups_of : Side → List AclLine → List (List ℕ) → TextReading (List (List Term))
groups_of side lines words = groups_from side lines (length words) no_groups words

-- the condition behind `if` or `unless`
unfoldable pub condition_of : Side → List AclLine → (unless : Bool) → List (List ℕ) → TextReading (Option Cond)
condition_of side lines unless words =
    groups_of side lines words >>= λ groups. plain (Ok (Some (record { unless = unless; groups = groups })))

-- what ends a rule: nothing, or `if` or `unless` and a condition
unfoldable pub rule_end : Side → List AclLine → List (List ℕ) → TextReading (Option Cond)
rule_end side lines [] = plain (Ok None)
rule_end side lines (word ∷ others) =
    if bytes_eq word (codes "if") then condition_of side lines false others
    else (if bytes_eq word (codes "unless") then condition_of side lines true others
    else plain (Err Argument))

-- ---- counts

-- how many tests a term has
abbrev pub tests_in : Term → ℕ
tests_in term = length term.tests

-- and a condition
abbrev pub test_count : Cond → ℕ
test_count cond = sum_by (sum_by tests_in) cond.groups

-- the greatest count that is told
abbrev pub most_count : ℕ
most_count = 2 ^ 64 - 1
