-- Terms that are read have as many tests as a name may have.
use Rattle.std.proofs.Common.{◌≡◌, ℕ, ◌+◌, ◌≤◌, ◌<◌, Bool, true, false, cond, List, [], ◌∷◌, ◌++◌, length, length-append, count_by, Result, Ok, Err, refl, ap, ◌∙◌, subst, arith}
use Rattle.std.proofs.lemmas.Bool.{and_parts, and_from, lt-ltb, le-leb, ltb-true}
use Rattle.std.proofs.lemmas.List.Folds.{list_all-append}
use Rattle.std.proofs.lemmas.List.Sums.{sum_by-append, sum_by-cons}
use Rattle.std.proofs.lemmas.Slice.Eq.{bytes_eq-Decides}
use Rattle.std.specs.Prelude.{◌&&◌, nat_lt, nat_le, Option, Some, None}
use Rattle.std.specs.List.{list_all, flat_map}
use Rattle.acl_eval.specs.declared.condition.Test.{Test}
use Rattle.acl_eval.specs.declared.condition.Term.{Term}
use Rattle.acl_eval.specs.declared.condition.Cond.{Cond}
use Rattle.cfg_expr.specs.declared.fault.TextKind.TheVariants.{Acl, Limit}
use Rattle.cfg_expr.specs.declared.side.Side.{Side}
use Rattle.cfg_expr.specs.declared.condition.written.AclLine.{AclLine}
use Rattle.cfg_expr.specs.Steps as steps
use Rattle.cfg_expr.specs.Reading.{plain}
use Rattle.cfg_expr.specs.Faults.{Told}
use Rattle.cfg_expr.specs.Condition.Lines.{most_lines, most_lines_of_a_name, test_on, is_named, predefined_of, predefined_test, has_predefined, tests_from, some_tests, tests_by, named_tests, with_line}
use Rattle.cfg_expr.specs.Condition.Conditions.{line_read, acl_line, rule_end}
use Rattle.cfg_print.specs.Table.{terms_of}
use Rattle.cfg_laws.specs.Spelled.{is_spelled_test}
use Rattle.cfg_laws.specs.Laws.Conditions.{are_groups}
use Rattle.cfg_laws.specs.Laws.Table.{is_spelled_term, are_spelled_terms, is_test_on, is_term_on}
use Rattle.cfg_laws.specs.Laws.Read.{is_spelled_on, AreSpelledLines}
use Rattle.cfg_laws.specs.Laws.ReadRules.{AreFewOfEach, are_terms_on, is_spelled_end}
use Rattle.cfg_laws.proofs.ReadLemmas.Steps.{Gives, GivesSo, gives_so, gives_if, gives_then_so, gives_any, any, so_behind, so_given}
use Rattle.cfg_laws.proofs.ReadLemmas.Names.{all_on, named_give}
use Rattle.cfg_laws.proofs.ReadLemmas.Conditions.{Passes, are_terms, end_said, end_gives}

-- ---- lines of a name

count_more : (name : List ℕ) (line : AclLine) (others : List AclLine) (t : Bool) → is_named name line ≡ t → count_by (is_named name) (line ∷ others) ≡ cond t 1 0 + count_by (is_named name) others
count_more name line others t is = sum_by-cons (λ one. cond (is_named name one) 1 0) line others ∙ ap (λ b. cond b 1 0 + count_by (is_named name) others) is

count_last : (name : List ℕ) (lines : List AclLine) (line : AclLine) (t : Bool) → is_named name line ≡ t → count_by (is_named name) (lines ++ line ∷ []) ≡ count_by (is_named name) lines + (0 + cond t 1 0)
count_last name lines line t is = sum_by-append (λ one. cond (is_named name one) 1 0) lines (line ∷ []) ∙ ap (λ b. count_by (is_named name) lines + (0 + cond b 1 0)) is

few_last : (lines : List AclLine) (line : AclLine) (name : List ℕ) (t : Bool) → is_named name line ≡ t → AreFewOfEach lines → count_by (is_named line.name) lines < 64 → count_by (is_named name) (lines ++ line ∷ []) ≤ 64
few_last lines line name true is few room =
    let own : count_by (is_named name) lines < 64 = subst (λ (n : List ℕ). count_by (is_named n) lines < 64) ((bytes_eq-Decides line.name name).0 is) room in
    let count = count_last name lines line true is in
    omega (arith, own, count)
few_last lines line name false is few room =
    let own = few name in
    let count = count_last name lines line false is in
    omega (arith, own, count)

with_room : (lines : List AclLine) (line : AclLine) (t : Bool) → (nat_lt (length lines) most_lines && nat_lt (count_by (is_named line.name) lines) most_lines_of_a_name) ≡ t → AreFewOfEach lines
    → GivesSo AreFewOfEach (cond t (Ok (lines ++ line ∷ [])) (Err Limit))
with_room lines line true is few =
    let both = and_parts (nat_lt (length lines) most_lines) (nat_lt (count_by (is_named line.name) lines) most_lines_of_a_name) is in
    λ name. few_last lines line name (is_named name line) refl few (ltb-true (count_by (is_named line.name) lines) 64 both.1)
with_room lines line false is few = tt

few_give : (lines : List AclLine) (words : List (List ℕ)) → AreFewOfEach lines → GivesSo AreFewOfEach (acl_line lines words).gives
unfolding acl_line
few_give lines words few = so_behind any AreFewOfEach (line_read words).gives (λ line. plain (with_line lines line)) (gives_any (line_read words).gives)
    (λ line free. with_room lines line (nat_lt (length lines) most_lines && nat_lt (count_by (is_named line.name) lines) most_lines_of_a_name) refl few)

-- as a law
pub lines_few : (lines more : List AclLine) (words : List (List ℕ)) → AreFewOfEach lines → (acl_line lines words).gives ≡ Ok more → AreFewOfEach more
lines_few lines more words few is = so_given AreFewOfEach (acl_line lines words).gives more (few_give lines words few) is

-- ---- how many tests

-- so many tests as a name may have
abbrev sized : List Test → Bool
sized tests = nat_lt 0 (length tests) && nat_le (length tests) most_lines_of_a_name

abbrev Counts : ℕ → List Test → Type 0
Counts n tests = length tests ≡ n

so_same : (m n : ℕ) (told : Told (List Test)) → m ≡ n → GivesSo (Counts m) told → GivesSo (Counts n) told
so_same m n (Ok tests) is h = h ∙ is
so_same m n (Err kind) is h = tt

so_next : (n : ℕ) (told : Told Test) (f : Test → Told (List Test)) → ((test : Test) → GivesSo (Counts n) (f test)) → GivesSo (Counts n) (steps.◌>>=◌ told f)
so_next n (Ok test) f h = h test
so_next n (Err kind) f h = tt

lines_count : (side : Side) (name : List ℕ) (so_far : List Test) (lines : List AclLine) → GivesSo (Counts (length so_far + count_by (is_named name) lines)) (tests_from side name so_far lines)
lines_count side name so_far [] = omega arith
lines_count side name so_far (line ∷ others) = by_test (is_named name line) refl (λ more. lines_count side name more others)
  where
    by_test : (t : Bool) → is_named name line ≡ t → ((more : List Test) → GivesSo (Counts (length more + count_by (is_named name) others)) (tests_from side name more others))
        → GivesSo (Counts (length so_far + count_by (is_named name) (line ∷ others))) (cond t (steps.◌>>=◌ (test_on side line.test) (λ test. tests_from side name (so_far ++ test ∷ []) others)) (tests_from side name so_far others))
    by_test true is again =
        let count = count_more name line others true is in
        so_next (length so_far + count_by (is_named name) (line ∷ others)) (test_on side line.test) (λ test. tests_from side name (so_far ++ test ∷ []) others)
        (λ test. let long = length-append so_far (test ∷ []) in
        so_same (length (so_far ++ test ∷ []) + count_by (is_named name) others) (length so_far + count_by (is_named name) (line ∷ others)) (tests_from side name (so_far ++ test ∷ []) others) (omega (arith, count, long)) (again (so_far ++ test ∷ [])))
    by_test false is again =
        let count = count_more name line others false is in
        so_same (length so_far + count_by (is_named name) others) (length so_far + count_by (is_named name) (line ∷ others)) (tests_from side name so_far others) (omega (arith, count)) (again so_far)

some_sized : (n : ℕ) (tests : List Test) → n ≤ 64 → length tests ≡ n → Gives sized (some_tests tests)
some_sized n [] few is = tt
some_sized n (test ∷ tests) few is =
    and_from (nat_lt 0 (length (test ∷ tests))) (nat_le (length (test ∷ tests)) most_lines_of_a_name) (lt-ltb 0 (length (test ∷ tests)) (omega arith)) (le-leb (length (test ∷ tests)) 64 (omega (arith, few, is)))

abbrev ValueOf : {A : Type 0} → Option A → Type 0
ValueOf {A} found = A

-- a private type by its values
abbrev Predefined : Type 0
Predefined = ValueOf (predefined_of [])

by_sized : (side : Side) (lines : List AclLine) (name : List ℕ) (found : Option Predefined) → AreFewOfEach lines → Gives sized (tests_by side lines name found)
by_sized side lines name None few =
    let n = count_by (is_named name) lines in
    let own : n ≤ 64 = few name in
    gives_then_so (Counts (length {A = Test} [] + n)) sized (tests_from side name [] lines) some_tests (lines_count side name [] lines) (λ tests is. some_sized (0 + n) tests (omega (arith, own)) is)
by_sized side lines name (Some which) few = gives_if sized (has_predefined side which) (predefined_test which ∷ []) Acl (λ has. refl)

-- ---- terms

-- tests that a direction can say, as many as a name may have
abbrev whole_on : Side → List Test → Bool
whole_on side tests = all_on side tests && sized tests

gives_both : {K A : Type 0} (a b : A → Bool) (told : Result A K) → Gives a told → Gives b told → Gives (λ x. a x && b x) told
gives_both a b (Ok x) h i = and_from (a x) (b x) h i
gives_both a b (Err kind) h i = tt

whole_passes : (side : Side) (lines : List AclLine) → AreSpelledLines side lines → AreFewOfEach lines → Passes (whole_on side) side lines
whole_passes side lines h few =
    record {
      single = λ test is. and_from (is_spelled_on side test && true) true (and_from (is_spelled_on side test) true is refl) refl;
      named = λ name. gives_both (all_on side) sized (named_tests side lines name) (named_give side lines name h) (by_sized side lines name (predefined_of name) few);
    }

tests_parts : (side : Side) (tests : List Test) → all_on side tests ≡ true → (list_all is_spelled_test tests ≡ true) × (list_all (is_test_on side) tests ≡ true)
tests_parts side [] h = (refl, refl)
tests_parts side (test ∷ tests) h =
    let parts = and_parts (is_spelled_on side test) (all_on side tests) h in
    let own = and_parts (is_spelled_test test) (is_test_on side test) parts.0 in
    let others = tests_parts side tests parts.1 in
    (and_from (is_spelled_test test) (list_all is_spelled_test tests) own.0 others.0, and_from (is_test_on side test) (list_all (is_test_on side) tests) own.1 others.1)

abbrev BothAll : Side → List Term → Type 0
BothAll side terms = (are_spelled_terms terms ≡ true) × (list_all (is_term_on side) terms ≡ true)

term_parts : (side : Side) (term : Term) → whole_on side term.tests ≡ true → (is_spelled_term term ≡ true) × (is_term_on side term ≡ true)
term_parts side term h =
    let parts = and_parts (all_on side term.tests) (sized term.tests) h in
    let size = and_parts (nat_lt 0 (length term.tests)) (nat_le (length term.tests) most_lines_of_a_name) parts.1 in
    let own = tests_parts side term.tests parts.0 in (
      and_from (nat_lt 0 (length term.tests)) (nat_le (length term.tests) most_lines_of_a_name && list_all is_spelled_test term.tests) size.0
          (and_from (nat_le (length term.tests) most_lines_of_a_name) (list_all is_spelled_test term.tests) size.1 own.0),
      own.1,
    )

terms_parts : (side : Side) (terms : List Term) → are_terms (whole_on side) terms ≡ true → BothAll side terms
terms_parts side [] h = (refl, refl)
terms_parts side (term ∷ terms) h =
    let parts = and_parts (whole_on side term.tests) (are_terms (whole_on side) terms) h in
    let own = term_parts side term parts.0 in
    let others = terms_parts side terms parts.1 in
    (and_from (is_spelled_term term) (are_spelled_terms terms) own.0 others.0, and_from (is_term_on side term) (list_all (is_term_on side) terms) own.1 others.1)

groups_parts : (side : Side) (groups : List (List Term)) → list_all (are_terms (whole_on side)) groups ≡ true → BothAll side (flat_map (λ group. group) groups)
groups_parts side [] h = (refl, refl)
groups_parts side (group ∷ groups) h =
    let behind = flat_map (λ (terms : List Term). terms) groups in
    let parts = and_parts (are_terms (whole_on side) group) (list_all (are_terms (whole_on side)) groups) h in
    let own = terms_parts side group parts.0 in
    let others = groups_parts side groups parts.1 in (
      list_all-append is_spelled_term group behind ∙ and_from (are_spelled_terms group) (are_spelled_terms behind) own.0 others.0,
      list_all-append (is_term_on side) group behind ∙ and_from (list_all (is_term_on side) group) (list_all (is_term_on side) behind) own.1 others.1,
    )

cond_parts : (side : Side) (end : Option Cond) → end_said (whole_on side) end ≡ true → is_spelled_end side end ≡ true
cond_parts side None h = refl
cond_parts side (Some end) h =
    let parts = and_parts (are_groups end.groups) (list_all (are_terms (whole_on side)) end.groups) h in
    let terms = groups_parts side end.groups parts.1 in
    and_from (are_groups end.groups) (are_terms_on side (terms_of (Some end))) parts.0 (and_from (are_spelled_terms (terms_of (Some end))) (list_all (is_term_on side) (terms_of (Some end))) terms.0 terms.1)

told_parts : (side : Side) (told : Told (Option Cond)) → Gives (end_said (whole_on side)) told → Gives (is_spelled_end side) told
told_parts side (Ok end) h = cond_parts side end h
told_parts side (Err kind) h = tt

pub ends_give : (side : Side) (lines : List AclLine) (words : List (List ℕ)) → AreSpelledLines side lines → AreFewOfEach lines → Gives (is_spelled_end side) (rule_end side lines words).gives
ends_give side lines words h few = told_parts side (rule_end side lines words).gives (end_gives (whole_on side) side lines words (whole_passes side lines h few))

-- as a law
pub ends_spelled : (side : Side) (lines : List AclLine) (words : List (List ℕ)) (end : Option Cond) → AreSpelledLines side lines → AreFewOfEach lines → (rule_end side lines words).gives ≡ Ok end → is_spelled_end side end ≡ true
ends_spelled side lines words end h few is = gives_so (is_spelled_end side) (rule_end side lines words).gives end (ends_give side lines words h few) is
