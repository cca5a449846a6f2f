-- Lines and conditions that are read can be said again.
use Rattle.std.proofs.Common.{◌≡◌, ℕ, zero, suc, Bool, true, false, cond, List, [], ◌∷◌, ◌++◌, length, Ok, Err, refl, ◌∙◌, length-append, ◌<◌, arith}
use Rattle.std.proofs.lemmas.Bool.{and_parts, and_from, lt-ltb}
use Rattle.std.proofs.lemmas.List.Folds.{list_all-append}
use Rattle.std.specs.Prelude.{◌==◌, ◌&&◌, nat_lt, count_by, Option, Some, None, codes}
use Rattle.std.specs.List.{list_all}
use Rattle.std.specs.Str.{bytes_eq}
use Rattle.acl_eval.specs.declared.condition.Test.{Test}
use Rattle.acl_eval.specs.declared.condition.Term.{Term}
use Rattle.acl_eval.specs.declared.condition.Cond.{Cond}
use Rattle.cfg_expr.specs.declared.fault.TextKind.TheVariants.{Argument, Acl, Limit}
use Rattle.cfg_expr.specs.declared.side.Side.{Side}
use Rattle.cfg_expr.specs.declared.condition.written.WrittenTest.{WrittenTest}
use Rattle.cfg_expr.specs.declared.condition.written.AclLine.{AclLine}
use Rattle.cfg_expr.specs.Reading.{plain, ◌>>=◌}
use Rattle.cfg_expr.specs.Faults.{TextReading}
use Rattle.cfg_expr.specs.Condition.Words.{word_or, up_to_close}
use Rattle.cfg_expr.specs.Condition.Values.{needed}
use Rattle.cfg_expr.specs.Condition.Tests.{test_of}
use Rattle.cfg_expr.specs.Condition.Lines.{test_on, named_tests, declared_name, is_named, most_lines, most_lines_of_a_name, with_line}
use Rattle.cfg_expr.specs.Condition.Conditions.{line_read, acl_line, is_or, is_open, braces, tests_at, negated_or_not, marked, term_at, with_group, with_word, groups_from, no_groups, groups_of, condition_of, rule_end}
use Rattle.cfg_laws.specs.Laws.Conditions.{has_term, are_groups}
use Rattle.cfg_laws.specs.Laws.Read.{is_spelled_on, AreSpelledLines, is_spelled_cond}
use Rattle.cfg_laws.proofs.ReadLemmas.Steps.{Gives, GivesSo, gives_so, gives_behind, so_behind, so_given, any, gives_any, reads_either}
use Rattle.cfg_laws.proofs.ReadLemmas.Tests.{test_said, test_gives, on_gives}
use Rattle.cfg_laws.proofs.ReadLemmas.Names.{all_on, named_give}

-- ---- lines

abbrev line_said : AclLine → Bool
line_said line = test_said line.test

abbrev with_test : List ℕ → WrittenTest → TextReading AclLine
with_test name test = plain (Ok (record { name = name; test = test }))

abbrev of_second : List ℕ → List ℕ × List (List ℕ) → TextReading AclLine
of_second name second = test_of None second.0 second.1 >>= with_test name

abbrev of_name : List (List ℕ) → List ℕ → TextReading AclLine
of_name others name = plain (word_or Argument others) >>= of_second name

abbrev of_first : List ℕ × List (List ℕ) → TextReading AclLine
of_first first = plain (declared_name first.0) >>= of_name first.1

second_gives : (name : List ℕ) (second : List ℕ × List (List ℕ)) → Gives line_said (of_second name second).gives
second_gives name second = gives_behind test_said line_said (test_of None second.0 second.1).gives (with_test name) (test_gives None second.0 second.1) (λ test is. is)

name_gives : (others : List (List ℕ)) (name : List ℕ) → Gives line_said (of_name others name).gives
name_gives others name = gives_behind any line_said (word_or Argument others) (of_second name) (gives_any (word_or Argument others)) (λ second free. second_gives name second)

first_gives : (first : List ℕ × List (List ℕ)) → Gives line_said (of_first first).gives
first_gives first = gives_behind any line_said (declared_name first.0) (of_name first.1) (gives_any (declared_name first.0)) (λ name free. name_gives first.1 name)

line_gives : (words : List (List ℕ)) → Gives line_said (line_read words).gives
unfolding line_read
line_gives words = gives_behind any line_said (word_or Argument words) of_first (gives_any (word_or Argument words)) (λ first free. first_gives first)

lines_more : (side : Side) (lines : List AclLine) (line : AclLine) → AreSpelledLines side lines → line_said line ≡ true → AreSpelledLines side (lines ++ line ∷ [])
lines_more side [] line h is = ((λ test on. gives_so (is_spelled_on side) (test_on side line.test) test (on_gives side line.test is) on), tt)
lines_more side (one ∷ lines) line h is = (h.0, lines_more side lines line h.1 is)

room : (side : Side) (t : Bool) (list : List AclLine) → AreSpelledLines side list → GivesSo (AreSpelledLines side) (cond t (Ok list) (Err Limit))
room side true list h = h
room side false list h = tt

acl_gives : (side : Side) (lines : List AclLine) (words : List (List ℕ)) → AreSpelledLines side lines → GivesSo (AreSpelledLines side) (acl_line lines words).gives
unfolding acl_line
acl_gives side lines words h = so_behind line_said (AreSpelledLines side) (line_read words).gives (λ line. plain (with_line lines line)) (line_gives words)
    (λ line is. room side (nat_lt (length lines) most_lines && nat_lt (count_by (is_named line.name) lines) most_lines_of_a_name) (lines ++ line ∷ []) (lines_more side lines line h is))

-- ---- terms

-- a test in braces passes for a term's
abbrev pub Single : (List Test → Bool) → Side → Type 0
Single ok side = (test : Test) → is_spelled_on side test ≡ true → ok (test ∷ []) ≡ true

-- what the tests of a term pass: those in braces, and those of names
pub record Passes (ok : List Test → Bool) (side : Side) (lines : List AclLine) : Type 0 where
  pub single : Single ok side
  pub named : (name : List ℕ) → Gives ok (named_tests side lines name)

-- tests that pass, whatever words are behind them
abbrev tests_said : (List Test → Bool) → List Test × List (List ℕ) → Bool
tests_said ok found = ok found.0

abbrev with_others : Test → List (List ℕ) → TextReading (List Test × List (List ℕ))
with_others test others = plain (Ok (test ∷ [], others))

abbrev of_test : List (List ℕ) → Test → TextReading (List Test × List (List ℕ))
of_test words test = plain (needed (up_to_close words).1) >>= with_others test

abbrev of_written : Side → List (List ℕ) → WrittenTest → TextReading (List Test × List (List ℕ))
of_written side words written = plain (test_on side written) >>= of_test words

abbrev of_criterion : Side → List (List ℕ) → List ℕ × List (List ℕ) → TextReading (List Test × List (List ℕ))
of_criterion side words criterion = test_of (Some side) criterion.0 criterion.1 >>= of_written side words

test_behind : (ok : List Test → Bool) (side : Side) (words : List (List ℕ)) (test : Test) → Single ok side → is_spelled_on side test ≡ true → Gives (tests_said ok) (of_test words test).gives
test_behind ok side words test single is = gives_behind any (tests_said ok) (needed (up_to_close words).1) (with_others test) (gives_any (needed (up_to_close words).1)) (λ others free. single test is)

written_behind : (ok : List Test → Bool) (side : Side) (words : List (List ℕ)) (written : WrittenTest) → Single ok side → test_said written ≡ true → Gives (tests_said ok) (of_written side words written).gives
written_behind ok side words written single is = gives_behind (is_spelled_on side) (tests_said ok) (test_on side written) (of_test words) (on_gives side written is) (λ test on. test_behind ok side words test single on)

braces_give : (ok : List Test → Bool) (side : Side) (words : List (List ℕ)) → Single ok side → Gives (tests_said ok) (braces side words).gives
unfolding braces
braces_give ok side words single = gives_behind any (tests_said ok) (word_or Acl (up_to_close words).0) (of_criterion side words) (gives_any (word_or Acl (up_to_close words).0))
    (λ criterion free. gives_behind test_said (tests_said ok) (test_of (Some side) criterion.0 criterion.1).gives (of_written side words) (test_gives (Some side) criterion.0 criterion.1) (λ written is. written_behind ok side words written single is))

abbrev with_words : List (List ℕ) → List Test → TextReading (List Test × List (List ℕ))
with_words others tests = plain (Ok (tests, others))

at_gives : (ok : List Test → Bool) (side : Side) (lines : List AclLine) (word : List ℕ) (others : List (List ℕ)) → Passes ok side lines → Gives (tests_said ok) (tests_at side lines word others).gives
at_gives ok side lines word others h =
    reads_either (tests_said ok) (is_open word) (braces side others) (plain (named_tests side lines word) >>= with_words others) (braces_give ok side others h.single)
    (gives_behind ok (tests_said ok) (named_tests side lines word) (with_words others) (h.named word) (λ tests is. is))

-- a term that passes, whatever words are behind it
abbrev term_said : (List Test → Bool) → Term × List (List ℕ) → Bool
term_said ok found = ok found.0.tests

abbrev with_sign : Bool → List Test × List (List ℕ) → TextReading (Term × List (List ℕ))
with_sign negated found = plain (Ok (record { not = negated; tests = found.0 }, found.1))

sign_gives : (ok : List Test → Bool) (negated : Bool) (side : Side) (lines : List AclLine) (word : List ℕ) (others : List (List ℕ)) → Passes ok side lines → Gives (term_said ok) (negated_or_not negated side lines word others).gives
sign_gives ok negated side lines word others h = gives_behind (tests_said ok) (term_said ok) (tests_at side lines word others).gives (with_sign negated) (at_gives ok side lines word others h) (λ found is. is)

mark_gives : (ok : List Test → Bool) (side : Side) (lines : List AclLine) (joined : List ℕ) (others : List (List ℕ)) → Passes ok side lines → Gives (term_said ok) (marked side lines joined others).gives
mark_gives ok side lines [] others h = gives_behind any (term_said ok) (word_or Acl others) (λ next. negated_or_not true side lines next.0 next.1) (gives_any (word_or Acl others)) (λ next free. sign_gives ok true side lines next.0 next.1 h)
mark_gives ok side lines (b ∷ joined) others h = sign_gives ok true side lines (b ∷ joined) others h

term_gives : (ok : List Test → Bool) (side : Side) (lines : List AclLine) (word : List ℕ) (others : List (List ℕ)) → Passes ok side lines → Gives (term_said ok) (term_at side lines word others).gives
unfolding term_at
term_gives ok side lines [] others h = sign_gives ok false side lines [] others h
term_gives ok side lines (b ∷ word) others h =
    reads_either (term_said ok) (b == 33) (marked side lines word others) (negated_or_not false side lines (b ∷ word) others) (mark_gives ok side lines word others h) (sign_gives ok false side lines (b ∷ word) others h)

-- ---- groups

abbrev pub passes : (List Test → Bool) → Term → Bool
passes ok term = ok term.tests

abbrev pub are_terms : (List Test → Bool) → List Term → Bool
are_terms ok terms = list_all (passes ok) terms

-- groups whose terms pass, of which there may be none
abbrev are_said : (List Test → Bool) → List (List Term) → Bool
are_said ok groups = list_all has_term groups && list_all (are_terms ok) groups

-- one group or more
abbrev pub some_said : (List Test → Bool) → List (List Term) → Bool
some_said ok groups = are_groups groups && list_all (are_terms ok) groups

group_gives : (ok : List Test → Bool) (groups : List (List Term)) (terms : List Term) → are_said ok groups ≡ true → are_terms ok terms ≡ true → Gives (some_said ok) (with_group groups terms)
group_gives ok groups [] h is = tt
group_gives ok groups (term ∷ terms) h is =
    let group = term ∷ terms in
    let all = groups ++ group ∷ [] in
    let both = and_parts (list_all has_term groups) (list_all (are_terms ok) groups) h in
    let some : 0 < length all = simp length-append (omega arith) in
    and_from (are_groups all) (list_all (are_terms ok) all)
    (and_from (nat_lt 0 (length all)) (list_all has_term all) (lt-ltb 0 (length all) some)
    (list_all-append has_term groups (group ∷ []) ∙ and_from (list_all has_term groups) (has_term group && true) both.0 (and_from (has_term group) true (lt-ltb 0 (length group) (omega arith)) refl)))
    (list_all-append (are_terms ok) groups (group ∷ []) ∙ and_from (list_all (are_terms ok) groups) (are_terms ok group && true) both.1 (and_from (are_terms ok group) true is refl))

some_are : (ok : List Test → Bool) (groups : List (List Term)) → some_said ok groups ≡ true → are_said ok groups ≡ true
some_are ok groups h =
    let both = and_parts (are_groups groups) (list_all (are_terms ok) groups) h in
    and_from (list_all has_term groups) (list_all (are_terms ok) groups) (and_parts (nat_lt 0 (length groups)) (list_all has_term groups) both.0).1 both.1

abbrev TypeOf : {A : Type 0} → A → Type 0
TypeOf {A} x = A

-- a private type by its value
abbrev Groups : Type 0
Groups = TypeOf no_groups

abbrev groups_said : (List Test → Bool) → Groups → Bool
groups_said ok so_far = are_said ok so_far.whole && are_terms ok so_far.terms

abbrev next_said : (List Test → Bool) → Groups × List (List ℕ) → Bool
next_said ok found = groups_said ok found.0

abbrev with_whole : List (List ℕ) → List (List Term) → TextReading (Groups × List (List ℕ))
with_whole others whole = plain (Ok (record no_groups { whole = whole }, others))

abbrev with_term : Groups → Term × List (List ℕ) → TextReading (Groups × List (List ℕ))
with_term so_far found = plain (Ok (record so_far { terms = so_far.terms ++ found.0 ∷ [] }, found.1))

term_more : (ok : List Test → Bool) (terms : List Term) (term : Term) → are_terms ok terms ≡ true → passes ok term ≡ true → are_terms ok (terms ++ term ∷ []) ≡ true
term_more ok terms term h is =
    list_all-append (passes ok) terms (term ∷ []) ∙ and_from (are_terms ok terms) (passes ok term && true) h (and_from (passes ok term) true is refl)

word_gives : (ok : List Test → Bool) (side : Side) (lines : List AclLine) (so_far : Groups) (word : List ℕ) (others : List (List ℕ)) → Passes ok side lines → groups_said ok so_far ≡ true → Gives (next_said ok) (with_word side lines so_far word others).gives
unfolding with_word
word_gives ok side lines so_far word others h said =
    let both = and_parts (are_said ok so_far.whole) (are_terms ok so_far.terms) said in
    reads_either (next_said ok) (is_or word) (plain (with_group so_far.whole so_far.terms) >>= with_whole others) (term_at side lines word others >>= with_term so_far)
    (gives_behind (some_said ok) (next_said ok) (with_group so_far.whole so_far.terms) (with_whole others) (group_gives ok so_far.whole so_far.terms both.0 both.1)
    (λ whole is. and_from (are_said ok whole) true (some_are ok whole is) refl))
    (gives_behind (term_said ok) (next_said ok) (term_at side lines word others).gives (with_term so_far) (term_gives ok side lines word others h)
    (λ found is. and_from (are_said ok so_far.whole) (are_terms ok (so_far.terms ++ found.0 ∷ [])) both.0 (term_more ok so_far.terms found.0 both.1 is)))

last_gives : (ok : List Test → Bool) (so_far : Groups) → groups_said ok so_far ≡ true → Gives (some_said ok) (with_group so_far.whole so_far.terms)
last_gives ok so_far said =
    let both = and_parts (are_said ok so_far.whole) (are_terms ok so_far.terms) said in
    group_gives ok so_far.whole so_far.terms both.0 both.1

from_gives : (ok : List Test → Bool) (side : Side) (lines : List AclLine) (most : ℕ) (so_far : Groups) (words : List (List ℕ)) → Passes ok side lines → groups_said ok so_far ≡ true → Gives (some_said ok) (groups_from side lines most so_far words).gives
unfolding groups_from
from_gives ok side lines zero so_far [] h said = last_gives ok so_far said
from_gives ok side lines (suc most) so_far [] h said = last_gives ok so_far said
from_gives ok side lines zero so_far (word ∷ others) h said = tt
from_gives ok side lines (suc most) so_far (word ∷ others) h said =
    gives_behind (next_said ok) (some_said ok) (with_word side lines so_far word others).gives (λ next. groups_from side lines most next.0 next.1) (word_gives ok side lines so_far word others h said)
    (λ next is. from_gives ok side lines most next.0 next.1 h is)

-- ---- conditions

-- the terms of a condition pass, if there is one
abbrev pub end_said : (List Test → Bool) → Option Cond → Bool
end_said ok None = true
end_said ok (Some cond) = some_said ok cond.groups

abbrev with_word_in_front : Bool → List (List Term) → TextReading (Option Cond)
with_word_in_front unless groups = plain (Ok (Some (record { unless = unless; groups = groups })))

cond_gives : (ok : List Test → Bool) (side : Side) (lines : List AclLine) (unless : Bool) (words : List (List ℕ)) → Passes ok side lines → Gives (end_said ok) (condition_of side lines unless words).gives
unfolding condition_of
cond_gives ok side lines unless words h =
    gives_behind (some_said ok) (end_said ok) (groups_of side lines words).gives (with_word_in_front unless) (from_gives ok side lines (length words) no_groups words h refl) (λ groups is. is)

pub end_gives : (ok : List Test → Bool) (side : Side) (lines : List AclLine) (words : List (List ℕ)) → Passes ok side lines → Gives (end_said ok) (rule_end side lines words).gives
unfolding rule_end
end_gives ok side lines [] h = refl
end_gives ok side lines (word ∷ others) h =
    let unless = condition_of side lines true others in
    reads_either (end_said ok) (bytes_eq word (codes "if")) (condition_of side lines false others) (cond (bytes_eq word (codes "unless")) unless (plain (Err Argument))) (cond_gives ok side lines false others h)
    (reads_either (end_said ok) (bytes_eq word (codes "unless")) unless (plain (Err Argument)) (cond_gives ok side lines true others h) tt)

-- tests that a direction can say pass
on_passes : (side : Side) (lines : List AclLine) → AreSpelledLines side lines → Passes (all_on side) side lines
on_passes side lines h = record { single = λ test is. and_from (is_spelled_on side test) true is refl; named = λ name. named_give side lines name h }

-- ---- as laws

pub lines_spelled : (side : Side) (lines more : List AclLine) (words : List (List ℕ)) → AreSpelledLines side lines → (acl_line lines words).gives ≡ Ok more → AreSpelledLines side more
lines_spelled side lines more words h is = so_given (AreSpelledLines side) (acl_line lines words).gives more (acl_gives side lines words h) is

pub conds_spelled : (side : Side) (lines : List AclLine) (words : List (List ℕ)) (cond : Cond) → AreSpelledLines side lines → (rule_end side lines words).gives ≡ Ok (Some cond) → is_spelled_cond side cond ≡ true
conds_spelled side lines words cond h is =
    gives_so (end_said (all_on side)) (rule_end side lines words).gives (Some cond) (end_gives (all_on side) side lines words (on_passes side lines h)) is
