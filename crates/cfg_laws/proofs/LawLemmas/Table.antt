-- What the names of a table stand for, term by term.
use Rattle.std.proofs.Common.{◌≡◌, ℕ, ◌+◌, ◌<◌, ◌≤◌, ◌^◌, Bool, true, false, cond, List, [], ◌∷◌, ◌++◌, map, length, length-append, refl, sym, ap, ◌∙◌, subst, append_assoc, arith}
use Rattle.std.proofs.lemmas.Bool.{false≢true, ltb-true}
use Rattle.std.proofs.lemmas.List.{append-nil}
use Rattle.std.specs.Prelude.{not, ◌||◌, ◌&&◌, nat_lt, nat_le, Some, Ok, Err}
use Rattle.std.specs.List.{list_all, flat_map, position_or_len}
use Rattle.std.specs.Str.{bytes_eq}
use Rattle.acl_eval.specs.declared.condition.Test.{Test}
use Rattle.acl_eval.specs.declared.condition.Term.{Term}
use Rattle.acl_eval.specs.declared.condition.Cond.{Cond}
use Rattle.cfg_expr.specs.declared.side.Side.{Side}
use Rattle.cfg_expr.specs.declared.condition.written.AclLine.{AclLine}
use Rattle.cfg_expr.specs.Faults.{Told}
use Rattle.cfg_expr.specs.Steps.{◌>>=◌}
use Rattle.cfg_expr.specs.Condition.Lines.{most_lines, most_lines_of_a_name, predefined_of, is_named, test_on, tests_from, some_tests, named_tests}
use Rattle.cfg_print.specs.Table.{terms_of, key_of, is_key, is_among, with_key, keys_from, name_at, name_for, count_lines}
use Rattle.cfg_laws.specs.Spelled.{is_spelled_test}
use Rattle.cfg_laws.specs.Laws.Tests.{written_test}
use Rattle.cfg_laws.specs.Laws.Conditions.{AreNamed, AreAllNamed}
use Rattle.cfg_laws.specs.Laws.Table.{line_with, declared, is_spelled_term, are_spelled_terms, is_test_on, is_term_on}
use Rattle.cfg_print.proofs.PublicLaws.{place_is}
use Rattle.cfg_laws.proofs.LawLemmas.Words.{both_left, both_right}
use Rattle.cfg_laws.proofs.LawLemmas.Tests.{test_in_direction}
use Rattle.cfg_laws.proofs.LawLemmas.Names.{other_name, same_bytes, are_same}
use Rattle.cfg_laws.proofs.LawLemmas.Keys.{same_key}

-- ---- lines of a name

-- lines of the name give their tests
own_lines : (side : Side) (name : List ℕ) (so_far tests : List Test) → list_all (is_test_on side) tests ≡ true
    → tests_from side name so_far (map (line_with name) tests) ≡ Ok (so_far ++ tests)
own_lines side name so_far [] on = ap Ok (sym (append-nil so_far))
own_lines side name so_far (test ∷ tests) on =
    let rest = map (line_with name) tests in
    ap (λ t. cond t (test_on side (written_test test) >>= λ one. tests_from side name (so_far ++ one ∷ []) rest) (tests_from side name so_far rest)) (same_bytes name)
    ∙ ap (λ told. told >>= λ one. tests_from side name (so_far ++ one ∷ []) rest) (test_in_direction side test (both_left (is_test_on side test) (list_all (is_test_on side) tests) on))
    ∙ own_lines side name (so_far ++ test ∷ []) tests (both_right (is_test_on side test) (list_all (is_test_on side) tests) on)
    ∙ ap Ok (append_assoc so_far (test ∷ []) tests)

-- lines of another name give none
other_lines : (side : Side) (name other : List ℕ) (so_far tests : List Test) → bytes_eq other name ≡ false
    → tests_from side name so_far (map (line_with other) tests) ≡ Ok so_far
other_lines side name other so_far [] apart = refl
other_lines side name other so_far (test ∷ tests) apart =
    let rest = map (line_with other) tests in
    ap (λ t. cond t (test_on side (written_test test) >>= λ one. tests_from side name (so_far ++ one ∷ []) rest) (tests_from side name so_far rest)) apart
    ∙ other_lines side name other so_far tests apart

-- lines behind others
more_lines : (side : Side) (name : List ℕ) (so_far : List Test) (lines more : List AclLine)
    → tests_from side name so_far (lines ++ more) ≡ (tests_from side name so_far lines >>= λ tests. tests_from side name tests more)
more_lines side name so_far [] more = refl
more_lines side name so_far (line ∷ lines) more = by_line (is_named name line) (test_on side line.test) (λ tests. more_lines side name tests lines more)
  where
    by_line : (t : Bool) (told : Told Test)
        → ((tests : List Test) → tests_from side name tests (lines ++ more) ≡ (tests_from side name tests lines >>= λ found. tests_from side name found more))
        → cond t (told >>= λ one. tests_from side name (so_far ++ one ∷ []) (lines ++ more)) (tests_from side name so_far (lines ++ more))
        ≡ (cond t (told >>= λ one. tests_from side name (so_far ++ one ∷ []) lines) (tests_from side name so_far lines) >>= λ tests. tests_from side name tests more)
    by_line true (Ok one) again = again (so_far ++ one ∷ [])
    by_line true (Err kind) again = refl
    by_line false told again = again so_far

-- ---- places of keys

abbrev place : List (List ℕ) → List ℕ → ℕ
place keys key = position_or_len (is_key key) keys

place_within : (keys : List (List ℕ)) (key : List ℕ) → is_among keys key ≡ true → place keys key < length keys
place_within [] key among = absurd (false≢true among)
place_within (other ∷ keys) key among = by_first (is_key key other) refl (place_within keys key)
  where
    by_first : (t : Bool) → is_key key other ≡ t → (is_among keys key ≡ true → place keys key < length keys) → cond (not t) (1 + place keys key) 0 < length (other ∷ keys)
    by_first true is again = omega arith
    by_first false is again =
        let behind = again (sym (ap (λ t. t || is_among keys key) is) ∙ among) in
        omega (arith, behind)

-- the place stays
place_stays : (keys more : List (List ℕ)) (key : List ℕ) → is_among keys key ≡ true → place (keys ++ more) key ≡ place keys key
place_stays [] more key among = absurd (false≢true among)
place_stays (other ∷ keys) more key among = by_first (is_key key other) refl (place_stays keys more key)
  where
    by_first : (t : Bool) → is_key key other ≡ t → (is_among keys key ≡ true → place (keys ++ more) key ≡ place keys key) → cond (not t) (1 + place (keys ++ more) key) 0 ≡ cond (not t) (1 + place keys key) 0
    by_first true is again = refl
    by_first false is again = ap (λ n. 1 + n) (again (sym (ap (λ t. t || is_among keys key) is) ∙ among))

-- a new key stands last
place_last : (keys : List (List ℕ)) (key other : List ℕ) → is_among keys key ≡ false → is_key key other ≡ true → place (keys ++ other ∷ []) key ≡ length keys
place_last [] key other among is = ap (λ t. cond (not t) 1 0) is
place_last (first ∷ keys) key other among is = by_first (is_key key first) refl (λ out. place_last keys key other out is)
  where
    by_first : (t : Bool) → is_key key first ≡ t → (is_among keys key ≡ false → place (keys ++ other ∷ []) key ≡ length keys) → cond (not t) (1 + place (keys ++ other ∷ []) key) 0 ≡ length (first ∷ keys)
    by_first true own again = absurd (false≢true (sym among ∙ ap (λ t. t || is_among keys key) own))
    by_first false own again =
        let behind = again (sym (ap (λ t. t || is_among keys key) own) ∙ among) in
        omega (arith, behind)

-- ---- what is among keys

among_more : (keys more : List (List ℕ)) (key : List ℕ) → is_among keys key ≡ true → is_among (keys ++ more) key ≡ true
among_more [] more key among = absurd (false≢true among)
among_more (other ∷ keys) more key among = by_first (is_key key other) refl (among_more keys more key)
  where
    by_first : (t : Bool) → is_key key other ≡ t → (is_among keys key ≡ true → is_among (keys ++ more) key ≡ true) → (t || is_among (keys ++ more) key) ≡ true
    by_first true is again = refl
    by_first false is again = again (sym (ap (λ t. t || is_among keys key) is) ∙ among)

among_last : (keys : List (List ℕ)) (key : List ℕ) → is_among (keys ++ key ∷ []) key ≡ true
among_last [] key = ap (λ t. t || false) (same_bytes key)
among_last (other ∷ keys) key = by_first (is_key key other) (among_last keys key)
  where
    by_first : (t : Bool) → is_among (keys ++ key ∷ []) key ≡ true → (t || is_among (keys ++ key ∷ []) key) ≡ true
    by_first true again = refl
    by_first false again = again

-- what is among one more key is that key, or among the others
among_new : (keys : List (List ℕ)) (new key : List ℕ) → is_among keys key ≡ false → is_among (keys ++ new ∷ []) key ≡ true → is_key key new ≡ true
among_new [] new key out among = by_own (is_key key new) refl
  where
    by_own : (t : Bool) → is_key key new ≡ t → is_key key new ≡ true
    by_own true is = is
    by_own false is = absurd (false≢true (sym (ap (λ t. t || false) is) ∙ among))
among_new (other ∷ keys) new key out among = by_first (is_key key other) refl (among_new keys new key)
  where
    by_first : (t : Bool) → is_key key other ≡ t → (is_among keys key ≡ false → is_among (keys ++ new ∷ []) key ≡ true → is_key key new ≡ true) → is_key key new ≡ true
    by_first true is again = absurd (false≢true (sym out ∙ ap (λ t. t || is_among keys key) is))
    by_first false is again =
        again (sym (ap (λ t. t || is_among keys key) is) ∙ out) (sym (ap (λ t. t || is_among (keys ++ new ∷ []) key) is) ∙ among)

-- keys stay among the keys
among_with : (keys : List (List ℕ)) (new key : List ℕ) → is_among keys key ≡ true → is_among (with_key keys new) key ≡ true
among_with keys new key among = by_test (is_among keys new)
  where
    by_test : (t : Bool) → is_among (cond t keys (keys ++ new ∷ [])) key ≡ true
    by_test true = among
    by_test false = among_more keys (new ∷ []) key among

among_own : (keys : List (List ℕ)) (key : List ℕ) → is_among (with_key keys key) key ≡ true
among_own keys key = by_test (is_among keys key) refl
  where
    by_test : (t : Bool) → is_among keys key ≡ t → is_among (cond t keys (keys ++ key ∷ [])) key ≡ true
    by_test true is = is
    by_test false is = among_last keys key

among_all : (keys : List (List ℕ)) (terms : List Term) (key : List ℕ) → is_among keys key ≡ true → is_among (keys_from keys terms) key ≡ true
unfolding keys_from
among_all keys [] key among = among
among_all keys (term ∷ terms) key among = among_all (with_key keys (key_of term)) terms key (among_with keys (key_of term) key among)

-- each term's key is among those of all
pub among_terms : (keys : List (List ℕ)) (before : List Term) (term : Term) (behind : List Term) → is_among (keys_from keys (before ++ term ∷ behind)) (key_of term) ≡ true
unfolding keys_from
among_terms keys [] term behind = among_all (with_key keys (key_of term)) behind (key_of term) (among_own keys (key_of term))
among_terms keys (other ∷ before) term behind = among_terms (with_key keys (key_of other)) before term behind

-- ---- a table so far

-- the name of each term that stands in it gives its tests
abbrev Says : Side → List (List ℕ) → List AclLine → Type 0
Says side keys lines = (term : Term) → is_spelled_term term ≡ true → is_term_on side term ≡ true → is_among keys (key_of term) ≡ true
    → tests_from side (name_at (place keys (key_of term) + 1)) [] lines ≡ Ok term.tests

-- later names give none
abbrev IsFresh : Side → List (List ℕ) → List AclLine → Type 0
IsFresh side keys lines = (number : ℕ) (so_far : List Test) → length keys < number → number < 2 ^ 64 → tests_from side (name_at number) so_far lines ≡ Ok so_far

pub spelled_tests : (term : Term) → is_spelled_term term ≡ true → list_all is_spelled_test term.tests ≡ true
spelled_tests term h =
    let few = nat_le (length term.tests) most_lines_of_a_name in
    both_right few (list_all is_spelled_test term.tests) (both_right (nat_lt 0 (length term.tests)) (few && list_all is_spelled_test term.tests) h)

pub some_tests_in : (term : Term) → is_spelled_term term ≡ true → 0 < length term.tests
some_tests_in term h =
    ltb-true 0 (length term.tests) (both_left (nat_lt 0 (length term.tests)) (nat_le (length term.tests) most_lines_of_a_name && list_all is_spelled_test term.tests) h)

-- ---- one more term

fresh_new : (side : Side) (keys : List (List ℕ)) (lines : List AclLine) (term : Term) → IsFresh side keys lines
    → IsFresh side (keys ++ key_of term ∷ []) (lines ++ map (line_with (name_at (length keys + 1))) term.tests)
fresh_new side keys lines term fresh number so_far late small =
    let new = map (line_with (name_at (length keys + 1))) term.tests in
    let size = length-append keys (key_of term ∷ []) in
    let behind : length keys + 1 < number = omega (arith, size, late) in
    more_lines side (name_at number) so_far lines new
    ∙ ap (λ told. told >>= λ tests. tests_from side (name_at number) tests new) (fresh number so_far (omega (arith, behind)) small)
    ∙ other_lines side (name_at number) (name_at (length keys + 1)) so_far term.tests (other_name (length keys + 1) number (omega (arith, behind, small)) small (λ e. omega (arith, e, behind)))

says_new : (side : Side) (keys : List (List ℕ)) (lines : List AclLine) (term : Term) → length keys + 1 < 2 ^ 64 → is_spelled_term term ≡ true
    → Says side keys lines → IsFresh side keys lines → Says side (keys ++ key_of term ∷ []) (lines ++ map (line_with (name_at (length keys + 1))) term.tests)
says_new side keys lines term small own says fresh other h on among = by_test (is_among keys (key_of other)) refl
  where
    by_test : (t : Bool) → is_among keys (key_of other) ≡ t → tests_from side (name_at (place (keys ++ key_of term ∷ []) (key_of other) + 1)) [] (lines ++ map (line_with (name_at (length keys + 1))) term.tests) ≡ Ok other.tests
    by_test true is =
        let within = place_within keys (key_of other) is in
        let number = place keys (key_of other) + 1 in
        let added = map (line_with (name_at (length keys + 1))) term.tests in
        ap (λ n. tests_from side (name_at (n + 1)) [] (lines ++ added)) (place_stays keys (key_of term ∷ []) (key_of other) is)
        ∙ more_lines side (name_at number) [] lines added
        ∙ ap (λ told. told >>= λ tests. tests_from side (name_at number) tests added) (says other h on is)
        ∙ other_lines side (name_at number) (name_at (length keys + 1)) other.tests term.tests (other_name (length keys + 1) number small (omega (arith, within, small)) (λ e. omega (arith, e, within)))
    by_test false is =
        let same = among_new keys (key_of term) (key_of other) is among in
        let tests = same_key other term (spelled_tests other h) (spelled_tests term own) (sym (are_same (key_of term) (key_of other) same)) in
        let number = length keys + 1 in
        let added = map (line_with (name_at number)) term.tests in
        ap (λ n. tests_from side (name_at (n + 1)) [] (lines ++ added)) (place_last keys (key_of other) (key_of term) is same)
        ∙ more_lines side (name_at number) [] lines added
        ∙ ap (λ told. told >>= λ tests. tests_from side (name_at number) tests added) (fresh number [] (omega arith) small)
        ∙ own_lines side (name_at number) [] term.tests (subst (λ l. list_all (is_test_on side) l ≡ true) tests on)
        ∙ ap Ok (sym tests)

-- ---- all terms

pub all_say : (side : Side) (keys : List (List ℕ)) (lines : List AclLine) (terms : List Term) → are_spelled_terms terms ≡ true → length keys + count_lines keys terms < 2 ^ 64
    → Says side keys lines → IsFresh side keys lines → Says side (keys_from keys terms) (lines ++ declared keys terms)
unfolding keys_from count_lines declared
all_say side keys lines [] spelled small says fresh = subst (λ l. Says side keys l) (sym (append-nil lines)) says
all_say side keys lines (term ∷ terms) spelled small says fresh =
    by_test (is_among keys (key_of term)) small (λ k l. all_say side k l terms (both_right (is_spelled_term term) (are_spelled_terms terms) spelled))
  where
    by_test : (t : Bool) → length keys + (cond t 0 (length term.tests) + count_lines (cond t keys (keys ++ key_of term ∷ [])) terms) < 2 ^ 64
        → ((k : List (List ℕ)) (l : List AclLine) → length k + count_lines k terms < 2 ^ 64 → Says side k l → IsFresh side k l → Says side (keys_from k terms) (l ++ declared k terms))
        → Says side (keys_from (cond t keys (keys ++ key_of term ∷ [])) terms) (lines ++ (cond t [] (map (line_with (name_at (length keys + 1))) term.tests) ++ declared (cond t keys (keys ++ key_of term ∷ [])) terms))
    by_test true few again = again keys lines (omega (arith, few)) says fresh
    by_test false few again =
        let own = both_left (is_spelled_term term) (are_spelled_terms terms) spelled in
        let some = some_tests_in term own in
        let more = keys ++ key_of term ∷ [] in
        let new = map (line_with (name_at (length keys + 1))) term.tests in
        let size = length-append keys (key_of term ∷ []) in
        let all = again more (lines ++ new) (omega (arith, some, size, few)) (says_new side keys lines term (omega (arith, some, few)) own says fresh) (fresh_new side keys lines term fresh) in
        subst (λ l. Says side (keys_from more terms) l) (append_assoc lines new (declared more terms)) all

-- ---- what a name stands for

found_some : (tests : List Test) → 0 < length tests → some_tests tests ≡ Ok tests
found_some [] some = absurd (omega arith)
found_some (test ∷ tests) some = refl

by_name : (side : Side) (lines : List AclLine) (digits : List ℕ) (tests : List Test) → 0 < length tests → tests_from side (99 ∷ digits) [] lines ≡ Ok tests → named_tests side lines (99 ∷ digits) ≡ Ok tests
unfolding predefined_of
by_name side lines digits tests some h = ap (λ told. told >>= some_tests) h ∙ found_some tests some

-- the terms of a table that isn't too long
pub named : (side : Side) (terms : List Term) (term : Term) → are_spelled_terms terms ≡ true → count_lines [] terms ≤ most_lines → is_spelled_term term ≡ true → is_term_on side term ≡ true
    → is_among (keys_from [] terms) (key_of term) ≡ true → named_tests side (declared [] terms) (name_for (keys_from [] terms) (key_of term)) ≡ Ok term.tests
unfolding name_for
named side terms term spelled few own on among =
    let keys = keys_from [] terms in
    let number = place_is (is_key (key_of term)) keys (place keys (key_of term)) refl in
    let says = all_say side [] [] terms spelled (omega (arith, few)) (λ other h i out. absurd (false≢true out)) (λ n tests late small. refl) in
    subst (λ n. named_tests side (declared [] terms) (name_at n) ≡ Ok term.tests) number (by_name side (declared [] terms) _ term.tests (some_tests_in term own) (says term own on among))

-- ---- the laws

-- one of terms that are all spelled
spelled_at : (before : List Term) (term : Term) (behind : List Term) → are_spelled_terms (before ++ term ∷ behind) ≡ true → is_spelled_term term ≡ true
spelled_at [] term behind h = both_left (is_spelled_term term) (are_spelled_terms behind) h
spelled_at (other ∷ before) term behind h = spelled_at before term behind (both_right (is_spelled_term other) (are_spelled_terms (before ++ term ∷ behind)) h)

pub term_named : (side : Side) (before : List Term) (term : Term) (behind : List Term) → are_spelled_terms (before ++ term ∷ behind) ≡ true
    → count_lines [] (before ++ term ∷ behind) ≤ most_lines → is_term_on side term ≡ true
    → named_tests side (declared [] (before ++ term ∷ behind)) (name_for (keys_from [] (before ++ term ∷ behind)) (key_of term)) ≡ Ok term.tests
term_named side before term behind spelled few on =
    named side (before ++ term ∷ behind) term spelled few (spelled_at before term behind spelled) on (among_terms [] before term behind)

-- ---- conditions

all_left : (test : Term → Bool) (terms others : List Term) → list_all test (terms ++ others) ≡ true → list_all test terms ≡ true
all_left test [] others h = refl
all_left test (term ∷ terms) others h =
    ap (λ t. t && list_all test terms) (both_left (test term) (list_all test (terms ++ others)) h) ∙ all_left test terms others (both_right (test term) (list_all test (terms ++ others)) h)

all_right : (test : Term → Bool) (terms others : List Term) → list_all test (terms ++ others) ≡ true → list_all test others ≡ true
all_right test [] others h = h
all_right test (term ∷ terms) others h = all_right test terms others (both_right (test term) (list_all test (terms ++ others)) h)

-- a group among the terms of a table
group_named : (side : Side) (all before group behind : List Term) → all ≡ before ++ (group ++ behind) → are_spelled_terms all ≡ true → count_lines [] all ≤ most_lines
    → list_all (is_term_on side) group ≡ true → AreNamed side (declared [] all) (keys_from [] all) group
group_named side all before [] behind e spelled few on = tt
group_named side all before (term ∷ group) behind e spelled few on =
    let rest = group ++ behind in
    let here : List Term → Type 0 = λ l. named_tests side (declared [] l) (name_for (keys_from [] l) (key_of term)) ≡ Ok term.tests in
    let one = term_named side before term rest (subst (λ l. are_spelled_terms l ≡ true) e spelled) (subst (λ l. count_lines [] l ≤ most_lines) e few) (both_left (is_term_on side term) (list_all (is_term_on side) group) on) in (
      subst here (sym e) one,
      group_named side all (before ++ term ∷ []) group behind (e ∙ sym (append_assoc before (term ∷ []) rest)) spelled few (both_right (is_term_on side term) (list_all (is_term_on side) group) on),
    )

pub groups_named : (side : Side) (all before : List Term) (groups : List (List Term)) (behind : List Term) → all ≡ before ++ (flat_map (λ group. group) groups ++ behind) → are_spelled_terms all ≡ true
    → count_lines [] all ≤ most_lines → list_all (is_term_on side) (flat_map (λ group. group) groups) ≡ true → AreAllNamed side (declared [] all) (keys_from [] all) groups
groups_named side all before [] behind e spelled few on = tt
groups_named side all before (group ∷ groups) behind e spelled few on =
    let others = flat_map (λ (group : List Term). group) groups in
    let joined = e ∙ ap (λ l. before ++ l) (append_assoc group others behind) in (
      group_named side all before group (others ++ behind) joined spelled few (all_left (is_term_on side) group others on),
      groups_named side all (before ++ group) groups behind (joined ∙ sym (append_assoc before group (others ++ behind))) spelled few (all_right (is_term_on side) group others on),
    )

pub condition_named : (side : Side) (before : List Term) (cond : Cond) (behind : List Term) → are_spelled_terms (before ++ (terms_of (Some cond) ++ behind)) ≡ true
    → count_lines [] (before ++ (terms_of (Some cond) ++ behind)) ≤ most_lines → list_all (is_term_on side) (terms_of (Some cond)) ≡ true
    → AreAllNamed side (declared [] (before ++ (terms_of (Some cond) ++ behind))) (keys_from [] (before ++ (terms_of (Some cond) ++ behind))) cond.groups
condition_named side before cond behind spelled few on = groups_named side (before ++ (terms_of (Some cond) ++ behind)) before cond.groups behind refl spelled few on
