-- The lines of a table, read one behind the other.
use Rattle.std.proofs.Common.{◌≡◌, ℕ, ◌+◌, ◌<◌, ◌≤◌, ◌^◌, Bool, true, false, cond, List, [], ◌∷◌, ◌++◌, map, length, length-append, count_by, refl, sym, ap, ◌∙◌, append_assoc, zero-add, arith}
use Rattle.std.proofs.lemmas.Bool.{lt-ltb, leb-true}
use Rattle.std.proofs.lemmas.List.{append-nil, length-map}
use Rattle.std.proofs.lemmas.List.Sums.{sum_by-append, sum_by-cons}
use Rattle.std.specs.Prelude.{◌&&◌, nat_lt, nat_le, Ok, Err}
use Rattle.std.specs.List.{list_all, flat_map}
use Rattle.std.specs.Str.{bytes_eq}
use Rattle.px_pattern.specs.Pattern.{Pattern}
use Rattle.acl_eval.specs.declared.condition.Test.{Test}
use Rattle.acl_eval.specs.declared.condition.Term.{Term}
use Rattle.cfg_expr.specs.declared.fault.TextKind.TheVariants.{Limit}
use Rattle.cfg_expr.specs.declared.condition.written.AclLine.{AclLine}
use Rattle.cfg_expr.specs.Reading.{plain, ◌>>=◌}
use Rattle.cfg_expr.specs.Faults.{TextReading}
use Rattle.cfg_expr.specs.Condition.Lines.{most_lines, most_lines_of_a_name, declared_name, is_named, with_line}
use Rattle.cfg_expr.specs.Condition.Conditions.{acl_line}
use Rattle.cfg_print.specs.Table.{key_of, is_among, name_at, acl_line as line_spelled, table_text, count_lines}
use Rattle.cfg_laws.specs.Spelled.{is_spelled_test}
use Rattle.cfg_laws.specs.Laws.Tests.{test_patterns}
use Rattle.cfg_laws.specs.Laws.Table.{line_with, line_words, declared, declared_words, declared_patterns, acl_text, lines_from, is_spelled_term, are_spelled_terms}
use Rattle.cfg_laws.proofs.LawLemmas.Words.{both_left, both_right}
use Rattle.cfg_laws.proofs.LawLemmas.Convs.{found}
use Rattle.cfg_laws.proofs.LawLemmas.Tests.{acl_line_back}
use Rattle.cfg_laws.proofs.LawLemmas.Names.{name_declared, other_name, same_bytes}
use Rattle.cfg_laws.proofs.LawLemmas.Table.{spelled_tests, some_tests_in}

-- ---- the text of a table

term_spelled : (name : List ℕ) (tests : List Test) (others : List (List (List ℕ)))
    → flat_map acl_text (map (line_words name) tests ++ others) ≡ flat_map (line_spelled name) tests ++ flat_map acl_text others
term_spelled name [] others = refl
term_spelled name (test ∷ tests) others =
    let line = line_spelled name test in
    ap (λ l. line ++ l) (term_spelled name tests others) ∙ sym (append_assoc line (flat_map (line_spelled name) tests) (flat_map acl_text others))

pub table_spelled : (keys : List (List ℕ)) (terms : List Term) → table_text keys terms ≡ flat_map acl_text (declared_words keys terms)
unfolding table_text declared_words
table_spelled keys [] = refl
table_spelled keys (term ∷ terms) = by_test (is_among keys (key_of term)) (λ k. table_spelled k terms)
  where
    by_test : (t : Bool) → ((k : List (List ℕ)) → table_text k terms ≡ flat_map acl_text (declared_words k terms))
        → (cond t [] (flat_map (line_spelled (name_at (length keys + 1))) term.tests) ++ table_text (cond t keys (keys ++ key_of term ∷ [])) terms)
        ≡ flat_map acl_text (cond t [] (map (line_words (name_at (length keys + 1))) term.tests) ++ declared_words (cond t keys (keys ++ key_of term ∷ [])) terms)
    by_test true again = again keys
    by_test false again =
        let name = name_at (length keys + 1) in
        let more = keys ++ key_of term ∷ [] in
        ap (λ l. flat_map (line_spelled name) term.tests ++ l) (again more) ∙ sym (term_spelled name term.tests (declared_words more terms))

-- ---- one line

-- behind patterns that were asked for
abbrev behind : {A : Type 0} → List Pattern → TextReading A → TextReading A
behind asks reading = record { asks = asks ++ reading.asks; gives = reading.gives }

one_line : (lines : List AclLine) (name : List ℕ) (test : Test) → declared_name name ≡ Ok name → is_spelled_test test ≡ true
    → length lines < most_lines → count_by (is_named name) lines < most_lines_of_a_name
    → acl_line lines (line_words name test) ≡ found (test_patterns test) (lines ++ line_with name test ∷ [])
unfolding acl_line
one_line lines name test own spelled room few =
    let line = line_with name test in
    let patterns = test_patterns test in
    let fits : (nat_lt (length lines) most_lines && nat_lt (count_by (is_named name) lines) most_lines_of_a_name) ≡ true =
    ap (λ t. t && nat_lt (count_by (is_named name) lines) most_lines_of_a_name) (lt-ltb (length lines) most_lines room) ∙ lt-ltb (count_by (is_named name) lines) most_lines_of_a_name few in
    let give : List Pattern → Bool → TextReading (List AclLine) = λ asks t. record { asks = asks; gives = cond t (Ok (lines ++ line ∷ [])) (Err Limit) } in
    ap (λ (reading : TextReading AclLine). reading >>= λ one. plain (with_line lines one)) (acl_line_back name test own spelled)
    ∙ ap (λ asks. give asks (nat_lt (length lines) most_lines && nat_lt (count_by (is_named name) lines) most_lines_of_a_name)) (append-nil patterns)
    ∙ ap (give patterns) fits

-- ---- lines of a name

-- one more of the name
count_own : (name : List ℕ) (lines : List AclLine) (test : Test) → count_by (is_named name) (lines ++ line_with name test ∷ []) ≡ count_by (is_named name) lines + 1
count_own name lines test =
    sum_by-append (λ line. cond (is_named name line) 1 0) lines (line_with name test ∷ [])
    ∙ ap (λ t. count_by (is_named name) lines + (0 + cond t 1 0)) (same_bytes name)

-- lines of another name are none
count_other : (name other : List ℕ) (tests : List Test) → bytes_eq other name ≡ false → count_by (is_named name) (map (line_with other) tests) ≡ 0
count_other name other [] apart = refl
count_other name other (test ∷ tests) apart =
    let others = map (line_with other) tests in
    sum_by-cons (λ line. cond (is_named name line) 1 0) (line_with other test) others
    ∙ ap (λ t. cond t 1 0 + count_by (is_named name) others) apart ∙ zero-add (count_by (is_named name) others) ∙ count_other name other tests apart

term_lines : (name : List ℕ) (lines : List AclLine) (tests : List Test) (others : List (List (List ℕ))) → declared_name name ≡ Ok name → list_all is_spelled_test tests ≡ true
    → length lines + length tests ≤ most_lines → count_by (is_named name) lines + length tests ≤ most_lines_of_a_name
    → lines_from lines (map (line_words name) tests ++ others) ≡ behind (flat_map test_patterns tests) (lines_from (lines ++ map (line_with name) tests) others)
term_lines name lines [] others own spelled room few = ap (λ l. lines_from l others) (sym (append-nil lines))
term_lines name lines (test ∷ tests) others own spelled room few =
    let rest = map (line_words name) tests ++ others in
    let more = lines ++ line_with name test ∷ [] in
    let patterns = flat_map test_patterns tests in
    let size = length-append lines (line_with name test ∷ []) in
    let count = count_own name lines test in
    let one = one_line lines name test own (both_left (is_spelled_test test) (list_all is_spelled_test tests) spelled) (omega (arith, room)) (omega (arith, few)) in
    let all = term_lines name more tests others own (both_right (is_spelled_test test) (list_all is_spelled_test tests) spelled) (omega (arith, room, size)) (omega (arith, few, count)) in
    ap (λ (reading : TextReading (List AclLine)). reading >>= λ l. lines_from l rest) one
    ∙ ap (behind (test_patterns test)) all
    ∙ ap (λ l. behind (test_patterns test) (behind patterns (lines_from l others))) (append_assoc lines (line_with name test ∷ []) (map (line_with name) tests))
    ∙ joined (test_patterns test) patterns (lines_from (lines ++ map (line_with name) (test ∷ tests)) others)
  where
    joined : (front more : List Pattern) (reading : TextReading (List AclLine)) → behind front (behind more reading) ≡ behind (front ++ more) reading
    joined front more reading = ap (λ asks. record { asks = asks; gives = reading.gives }) (sym (append_assoc front more reading.asks))

-- ---- all terms

-- later names have no lines
abbrev IsNew : List (List ℕ) → List AclLine → Type 0
IsNew keys lines = (number : ℕ) → length keys < number → number < 2 ^ 64 → count_by (is_named (name_at number)) lines ≡ 0

new_behind : (keys : List (List ℕ)) (lines : List AclLine) (term : Term) → IsNew keys lines → IsNew (keys ++ key_of term ∷ []) (lines ++ map (line_with (name_at (length keys + 1))) term.tests)
new_behind keys lines term new number late small =
    let name = name_at (length keys + 1) in
    let added = map (line_with name) term.tests in
    let size = length-append keys (key_of term ∷ []) in
    let behind : length keys + 1 < number = omega (arith, size, late) in
    let none = new number (omega (arith, behind)) small in
    let others = count_other (name_at number) name term.tests (other_name (length keys + 1) number (omega (arith, behind, small)) small (λ e. omega (arith, e, behind))) in
    sum_by-append (λ line. cond (is_named (name_at number) line) 1 0) lines added
    ∙ ap (λ n. n + count_by (is_named (name_at number)) added) none ∙ zero-add (count_by (is_named (name_at number)) added) ∙ others

few_tests : (term : Term) → is_spelled_term term ≡ true → length term.tests ≤ most_lines_of_a_name
few_tests term h =
    let few = nat_le (length term.tests) most_lines_of_a_name in
    leb-true (length term.tests) most_lines_of_a_name
    (both_left few (list_all is_spelled_test term.tests) (both_right (nat_lt 0 (length term.tests)) (few && list_all is_spelled_test term.tests) h))

lines_of_terms : (keys : List (List ℕ)) (lines : List AclLine) (terms : List Term) → are_spelled_terms terms ≡ true → length keys + count_lines keys terms ≤ most_lines
    → length lines + count_lines keys terms ≤ most_lines → IsNew keys lines
    → lines_from lines (declared_words keys terms) ≡ found (declared_patterns keys terms) (lines ++ declared keys terms)
unfolding declared declared_words declared_patterns count_lines
lines_of_terms keys lines [] spelled few room new = ap (λ l. plain (Ok l)) (sym (append-nil lines))
lines_of_terms keys lines (term ∷ terms) spelled few room new =
    by_test (is_among keys (key_of term)) few room (λ k l. lines_of_terms k l terms (both_right (is_spelled_term term) (are_spelled_terms terms) spelled))
  where
    by_test : (t : Bool) → length keys + (cond t 0 (length term.tests) + count_lines (cond t keys (keys ++ key_of term ∷ [])) terms) ≤ most_lines
        → length lines + (cond t 0 (length term.tests) + count_lines (cond t keys (keys ++ key_of term ∷ [])) terms) ≤ most_lines
        → ((k : List (List ℕ)) (l : List AclLine) → length k + count_lines k terms ≤ most_lines → length l + count_lines k terms ≤ most_lines → IsNew k l
        → lines_from l (declared_words k terms) ≡ found (declared_patterns k terms) (l ++ declared k terms))
        → lines_from lines (cond t [] (map (line_words (name_at (length keys + 1))) term.tests) ++ declared_words (cond t keys (keys ++ key_of term ∷ [])) terms)
        ≡ found (cond t [] (flat_map test_patterns term.tests) ++ declared_patterns (cond t keys (keys ++ key_of term ∷ [])) terms)
        (lines ++ (cond t [] (map (line_with (name_at (length keys + 1))) term.tests) ++ declared (cond t keys (keys ++ key_of term ∷ [])) terms))
    by_test true small short again = again keys lines (omega (arith, small)) (omega (arith, short)) new
    by_test false small short again =
        let own = both_left (is_spelled_term term) (are_spelled_terms terms) spelled in
        let some = some_tests_in term own in
        let number = length keys + 1 in
        let name = name_at number in
        let more = keys ++ key_of term ∷ [] in
        let added = map (line_with name) term.tests in
        let size = length-append keys (key_of term ∷ []) in
        let longer = length-append lines added in
        let same : length added ≡ length term.tests = length-map term.tests (line_with name) in
        let none = new number (omega arith) (omega (arith, some, small)) in
        let all = again more (lines ++ added) (omega (arith, some, size, small)) (omega (arith, longer, same, short)) (new_behind keys lines term new) in
        term_lines name lines term.tests (declared_words more terms) (name_declared number (omega (arith, some, small))) (spelled_tests term own) (omega (arith, short)) (omega (arith, none, few_tests term own))
        ∙ ap (behind (flat_map test_patterns term.tests)) all
        ∙ ap (found (flat_map test_patterns term.tests ++ declared_patterns more terms)) (append_assoc lines added (declared more terms))

pub table_declared : (terms : List Term) → are_spelled_terms terms ≡ true → count_lines [] terms ≤ most_lines
    → lines_from [] (declared_words [] terms) ≡ found (declared_patterns [] terms) (declared [] terms)
table_declared terms spelled few = lines_of_terms [] [] terms spelled (omega (arith, few)) (omega (arith, few)) (λ number late small. refl)
