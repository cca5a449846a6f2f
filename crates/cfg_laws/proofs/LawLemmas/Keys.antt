-- Terms with one key have the same tests.
use Rattle.std.proofs.Common.{◌≡◌, ℕ, ◌<◌, true, List, [], ◌∷◌, ◌++◌, length, length-append, refl, sym, ap, ◌∙◌, append_assoc, arith}
use Rattle.std.specs.Prelude.{Ok, Err}
use Rattle.std.specs.List.{list_all, flat_map}
use Rattle.px_sample.specs.declared.fetch.Fetch.{Fetch}
use Rattle.acl_eval.specs.declared.condition.Test.{Test}
use Rattle.acl_eval.specs.declared.condition.Term.{Term}
use Rattle.cfg_expr.specs.declared.source.Source.{Source}
use Rattle.cfg_expr.specs.declared.source.Source.TheVariants.{Hdr, Of}
use Rattle.cfg_expr.specs.declared.condition.written.WrittenTest.{WrittenTest}
use Rattle.cfg_expr.specs.declared.condition.written.AclLine.{AclLine}
use Rattle.cfg_expr.specs.Faults.{Told, TextReading}
use Rattle.cfg_expr.specs.Condition.Conditions.{line_read}
use Rattle.cfg_print.specs.Words.{words_text}
use Rattle.cfg_print.specs.Conditions.{test_words}
use Rattle.cfg_print.specs.Table.{test_text, key_of, name_at}
use Rattle.cfg_laws.specs.Spelled.{is_spelled_test}
use Rattle.cfg_laws.specs.Laws.Tests.{written_test}
use Rattle.cfg_laws.proofs.LawLemmas.Words.{both_left, both_right, same_words}
use Rattle.cfg_laws.proofs.LawLemmas.Lines.{same_fronts, inner_words}
use Rattle.cfg_laws.proofs.LawLemmas.Tests.{acl_line_back}
use Rattle.cfg_laws.proofs.LawLemmas.Names.{name_declared}

-- ---- a test

-- what a source says, or else this fetch
abbrev fetch_in : Fetch → Source → Fetch
fetch_in fetch (Of other) = other
fetch_in fetch (Hdr name occurrence) = fetch

-- the test that is written so, but for this fetch where it says none
abbrev unwritten : Fetch → WrittenTest → Test
unwritten fetch test = record {
  expr = record { fetch = fetch_in fetch test.written.source; convs = test.written.convs };
  how = test.how;
  icase = test.icase;
  values = test.values;
}

-- the test of a line that was read, or else this one
abbrev test_or : WrittenTest → Told AclLine → WrittenTest
test_or test (Ok line) = line.test
test_or test (Err kind) = test

same_test : (test other : Test) → is_spelled_test test ≡ true → is_spelled_test other ≡ true → test_words test ≡ test_words other → test ≡ other
same_test test other h i e =
    let name = name_at 1 in
    let own = name_declared 1 (omega arith) in
    let fetch = test.expr.fetch in
    let test_in : TextReading AclLine → Test = λ reading. unwritten fetch (test_or (written_test test) reading.gives) in
    sym (ap test_in (acl_line_back name test own h)) ∙ ap (λ words. test_in (line_read (name ∷ words))) e ∙ ap test_in (acl_line_back name other own i)

-- ---- tests

-- the text of a test is not empty
not_empty : (text rest : List ℕ) → 0 < length (text ++ 10 ∷ rest)
not_empty text rest = omega (arith, length-append text (10 ∷ rest))

texts_of : (test : Test) (tests : List Test) → flat_map test_text (test ∷ tests) ≡ words_text (test_words test) ++ 10 ∷ flat_map test_text tests
texts_of test tests = append_assoc (words_text (test_words test)) (10 ∷ []) (flat_map test_text tests)

none_or_some : (test : Test) (tests : List Test) → [] ≡ flat_map test_text (test ∷ tests) → ⊥
none_or_some test tests e =
    let some = not_empty (words_text (test_words test)) (flat_map test_text tests) in
    let size : 0 ≡ length (words_text (test_words test) ++ 10 ∷ flat_map test_text tests) = ap length (e ∙ texts_of test tests) in
    omega (arith, some, size)

same_tests : (tests others : List Test) → list_all is_spelled_test tests ≡ true → list_all is_spelled_test others ≡ true → flat_map test_text tests ≡ flat_map test_text others → tests ≡ others
same_tests [] [] h i e = refl
same_tests [] (other ∷ others) h i e = absurd (none_or_some other others e)
same_tests (test ∷ tests) [] h i e = absurd (none_or_some test tests (sym e))
same_tests (test ∷ tests) (other ∷ others) h i e =
    let front = words_text (test_words test) in
    let first = words_text (test_words other) in
    let parts = same_fronts front first (flat_map test_text tests) (flat_map test_text others) (inner_words (test_words test)) (inner_words (test_words other)) (sym (texts_of test tests) ∙ e ∙ texts_of other others) in
    let one = same_test test other (both_left (is_spelled_test test) (list_all is_spelled_test tests) h) (both_left (is_spelled_test other) (list_all is_spelled_test others) i) (same_words (test_words test) (test_words other) parts.0) in
    let more = same_tests tests others (both_right (is_spelled_test test) (list_all is_spelled_test tests) h) (both_right (is_spelled_test other) (list_all is_spelled_test others) i) parts.1 in
    ap (λ t. t ∷ tests) one ∙ ap (λ l. other ∷ l) more

pub same_key : (term other : Term) → list_all is_spelled_test term.tests ≡ true → list_all is_spelled_test other.tests ≡ true → key_of term ≡ key_of other → term.tests ≡ other.tests
unfolding key_of
same_key term other h i e = same_tests term.tests other.tests h i e
