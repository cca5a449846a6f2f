-- A test that is read can be said again.
use Rattle.std.proofs.Common.{◌≡◌, ℕ, Bool, true, false, List, Ok, Err, refl, sym, subst}
use Rattle.std.proofs.lemmas.Bool.{and_parts, and_from}
use Rattle.std.specs.Prelude.{◌&&◌, Option, Some, None}
use Rattle.px_sample.specs.declared.fetch.Fetch.{Fetch}
use Rattle.px_conv.specs.declared.conv.Conv.{Conv}
use Rattle.acl_eval.specs.declared.condition.Match.{Match}
use Rattle.acl_eval.specs.declared.condition.TestValue.{TestValue}
use Rattle.acl_eval.specs.declared.condition.Test.{Test}
use Rattle.cfg_expr.specs.declared.fault.TextKind.TheVariants.{Expr}
use Rattle.cfg_expr.specs.declared.source.Source.{Source}
use Rattle.cfg_expr.specs.declared.source.Written.{Written}
use Rattle.cfg_expr.specs.declared.side.Side.{Side}
use Rattle.cfg_expr.specs.declared.condition.written.WrittenTest.{WrittenTest}
use Rattle.cfg_expr.specs.Reading.{plain, ◌>>=◌, given_by}
use Rattle.cfg_expr.specs.Faults.{Told, TextReading}
use Rattle.cfg_expr.specs.Calls.{Form, form_in}
use Rattle.cfg_expr.specs.Sides.{is_on, on_side}
use Rattle.cfg_expr.specs.Fetches.{placed_source}
use Rattle.cfg_expr.specs.Exprs.{convs_at, ended}
use Rattle.cfg_expr.specs.Condition.Flags.{no_flags, flags_from}
use Rattle.cfg_expr.specs.Condition.Tests.{match_in, default_match, fetch_form, convs_to_end, criterion_of, values_of, first_of_two, flagged_test, test_behind, test_of}
use Rattle.cfg_expr.specs.Condition.Lines.{with_fetch, test_on}
use Rattle.cfg_laws.specs.Spelled.{are_values, is_spelled_fetch, is_spelled_test}
use Rattle.cfg_laws.proofs.ReadLemmas.Steps.{Has, Gives, gives_so, gives_behind, any, gives_any}
use Rattle.cfg_laws.proofs.ReadLemmas.Calls.{form_said, form_spelled, arguments_of_form}
use Rattle.cfg_laws.proofs.ReadLemmas.Fetches.{is_source, fetch_said, side_has}
use Rattle.cfg_laws.proofs.ReadLemmas.Convs.{are_convs, convs_said, convs_give}
use Rattle.cfg_laws.proofs.ReadLemmas.Exprs.{source_said, placed_gives}
use Rattle.cfg_laws.proofs.ReadLemmas.Values.{values_give}

-- ---- the criterion

-- converters up to the end
abbrev of_convs : List Conv × List ℕ → TextReading (List Conv)
of_convs convs = plain (ended convs.1) >>= λ end. plain (Ok convs.0)

end_gives : (text : List ℕ) → Gives are_convs (convs_to_end text).gives
unfolding convs_to_end
end_gives text = gives_behind convs_said are_convs (convs_at text).gives of_convs (convs_give text)
    (λ convs h. gives_behind any are_convs (ended convs.1) (λ end. plain (Ok convs.0)) (gives_any (ended convs.1)) (λ end free. h))

-- ---- a test before a direction is chosen

abbrev written_said : Written → Bool
written_said written = is_source written.source && are_convs written.convs

abbrev pub test_said : WrittenTest → Bool
test_said test = written_said test.written && are_values test.how test.icase test.values

abbrev with_values : Written → Match → Bool → List TestValue → TextReading WrittenTest
with_values written how icase tried = plain (Ok (record { written = written; how = how; icase = icase; values = tried }))

-- what stands behind flags, whatever they are
flags_give : {X : Type 0} (told : Told X) (written : Written) (how : X → Match) (icase : X → Bool) (words : X → List (List ℕ)) → written_said written ≡ true
    → Gives test_said (given_by told (λ x. values_of (how x) (icase x) (words x) >>= with_values written (how x) (icase x)))
flags_give (Ok x) written how icase words h = gives_behind (are_values (how x) (icase x)) test_said (values_of (how x) (icase x) (words x)).gives (with_values written (how x) (icase x))
    (values_give (how x) (icase x) (words x)) (λ tried are. and_from (written_said written) (are_values (how x) (icase x) tried) h are)
flags_give (Err kind) written how icase words h = tt

by_convs : (place : Option Side) (word : List ℕ) (others : List (List ℕ)) (form : Form) (source : Source × List ℕ) (told : Told (List Conv)) → form_in word ≡ Some form → placed_source place (fetch_form form) ≡ Ok source
    → (convs_to_end source.1).gives ≡ told → source_said source ≡ true → Gives are_convs told → Gives test_said (test_of place word others).gives
unfolding test_of criterion_of test_behind flagged_test
by_convs place word others form source (Err kind) is from behind h are =
    let same : (test_of place word others).gives ≡ Err kind = rw is (rw from (rw behind refl)) in
    subst (Gives test_said) (sym same) tt
by_convs place word others form source (Ok list) is from behind h are =
    let written : Written = record { source = source.0; convs = list } in
    let flags = flags_from false no_flags others in
    let how = first_of_two (match_in form.name) (default_match written) in
    let same : (test_of place word others).gives ≡ given_by flags (λ x. values_of (first_of_two x.0.how how) x.0.icase x.1 >>= with_values written (first_of_two x.0.how how) x.0.icase) = rw is (rw from (rw behind refl)) in
    subst (Gives test_said) (sym same)
    (flags_give flags written (λ x. first_of_two x.0.how how) (λ x. x.0.icase) (λ x. x.1) (and_from (is_source source.0) (are_convs list) h are))

by_source : (place : Option Side) (word : List ℕ) (others : List (List ℕ)) (form : Form) (told : Told (Source × List ℕ)) → form_in word ≡ Some form → placed_source place (fetch_form form) ≡ told
    → Gives source_said told → Gives test_said (test_of place word others).gives
unfolding test_of criterion_of
by_source place word others form (Err kind) is from h =
    let same : (test_of place word others).gives ≡ Err kind = rw is (rw from refl) in
    subst (Gives test_said) (sym same) tt
by_source place word others form (Ok source) is from h = by_convs place word others form source (convs_to_end source.1).gives is from refl h (end_gives source.1)

by_form : (place : Option Side) (word : List ℕ) (others : List (List ℕ)) (found : Option Form) → form_in word ≡ found → Has form_said found → Gives test_said (test_of place word others).gives
unfolding test_of criterion_of
by_form place word others None is h =
    let same : (test_of place word others).gives ≡ Err Expr = rw is refl in
    subst (Gives test_said) (sym same) tt
by_form place word others (Some form) is h =
    by_source place word others form (placed_source place (fetch_form form)) is refl (placed_gives place (fetch_form form) (arguments_of_form form h))

pub test_gives : (place : Option Side) (word : List ℕ) (others : List (List ℕ)) → Gives test_said (test_of place word others).gives
test_gives place word others = by_form place word others (form_in word) refl (form_spelled word)

-- ---- in a direction

abbrev said_on : Side → Test → Bool
said_on side test = is_spelled_test test && is_on side test.expr.fetch

fetch_gives : (side : Side) (written : WrittenTest) (found : Option Fetch) → test_said written ≡ true → Has (fetch_said side) found → Gives (said_on side) (with_fetch written found)
fetch_gives side written None h is = tt
fetch_gives side written (Some fetch) h is =
    let both = and_parts (written_said written.written) (are_values written.how written.icase written.values) h in
    let convs = (and_parts (is_source written.written.source) (are_convs written.written.convs) both.0).1 in
    let parts = and_parts (is_spelled_fetch fetch) (is_on side fetch) is in
    let expr = and_from (is_spelled_fetch fetch) (are_convs written.written.convs) parts.0 convs in
    and_from ((is_spelled_fetch fetch && are_convs written.written.convs) && are_values written.how written.icase written.values) (is_on side fetch)
    (and_from (is_spelled_fetch fetch && are_convs written.written.convs) (are_values written.how written.icase written.values) expr both.1) parts.1

pub on_gives : (side : Side) (written : WrittenTest) → test_said written ≡ true → Gives (said_on side) (test_on side written)
on_gives side written h =
    let source = (and_parts (is_source written.written.source) (are_convs written.written.convs) (and_parts (written_said written.written) (are_values written.how written.icase written.values) h).0).0 in
    fetch_gives side written (on_side side written.written.source) h (side_has side written.written.source source)

-- as a law
pub tests_spelled : (place : Option Side) (word : List ℕ) (others : List (List ℕ)) (written : WrittenTest) (side : Side) (test : Test)
    → (test_of place word others).gives ≡ Ok written → test_on side written ≡ Ok test → said_on side test ≡ true
tests_spelled place word others written side test is on =
    gives_so (said_on side) (test_on side written) test (on_gives side written (gives_so test_said (test_of place word others).gives written (test_gives place word others) is)) on
