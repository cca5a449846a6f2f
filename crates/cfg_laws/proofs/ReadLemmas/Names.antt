-- Tests that a name stands for can be said: the predefined ones, and those of lines that were read.
use Rattle.std.proofs.Common.{◌≡◌, ℕ, Bool, true, false, List, [], ◌∷◌, ◌++◌, Ok, Err, refl, sym, ◌∙◌, subst}
use Rattle.std.proofs.lemmas.Bool.{false≢true, and_from}
use Rattle.std.proofs.lemmas.List.Folds.{list_all-append}
use Rattle.std.proofs.lemmas.Slice.Eq.{bytes_eq-Decides}
use Rattle.std.specs.Prelude.{◌&&◌, Option, Some, None, codes}
use Rattle.std.specs.List.{list_all}
use Rattle.std.specs.Str.{bytes_eq}
use Rattle.acl_eval.specs.declared.condition.Test.{Test}
use Rattle.cfg_expr.specs.declared.fault.TextKind.TheVariants.{Acl}
use Rattle.cfg_expr.specs.declared.side.Side.{Side}
use Rattle.cfg_expr.specs.declared.side.Side.TheVariants.{Request, Response}
use Rattle.cfg_expr.specs.declared.condition.written.AclLine.{AclLine}
use Rattle.cfg_expr.specs.Steps as steps
use Rattle.cfg_expr.specs.Faults.{Told}
use Rattle.cfg_expr.specs.Condition.Lines.{test_on, predefined_of, predefined_test, has_predefined, is_named, tests_from, some_tests, tests_by, named_tests}
use Rattle.cfg_laws.specs.Spelled.{is_spelled_fetch}
use Rattle.cfg_laws.specs.Laws.Read.{is_spelled_on, AreSpelledLines}
use Rattle.cfg_laws.proofs.ReadLemmas.Steps.{HasSo, Gives, gives_so, gives_either, gives_if, gives_then}

-- ---- predefined names

abbrev ValueOf : {A : Type 0} → Option A → Type 0
ValueOf {A} found = A

-- a private type by its values
abbrev Predefined : Type 0
Predefined = ValueOf (predefined_of [])

-- a direction that has the name can say its test
abbrev IsSaid : Side → Predefined → Type 0
IsSaid side which = has_predefined side which ≡ true → is_spelled_on side (predefined_test which) ≡ true

abbrev Fits : Side → List ℕ → Type 0
Fits side name = HasSo (IsSaid side) (predefined_of name)

yes_name : (side : Side) → Fits side (codes "TRUE")
unfolding predefined_of is_spelled_fetch
yes_name Request = λ h. refl
yes_name Response = λ h. refl

no_name : (side : Side) → Fits side (codes "FALSE")
unfolding predefined_of is_spelled_fetch
no_name Request = λ h. refl
no_name Response = λ h. refl

get : (side : Side) → Fits side (codes "METH_GET")
unfolding predefined_of is_spelled_fetch
get Request = λ h. refl
get Response = λ h. refl

head : (side : Side) → Fits side (codes "METH_HEAD")
unfolding predefined_of is_spelled_fetch
head Request = λ h. refl
head Response = λ h. refl

post : (side : Side) → Fits side (codes "METH_POST")
unfolding predefined_of is_spelled_fetch
post Request = λ h. refl
post Response = λ h. refl

put : (side : Side) → Fits side (codes "METH_PUT")
unfolding predefined_of is_spelled_fetch
put Request = λ h. refl
put Response = λ h. refl

delete : (side : Side) → Fits side (codes "METH_DELETE")
unfolding predefined_of is_spelled_fetch
delete Request = λ h. refl
delete Response = λ h. refl

options : (side : Side) → Fits side (codes "METH_OPTIONS")
unfolding predefined_of is_spelled_fetch
options Request = λ h. refl
options Response = λ h. refl

version_0 : (side : Side) → Fits side (codes "HTTP_1.0")
unfolding predefined_of is_spelled_fetch
version_0 Request = λ h. refl
version_0 Response = λ h. absurd (false≢true h)

version_1 : (side : Side) → Fits side (codes "HTTP_1.1")
unfolding predefined_of is_spelled_fetch
version_1 Request = λ h. refl
version_1 Response = λ h. absurd (false≢true h)

slash : (side : Side) → Fits side (codes "HTTP_URL_SLASH")
unfolding predefined_of is_spelled_fetch
slash Request = λ h. refl
slash Response = λ h. absurd (false≢true h)

star : (side : Side) → Fits side (codes "HTTP_URL_STAR")
unfolding predefined_of is_spelled_fetch
star Request = λ h. refl
star Response = λ h. absurd (false≢true h)

no_name_of : (name : List ℕ) → bytes_eq name (codes "TRUE") ≡ false → bytes_eq name (codes "FALSE") ≡ false → bytes_eq name (codes "METH_GET") ≡ false → bytes_eq name (codes "METH_HEAD") ≡ false → bytes_eq name (codes "METH_POST") ≡ false → bytes_eq name (codes "METH_PUT") ≡ false → bytes_eq name (codes "METH_DELETE") ≡ false → bytes_eq name (codes "METH_OPTIONS") ≡ false → bytes_eq name (codes "HTTP_1.0") ≡ false → bytes_eq name (codes "HTTP_1.1") ≡ false → bytes_eq name (codes "HTTP_URL_SLASH") ≡ false → bytes_eq name (codes "HTTP_URL_STAR") ≡ false → predefined_of name ≡ None
unfolding predefined_of
no_name_of name h0 h1 h2 h3 h4 h5 h6 h7 h8 h9 h10 h11 = rw h0 (rw h1 (rw h2 (rw h3 (rw h4 (rw h5 (rw h6 (rw h7 (rw h8 (rw h9 (rw h10 (rw h11 refl)))))))))))

-- one name, or another
by_name : (side : Side) (name : List ℕ) (codes_of : List ℕ) (t : Bool) → bytes_eq name codes_of ≡ t → Fits side codes_of → (bytes_eq name codes_of ≡ false → Fits side name) → Fits side name
by_name side name codes_of true is h other = subst (Fits side) (sym ((bytes_eq-Decides name codes_of).0 is)) h
by_name side name codes_of false is h other = other is

predefined_fits : (side : Side) (name : List ℕ) → Fits side name
predefined_fits side name =
    by_name side name (codes "TRUE") (bytes_eq name (codes "TRUE")) refl (yes_name side) (λ h0.
    by_name side name (codes "FALSE") (bytes_eq name (codes "FALSE")) refl (no_name side) (λ h1.
    by_name side name (codes "METH_GET") (bytes_eq name (codes "METH_GET")) refl (get side) (λ h2.
    by_name side name (codes "METH_HEAD") (bytes_eq name (codes "METH_HEAD")) refl (head side) (λ h3.
    by_name side name (codes "METH_POST") (bytes_eq name (codes "METH_POST")) refl (post side) (λ h4.
    by_name side name (codes "METH_PUT") (bytes_eq name (codes "METH_PUT")) refl (put side) (λ h5.
    by_name side name (codes "METH_DELETE") (bytes_eq name (codes "METH_DELETE")) refl (delete side) (λ h6.
    by_name side name (codes "METH_OPTIONS") (bytes_eq name (codes "METH_OPTIONS")) refl (options side) (λ h7.
    by_name side name (codes "HTTP_1.0") (bytes_eq name (codes "HTTP_1.0")) refl (version_0 side) (λ h8.
    by_name side name (codes "HTTP_1.1") (bytes_eq name (codes "HTTP_1.1")) refl (version_1 side) (λ h9.
    by_name side name (codes "HTTP_URL_SLASH") (bytes_eq name (codes "HTTP_URL_SLASH")) refl (slash side) (λ h10.
    by_name side name (codes "HTTP_URL_STAR") (bytes_eq name (codes "HTTP_URL_STAR")) refl (star side) (λ h11.
    subst (HasSo (IsSaid side)) (sym (no_name_of name h0 h1 h2 h3 h4 h5 h6 h7 h8 h9 h10 h11)) tt))))))))))))

-- ---- lines

-- tests that a direction can say
abbrev pub all_on : Side → List Test → Bool
all_on side tests = list_all (is_spelled_on side) tests

told_gives : (side : Side) (told : Told Test) → ((test : Test) → told ≡ Ok test → is_spelled_on side test ≡ true) → Gives (is_spelled_on side) told
told_gives side (Ok test) h = h test refl
told_gives side (Err kind) h = tt

one_more : (side : Side) (so_far : List Test) (test : Test) → all_on side so_far ≡ true → is_spelled_on side test ≡ true → all_on side (so_far ++ test ∷ []) ≡ true
one_more side so_far test h is =
    list_all-append (is_spelled_on side) so_far (test ∷ []) ∙ and_from (all_on side so_far) (is_spelled_on side test && true) h (and_from (is_spelled_on side test) true is refl)

lines_give : (side : Side) (name : List ℕ) (so_far : List Test) (lines : List AclLine) → all_on side so_far ≡ true → AreSpelledLines side lines → Gives (all_on side) (tests_from side name so_far lines)
lines_give side name so_far [] h lines = h
lines_give side name so_far (line ∷ others) h lines =
    let next = λ (test : Test). tests_from side name (so_far ++ test ∷ []) others in
    gives_either (all_on side) (is_named name line) (steps.◌>>=◌ (test_on side line.test) next) (tests_from side name so_far others)
    (gives_then (is_spelled_on side) (all_on side) (test_on side line.test) next (told_gives side (test_on side line.test) lines.0)
    (λ test is. lines_give side name (so_far ++ test ∷ []) others (one_more side so_far test h is) lines.1))
    (lines_give side name so_far others h lines.1)

some_give : (side : Side) (tests : List Test) → all_on side tests ≡ true → Gives (all_on side) (some_tests tests)
some_give side [] h = tt
some_give side (test ∷ tests) h = h

by_predefined : (side : Side) (lines : List AclLine) (name : List ℕ) (found : Option Predefined) → AreSpelledLines side lines → HasSo (IsSaid side) found → Gives (all_on side) (tests_by side lines name found)
by_predefined side lines name None h fits =
    gives_then (all_on side) (all_on side) (tests_from side name [] lines) some_tests (lines_give side name [] lines refl h) (some_give side)
by_predefined side lines name (Some which) h fits =
    let test = predefined_test which in
    gives_if (all_on side) (has_predefined side which) (test ∷ []) Acl (λ has. and_from (is_spelled_on side test) true (fits has) refl)

pub named_give : (side : Side) (lines : List AclLine) (name : List ℕ) → AreSpelledLines side lines → Gives (all_on side) (named_tests side lines name)
named_give side lines name h = by_predefined side lines name (predefined_of name) h (predefined_fits side name)

-- as a law
pub names_spelled : (side : Side) (lines : List AclLine) (name : List ℕ) (tests : List Test) → AreSpelledLines side lines → named_tests side lines name ≡ Ok tests → all_on side tests ≡ true
names_spelled side lines name tests h is = gives_so (all_on side) (named_tests side lines name) tests (named_give side lines name h) is
