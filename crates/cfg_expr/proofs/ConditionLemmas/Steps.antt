-- One more word: of patterns, of groups, of numbers.
use Rattle.std.proofs.Common.{◌≡◌, ℕ, zero, suc, ◌+◌, ◌<◌, ◌∙◌, List, [], ◌∷◌, ◌++◌, length, Bool, true, false, cond, Result, Ok, Err, sym, ap, subst, refl, arith}
use Rattle.px_pattern.specs.Pattern.{Pattern}
use Rattle.px_pattern.specs.Refusals.{Kept}
use Rattle.acl_eval.specs.declared.condition.Term.{Term}
use Rattle.acl_eval.specs.declared.condition.Test.{Test}
use Rattle.acl_eval.specs.declared.condition.TestValue.{TestValue}
use Rattle.acl_eval.specs.declared.condition.TestValue.TheVariants as values
use Rattle.cfg_expr.specs.declared.fault.TextKind.{TextKind}
use Rattle.cfg_expr.specs.declared.fault.TextKind.TheVariants.{Acl}
use Rattle.cfg_expr.specs.declared.fault.TextFault.{TextFault}
use Rattle.cfg_expr.specs.declared.fault.TextFault.TheVariants as faults
use Rattle.cfg_expr.specs.declared.side.Side.{Side}
use Rattle.cfg_expr.specs.Steps as steps
use Rattle.cfg_expr.specs.Reading.{built, ◌>>=◌, given_by, Cause, Fails}
use Rattle.cfg_expr.specs.Faults.{Told, TextReading, cause_of, FailsPlainly, Gives, ReadsText}
use Rattle.cfg_expr.proofs.Readings.{Leads, leads_on, leads_out, fails_behind}
use Rattle.cfg_expr.specs.declared.condition.conditions.Groups.{Groups}
use Rattle.cfg_expr.specs.declared.condition.written.AclLine.{AclLine}
use Rattle.cfg_expr.specs.Condition.Lines.{is_named, test_on, tests_from}
use Rattle.cfg_expr.specs.Condition.Tests.{patterns_from}
use Rattle.cfg_expr.specs.Condition.Conditions.{with_group, with_word, groups_from}

-- what asks for no pattern, as what may
pub plainly : {A X : Type 0} (view : X → A) (all : TextReading A) (meaning : Told A) (before after : ℕ) (kept : Kept) (result : Result X TextFault) →
    all.gives ≡ meaning → after ≡ before → Gives view result meaning → ReadsText view all before after kept result
plainly view all meaning before after kept (Ok x) is same gives = (is ∙ gives, same)
plainly view all meaning before after kept (Err (faults.Refused kind)) is same gives = (is ∙ gives, same)
plainly view all meaning before after kept (Err faults.Pattern) is same gives = absurd gives
plainly view all meaning before after kept (Err faults.OutOfMemory) is same gives = same

-- a step that gave a value, and what follows it
pub reads_behind : {A B X : Type 0} (view : X → B) (r : TextReading A) (f : A → TextReading B) (x : A) (before mid after : ℕ) (kept : Kept) (result : Result X TextFault) →
    r.gives ≡ Ok x → mid ≡ before → ReadsText view (f x) mid after kept result → ReadsText view (r >>= f) before after kept result
reads_behind view r f x before mid after kept (Ok y) is same reads = (ap (λ g. given_by g f) is ∙ reads.0, reads.1 ∙ same)
reads_behind view r f x before mid after kept (Err fault) is same reads = fails_behind r f x before mid after kept (cause_of fault) is same reads

-- ---- numbers

-- a step fails as what leads to it
pub fails_so : {A B : Type 0} (fault : TextFault) (step : Told A) (more : A → Told B) → FailsPlainly fault step → FailsPlainly fault (steps.◌>>=◌ step more)
fails_so {A = A} {B = B} (faults.Refused kind) step more h = ap (λ (told : Told A). steps.◌>>=◌ told more) h
fails_so faults.Pattern step more h = h
fails_so faults.OutOfMemory step more h = tt

pub fails_as : {A : Type 0} (fault : TextFault) (one other : Told A) → other ≡ one → FailsPlainly fault one → FailsPlainly fault other
fails_as {A = A} fault one other is h = let P : Told A → Type 0 = λ told. FailsPlainly fault told in subst P (sym is) h

-- ---- lines of a name

pub tests_on : (side : Side) (name : List ℕ) (so_far : List Test) (line : AclLine) (lines : List AclLine) (test : Test) → is_named name line ≡ true → test_on side line.test ≡ Ok test →
    tests_from side name so_far (line ∷ lines) ≡ tests_from side name (so_far ++ test ∷ []) lines
tests_on side name so_far line lines test named is =
    ap (λ (b : Bool). cond b (steps.◌>>=◌ (test_on side line.test) (λ (t : Test). tests_from side name (so_far ++ t ∷ []) lines)) (tests_from side name so_far lines)) named
    ∙ ap (λ (told : Told Test). steps.◌>>=◌ told (λ (t : Test). tests_from side name (so_far ++ t ∷ []) lines)) is

pub tests_past : (side : Side) (name : List ℕ) (so_far : List Test) (line : AclLine) (lines : List AclLine) → is_named name line ≡ false →
    tests_from side name so_far (line ∷ lines) ≡ tests_from side name so_far lines
tests_past side name so_far line lines named =
    ap (λ (b : Bool). cond b (steps.◌>>=◌ (test_on side line.test) (λ (t : Test). tests_from side name (so_far ++ t ∷ []) lines)) (tests_from side name so_far lines)) named

pub tests_out : (side : Side) (name : List ℕ) (so_far : List Test) (line : AclLine) (lines : List AclLine) (fault : TextFault) → is_named name line ≡ true → FailsPlainly fault (test_on side line.test) →
    FailsPlainly fault (tests_from side name so_far (line ∷ lines))
tests_out side name so_far line lines fault named h =
    let more = λ (t : Test). tests_from side name (so_far ++ t ∷ []) lines in
    fails_as fault (steps.◌>>=◌ (test_on side line.test) more) (tests_from side name so_far (line ∷ lines))
    (ap (λ (b : Bool). cond b (steps.◌>>=◌ (test_on side line.test) more) (tests_from side name so_far lines)) named)
    (fails_so fault (test_on side line.test) more h)

-- ---- patterns

abbrev pub pattern_of : List ℕ → Bool → Pattern
pattern_of word icase = record { text = word; icase = icase }

pub patterns_on : (icase : Bool) (all : TextReading (List TestValue)) (so_far : List TestValue) (word : List ℕ) (others : List (List ℕ)) (pat : Pattern) →
    (built {K = TextKind} (pattern_of word icase)).gives ≡ Ok pat → Leads all (patterns_from icase so_far (word ∷ others)) → Leads all (patterns_from icase (so_far ++ values.Pattern pat ∷ []) others)
unfolding patterns_from
patterns_on icase all so_far word others pat is h =
    leads_on all (built (pattern_of word icase)) (λ (p : Pattern). patterns_from icase (so_far ++ values.Pattern p ∷ []) others) pat is h

pub patterns_out : (icase : Bool) (all : TextReading (List TestValue)) (so_far : List TestValue) (word : List ℕ) (others : List (List ℕ)) (before mid after : ℕ) (kept : Kept) (cause : Cause TextKind) →
    Leads all (patterns_from icase so_far (word ∷ others)) → mid ≡ before → Fails {A = Pattern} (built (pattern_of word icase)) mid after kept cause → Fails all before after kept cause
unfolding patterns_from
patterns_out icase all so_far word others before mid after kept cause h same fails =
    leads_out all (built (pattern_of word icase)) (λ (p : Pattern). patterns_from icase (so_far ++ values.Pattern p ∷ []) others) before mid after kept cause h same fails

pub patterns_end : (icase : Bool) (all : TextReading (List TestValue)) (so_far : List TestValue) → Leads all (patterns_from icase so_far []) → all.gives ≡ Ok so_far
unfolding patterns_from
patterns_end icase all so_far h = h.gives

-- ---- groups

pub groups_on : (side : Side) (lines : List AclLine) (all : TextReading (List (List Term))) (most at count : ℕ) (so_far : Groups) (word : List ℕ) (others : List (List ℕ)) (next : Groups) (behind : List (List ℕ)) →
    at + most ≡ count → at < count → (with_word side lines so_far word others).gives ≡ Ok (next, behind) → Leads all (groups_from side lines most so_far (word ∷ others)) →
    (m : ℕ) × (at + 1 + m ≡ count) × Leads all (groups_from side lines m next behind)
unfolding groups_from
groups_on side lines all zero at count so_far word others next behind steps inside is h = let never : ⊥ = omega arith in absurd never
groups_on side lines all (suc most) at count so_far word others next behind steps inside is h =
    (most, omega arith, leads_on all (with_word side lines so_far word others) (λ (found : Groups × List (List ℕ)). groups_from side lines most found.0 found.1) (next, behind) is h)

pub groups_out : (side : Side) (lines : List AclLine) (all : TextReading (List (List Term))) (most at count : ℕ) (so_far : Groups) (word : List ℕ) (others : List (List ℕ)) (before mid after : ℕ) (kept : Kept) (cause : Cause TextKind) →
    at + most ≡ count → at < count → Leads all (groups_from side lines most so_far (word ∷ others)) → mid ≡ before →
    Fails (with_word side lines so_far word others) mid after kept cause → Fails all before after kept cause
unfolding groups_from
groups_out side lines all zero at count so_far word others before mid after kept cause steps inside h same fails = let never : ⊥ = omega arith in absurd never
groups_out side lines all (suc most) at count so_far word others before mid after kept cause steps inside h same fails =
    leads_out all (with_word side lines so_far word others) (λ (found : Groups × List (List ℕ)). groups_from side lines most found.0 found.1) before mid after kept cause h same fails

pub groups_end : (side : Side) (lines : List AclLine) (all : TextReading (List (List Term))) (most : ℕ) (so_far : Groups) (left : List (List ℕ)) →
    left ≡ [] → Leads all (groups_from side lines most so_far left) → all.gives ≡ with_group so_far.whole so_far.terms
unfolding groups_from
groups_end side lines all zero so_far left none h =
    let P : List (List ℕ) → Type 0 = λ words. Leads all (groups_from side lines zero so_far words) in (subst P none h).gives
groups_end side lines all (suc most) so_far left none h =
    let P : List (List ℕ) → Type 0 = λ words. Leads all (groups_from side lines (suc most) so_far words) in (subst P none h).gives

pub groups_over : (side : Side) (lines : List AclLine) (all : TextReading (List (List Term))) (most : ℕ) (so_far : Groups) (left : List (List ℕ)) →
    most ≡ 0 → 0 < length left → Leads all (groups_from side lines most so_far left) → all.gives ≡ Err Acl
unfolding groups_from
groups_over side lines all most so_far [] over some h = let never : ⊥ = omega arith in absurd never
groups_over side lines all zero so_far (word ∷ others) over some h = h.gives
groups_over side lines all (suc most) so_far (word ∷ others) over some h = let never : ⊥ = omega arith in absurd never

-- words of which there are none
pub no_words : (left : List (List ℕ)) → length left ≡ 0 → left ≡ []
no_words [] none = refl
no_words (word ∷ others) none = let never : ⊥ = omega arith in absurd never
