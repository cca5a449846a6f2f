use Rattle.std.proofs.Common.{◌≡◌, List, ℕ, None, ap, refl, sym, subst, rules, ◌∙◌}
use Rattle.std.proofs.lemmas.Bool.{false≢true}
use Rattle.regex.specs.Patterns.{find}
use Rattle.px_pattern.specs.Meaning.{pattern_of}
use Rattle.px_conv.specs.Regsub.{replaced}
use Rattle.px_conv.specs.Replacing.{Came}
use Rattle.px_conv.proofs.ReplacingLemmas.{match_came, front_too_long}
use Rattle.px_conv.proofs.regsub.replace_one.Goals as goal

pub returns-in_default-clause-came : goal.returns-in_default-clause-came
returns-in_default-clause-came c = λ (on : List ℕ → List ℕ).
    let none : find (pattern_of c.args.by.pat.now) c.args.text.now 0 ≡ None = search rules in
    subst (λ xs. Came on c.args.into.now c.put_last.new.into xs c.put_last.result)
    (ap (replaced on c.args.by.template.now c.args.by.which c.args.text.now) (sym none)) (c.put_last.ensures.came on)

pub returns-in_default-clause-below : goal.returns-in_default-clause-below
returns-in_default-clause-below c = c.put_last.ensures.below _

pub returns-then-not-put_front-clause-came : goal.returns-then-not-put_front-clause-came
returns-then-not-put_front-clause-came c = λ (on : List ℕ → List ℕ).
    let found = rw c.in-Some.is at c.in_ok-groups.ensures.found in
    let place = sym c.span.ensures ∙ c.unwrap-place.ensures in
    front_too_long on (pattern_of c.args.by.pat.now) c.args.by.template.now c.args.by.which c.args.text.now found.0 c.in-Some.groups c.unwrap-place.result _ _
    found.1 found.2 place (λ fits. false≢true (c.if-not-put_front.ensures.fits.1 fits))

pub returns-clause-came : goal.returns-clause-came
returns-clause-came c = λ (on : List ℕ → List ℕ).
    let found = rw c.in-Some.is at c.in_ok-groups.ensures.found in
    let place = sym c.span.ensures ∙ c.unwrap-place.ensures in
    match_came on (pattern_of c.args.by.pat.now) c.args.by.template.now c.args.by.which c.args.text.now found.0 c.in-Some.groups c.unwrap-place.result _
    c.args.into.now c.put_front.new.into c.go_on.new.into c.go_on.result
    found.1 found.2 place c.if-not-put_front.ensures.put c.put_front.ensures.cap refl (c.go_on.ensures.came on)
