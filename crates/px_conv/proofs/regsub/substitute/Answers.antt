use Rattle.std.proofs.Common.{◌≡◌, ◌++◌, List, ℕ, length, ap, ap₂, arith, true, rules, ◌∙◌}
use Rattle.std.proofs.lemmas.Bool.{both_ways, OnTrue_at}
use Rattle.px_pattern.specs.Meaning.{pattern_of}
use Rattle.px_sample.specs.Buffer.{Buffer}
use Rattle.px_sample.specs.Sample.{Bytes}
use Rattle.px_conv.specs.Regsub.{regsub}
use Rattle.px_conv.proofs.ReplacingLemmas.{bounded_fits, bounded_too_long, over_cap}
use Rattle.px_conv.proofs.regsub.substitute.Goals as goal

pub returns-then-not-branch-clause-value : goal.returns-then-not-branch-clause-value
returns-then-not-branch-clause-value c =
    let held = c.if-not-hold.ensures.value (λ bytes. Bytes (regsub (pattern_of c.args.by.pat.now) c.args.by.template.now c.args.by.which bytes)) in
    let same : regsub (pattern_of c.args.by.pat.now) c.args.by.template.now c.args.by.which c.bytes.result.now ≡ regsub (pattern_of c.args.by.pat.now) c.args.by.template.now c.args.by.which c.hold.new.buf.bytes =
    ap (λ bytes. regsub (pattern_of c.args.by.pat.now) c.args.by.template.now c.args.by.which bytes) c.bytes.ensures.bytes in
    let empty : length c.clear.new.self.bytes ≡ 0 = ap length c.clear.ensures.bytes in
    bounded_too_long _ _ _ held (over_cap (λ fits. both_ways _ c.if-not-branch.true (c.in_ok-replace.ensures.fits.1
    (omega (arith, fits, ap length same, empty, c.clear.ensures.cap, c.requires)))))

pub returns-clause-value : goal.returns-clause-value
returns-clause-value c =
    let held = c.if-not-hold.ensures.value (λ bytes. Bytes (regsub (pattern_of c.args.by.pat.now) c.args.by.template.now c.args.by.which bytes)) in
    let same : regsub (pattern_of c.args.by.pat.now) c.args.by.template.now c.args.by.which c.bytes.result.now ≡ regsub (pattern_of c.args.by.pat.now) c.args.by.template.now c.args.by.which c.hold.new.buf.bytes =
    ap (λ bytes. regsub (pattern_of c.args.by.pat.now) c.args.by.template.now c.args.by.which bytes) c.bytes.ensures.bytes in
    let empty : length c.clear.new.self.bytes ≡ 0 = ap length c.clear.ensures.bytes in
    let whole : c.in_ok-replace.field-0 ≡ true = search rules in
    let fits = c.in_ok-replace.ensures.fits.0 whole in
    let made = ap (λ (b : Buffer). b.bytes) c.swap.ensures.x_after ∙ OnTrue_at whole c.in_ok-replace.ensures.replaced ∙ ap₂ (λ (xs ys : List ℕ). xs ++ ys) c.clear.ensures.bytes same in
    bounded_fits _ _ _ _ held made (omega (arith, fits, ap length same, empty, c.clear.ensures.cap, c.requires))
