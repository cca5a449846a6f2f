use Rattle.std.proofs.Common.{◌≡◌, ◌++◌, ◌∷◌, ℕ, List, [], take, length, sym, ap, ◌∙◌, arith}
use Rattle.std.specs.Prelude.{slice_index}
use Rattle.body_filter.specs.Kept.{kept, border}
use Rattle.body_filter.proofs.Keeping.{next_same, next_none, next_border, border_less}
use Rattle.body_filter.proofs.needle.longer.Goals as goal

pub returns-then-at-eq0 : goal.returns-then-at-eq0
returns-then-at-eq0 c =
    sym (sym (ap length c.loop-at.invariant.same) ∙ next_none c.args.needle.now c.loop-at.at c.args.byte c.if-at-eq0.true (omega arith) c.loop-at-test.true)

pub loop-at-smaller : goal.loop-at-smaller
loop-at-smaller c =
    let is : slice_index c.args.borders.now c.loop-at.at ≡ border c.args.needle.now c.loop-at.at = c.requires.borders.each c.loop-at.at (omega arith) c.loop-at.invariant.within in
    omega (arith, is, border_less c.args.needle.now c.loop-at.at (omega arith) (omega arith))

pub loop-at-preserved : goal.loop-at-preserved
loop-at-preserved c =
    let n : List ℕ = c.args.needle.now in
    let is : slice_index c.args.borders.now c.loop-at.at ≡ border n c.loop-at.at = c.requires.borders.each c.loop-at.at (omega arith) c.loop-at.invariant.within in
    record {
      within = omega (arith, is, border_less n c.loop-at.at (omega arith) (omega arith));
      same = ap (λ k. kept n (take k n ++ c.args.byte ∷ [])) is ∙ sym (next_border n c.loop-at.at c.args.byte (omega arith) (omega arith) c.loop-at-test.true) ∙ c.loop-at.invariant.same;
    }

pub returns : goal.returns
returns c = sym (sym (ap length c.loop-at.invariant.same) ∙ next_same c.args.needle.now c.loop-at.at c.args.byte (omega arith) c.loop-at-test.false)
