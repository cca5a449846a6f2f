use Rattle.std.proofs.Common.{◌∙◌, sym, arith}
use Rattle.px_sample.proofs.CastLemmas.{digits_one_more, value_one_more, magnitude_other, magnitude_passed}
use Rattle.px_sample.proofs.cast.magnitude.Goals as goal

pub returns-then-not-is_ascii_digit : goal.returns-then-not-is_ascii_digit
returns-then-not-is_ascii_digit c = sym (magnitude_other _ _ c.loop-digit-test.true (sym c.is_ascii_digit.ensures.value ∙ c.if-not-is_ascii_digit.true))

pub returns-then-value-gt-TENTH : goal.returns-then-value-gt-TENTH
returns-then-value-gt-TENTH c =
    let passed = c.if-value-gt-TENTH.true in
    sym (magnitude_passed c.args.digits.now c.loop-digit.digit-index c.loop-digit-test.true (omega arith))

pub loop-digit-preserved : goal.loop-digit-preserved
loop-digit-preserved c =
    let here = sym c.is_ascii_digit.ensures.value ∙ c.if-not-is_ascii_digit.false in
    record {
      value = value_one_more _ _ _ _ c.loop-digit-test.true c.loop-digit.invariant.value here c.from.ensures;
      digits = digits_one_more _ _ c.loop-digit-test.true c.loop-digit.invariant.digits here;
    }
