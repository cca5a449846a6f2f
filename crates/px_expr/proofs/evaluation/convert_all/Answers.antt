use Rattle.std.proofs.Common.{◌∙◌, ap, drop}
use Rattle.px_sample.specs.Sample.{value_in}
use Rattle.px_sample.specs.declared.sample.Sample.{Sample}
use Rattle.std.proofs.lemmas.Bool.{false≢true}
use Rattle.px_expr.proofs.Through.{goes_on, stops, not_this_one}
use Rattle.px_expr.proofs.evaluation.convert_all.Goals as goal

pub returns-in-Absent-clause-value : goal.returns-in-Absent-clause-value
returns-in-Absent-clause-value c =
    let none = ap (λ (made : Sample). value_in made c.loop-at.buf.bytes) c.in-Absent.is in
    stops c.args.buf.now.cap (drop c.loop-at.at c.args.convs.now) (value_in c.loop-at.made c.loop-at.buf.bytes) _ none c.loop-at.invariant.left

pub returns-in_err-made-clause-succeeds : goal.returns-in_err-made-clause-succeeds
returns-in_err-made-clause-succeeds c =
    λ none. absurd (false≢true (c.in_err-made.ensures.succeeds (not_this_one c.args.convs.now c.loop-at.at c.get.result.now c.get.ensures none)))

pub loop-at-preserved : goal.loop-at-preserved
loop-at-preserved c =
    record {
      cap = c.in_ok-made.ensures.cap ∙ c.loop-at.invariant.cap;
      spare_cap = c.in_ok-made.ensures.spare_cap ∙ c.loop-at.invariant.cap;
      left =
          goes_on c.args.buf.now.cap c.loop-at.buf.cap c.args.convs.now c.loop-at.at c.get.result.now (value_in c.loop-at.made c.loop-at.buf.bytes) (value_in c.in_ok-made.made c.convert.new.buf.bytes) _
          c.get.ensures c.loop-at.invariant.cap c.in_ok-made.ensures.value c.loop-at.invariant.left;
    }
