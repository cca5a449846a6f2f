use Rattle.std.proofs.Common.{ℕ, sym, ap, ◌∙◌}
use Rattle.std.specs.List.{list_any}
use Rattle.std.proofs.lemmas.Bool.{false≢true}
use Rattle.acl_eval.specs.Condition.{test_holds, test_holds_pattern}
use Rattle.acl_eval.proofs.Trying.{goes_on, decides, not_this_one}
use Rattle.acl_eval.proofs.evaluation.some_test_holds.Goals as goal

pub returns-in_err-test_holds-clause-succeeds : goal.returns-in_err-test_holds-clause-succeeds
returns-in_err-test_holds-clause-succeeds g c =
    λ none. absurd (false≢true (c.in_err-test_holds.ensures.succeeds (not_this_one test_holds_pattern c.args.tests.now c.loop-at.at c.get.result.now c.get.ensures none)))

pub returns-then-branch-clause-value : goal.returns-then-branch-clause-value
returns-then-branch-clause-value g c =
    let given = g.E.Env.samples c.args.env.now in
    let f = test_holds c.args.buf.now.cap given in
    let same = ap (λ (n : ℕ). test_holds n given c.get.result.now) c.loop-at.invariant.cap in
    decides f c.args.tests.now c.loop-at.at c.get.result.now (list_any f c.args.tests.now) c.get.ensures
    (sym c.if-branch.true ∙ (c.in_ok-test_holds.ensures.value ∙ same)) c.loop-at.invariant.left

pub loop-at-preserved : goal.loop-at-preserved
loop-at-preserved g c =
    let given = g.E.Env.samples c.args.env.now in
    let f = test_holds c.args.buf.now.cap given in
    let same = ap (λ (n : ℕ). test_holds n given c.get.result.now) c.loop-at.invariant.cap in
    record {
      cap = c.in_ok-test_holds.ensures.cap ∙ c.loop-at.invariant.cap;
      spare_cap = c.in_ok-test_holds.ensures.spare_cap ∙ c.loop-at.invariant.cap;
      left =
          goes_on f c.args.tests.now c.loop-at.at c.get.result.now (list_any f c.args.tests.now) c.get.ensures
          (sym c.if-branch.false ∙ (c.in_ok-test_holds.ensures.value ∙ same)) c.loop-at.invariant.left;
    }
