use Rattle.std.proofs.Common.{ℕ, sym, ap, ◌∙◌}
use Rattle.std.specs.List.{list_all}
use Rattle.std.proofs.lemmas.Bool.{false≢true}
use Rattle.acl_eval.specs.Condition.{term_holds, term_holds_pattern}
use Rattle.acl_eval.proofs.Trying.{all_go_on, all_decides, not_this_one}
use Rattle.acl_eval.proofs.evaluation.group_holds.Goals as goal

pub returns-in_err-term_holds-clause-succeeds : goal.returns-in_err-term_holds-clause-succeeds
returns-in_err-term_holds-clause-succeeds g c =
    λ none. absurd (false≢true (c.in_err-term_holds.ensures.succeeds (not_this_one term_holds_pattern c.args.terms.now c.loop-at.at c.get.result.now c.get.ensures none)))

pub returns-then-not-branch-clause-value : goal.returns-then-not-branch-clause-value
returns-then-not-branch-clause-value g c =
    let given = g.E.Env.samples c.args.env.now in
    let f = term_holds c.args.buf.now.cap given in
    let same = ap (λ (n : ℕ). term_holds n given c.get.result.now) c.loop-at.invariant.cap in
    all_decides f c.args.terms.now c.loop-at.at c.get.result.now (list_all f c.args.terms.now) c.get.ensures
    (sym c.if-not-branch.true ∙ (c.in_ok-term_holds.ensures.value ∙ same)) c.loop-at.invariant.left

pub loop-at-preserved : goal.loop-at-preserved
loop-at-preserved g c =
    let given = g.E.Env.samples c.args.env.now in
    let f = term_holds c.args.buf.now.cap given in
    let same = ap (λ (n : ℕ). term_holds n given c.get.result.now) c.loop-at.invariant.cap in
    record {
      cap = c.in_ok-term_holds.ensures.cap ∙ c.loop-at.invariant.cap;
      spare_cap = c.in_ok-term_holds.ensures.spare_cap ∙ c.loop-at.invariant.cap;
      left =
          all_go_on f c.args.terms.now c.loop-at.at c.get.result.now (list_all f c.args.terms.now) c.get.ensures
          (sym c.if-not-branch.false ∙ (c.in_ok-term_holds.ensures.value ∙ same)) c.loop-at.invariant.left;
    }
