use Rattle.std.proofs.Common.{sym, ◌∙◌}
use Rattle.std.specs.List.{list_any}
use Rattle.std.proofs.lemmas.Bool.{false≢true}
use Rattle.acl_eval.specs.Matches.{text_matches, is_pattern}
use Rattle.acl_eval.proofs.Trying.{goes_on, decides, not_this_one}
use Rattle.acl_eval.proofs.matching.matches_a_text.Goals as goal

pub returns-in_err-matches_text-clause-succeeds : goal.returns-in_err-matches_text-clause-succeeds
returns-in_err-matches_text-clause-succeeds c =
    λ none. absurd (false≢true (c.in_err-matches_text.ensures.succeeds (not_this_one is_pattern c.args.test.now.values c.loop-at.at c.get.result.now c.get.ensures none)))

pub returns-then-branch-clause-value : goal.returns-then-branch-clause-value
returns-then-branch-clause-value c =
    let test = c.args.test.now in
    let f = text_matches test.how test.icase c.args.text.now in
    decides f test.values c.loop-at.at c.get.result.now (list_any f test.values) c.get.ensures
    (sym c.if-branch.true ∙ c.in_ok-matches_text.ensures.value) c.loop-at.invariant

pub loop-at-preserved : goal.loop-at-preserved
loop-at-preserved c =
    let test = c.args.test.now in
    let f = text_matches test.how test.icase c.args.text.now in
    goes_on f test.values c.loop-at.at c.get.result.now (list_any f test.values) c.get.ensures
    (sym c.if-branch.false ∙ c.in_ok-matches_text.ensures.value) c.loop-at.invariant
