use Rattle.std.proofs.Common.{sym, ◌∙◌, subst}
use Rattle.http_rules.specs.declared.verdict.Ruled.{Ruled}
use Rattle.http_rules.specs.Run.{RuleLeaves}
use Rattle.http_rules.proofs.Runs.{passed_over, ran}
use Rattle.http_rules.proofs.run.run_rule.Goals as goal

pub returns-then-not-branch-clause-ruled : goal.returns-then-not-branch-clause-ruled
returns-then-not-branch-clause-ruled c =
    λ env at.
    passed_over c.args.side c.args.msg.now.size c.args.rule.now c.args.strict env c.args.msg.now.blocks c.args.vars.now at
    (sym (c.in_ok-runs.ensures.truth env at) ∙ c.if-not-branch.true)

pub returns-clause-ruled : goal.returns-clause-ruled
returns-clause-ruled c =
    λ env at.
    subst (λ (r : Ruled). RuleLeaves c.args.side c.args.msg.now.size c.args.rule.now c.args.strict env r c.run_action.new.msg.blocks c.run_action.new.vars) (sym c.outcome_of.ensures)
    (ran c.args.side c.args.msg.now.size c.args.rule.now c.args.strict env c.in_ok-acted.acted c.run_action.new.msg.blocks c.run_action.new.vars
    (c.in_ok-acted.ensures.came env at) (sym (c.in_ok-runs.ensures.truth env at) ∙ c.if-not-branch.false))
