use Rattle.std.proofs.Common.{◌≡◌, ℕ, ◌+◌, List, [], arith, sym, ap, ◌∙◌, refl, subst}
use Rattle.std.specs.List.{AllByRecursion}
use Rattle.http_rules.specs.declared.rule.rule.Rule.{Rule}
use Rattle.http_rules.specs.Rule.Valid.{IsGoodAction}
use Rattle.http_rules.specs.Action.Given.{Env}
use Rattle.http_rules.specs.Action.Outcome.{IsAt, IsScratch}
use Rattle.std.proofs.lemmas.Bool.{false≢true}
use Rattle.acl_eval.proofs.PublicLaws.{not_this_one}
use Rattle.http_rules.specs.Rule.Actions.{rule_holds_pattern}
use Rattle.http_rules.specs.declared.verdict.Ruled.{Ruled}
use Rattle.http_rules.specs.Run.{RuleLeaves}
use Rattle.http_rules.proofs.Asked.{awaits}
use Rattle.http_rules.proofs.Runs.{Reached, at_place, begins, goes_on, ends, over, held, front_of}
use Rattle.http_rules.proofs.run.run_rules.Goals as goal

pub run_rule-requires-clause-valid : goal.run_rule-requires-clause-valid
run_rule-requires-clause-valid c = at_place (λ rule. IsGoodAction rule.action) c.args.rules.now c.loop-at.at c.get-rule.result.now c.get-rule.ensures c.requires.good

pub loop-at-init : goal.loop-at-init
loop-at-init c =
    record {
      reached = λ env at. begins c.args.side c.args.msg.now.size c.args.rules.now env c.args.msg.now.blocks c.args.vars.now at;
      front = c.requires.front;
      size = refl;
      scratch = c.requires.scratch;
    }

pub returns-in-Ends-clause-leaves : goal.returns-in-Ends-clause-leaves
returns-in-Ends-clause-leaves c =
    λ env at.
    let r = c.loop-at.invariant.reached env at in
    let ruled = subst (λ (n : ℕ). RuleLeaves c.args.side n c.get-rule.result.now c.loop-at.strict r.now c.in_ok-outcome.outcome c.run_rule.new.msg.blocks c.run_rule.new.vars) c.loop-at.invariant.size (c.in_ok-outcome.ensures.ruled r.now r.at_now) in
    ends c.args.side c.args.msg.now.size c.args.rules.now env c.loop-at.at c.get-rule.result.now c.loop-at.strict c.in-Ends.verdict c.loop-at.msg.blocks c.run_rule.new.msg.blocks c.loop-at.vars c.run_rule.new.vars
    c.get-rule.ensures r
    (subst (λ (o : Ruled). RuleLeaves c.args.side c.args.msg.now.size c.get-rule.result.now c.loop-at.strict r.now o c.run_rule.new.msg.blocks c.run_rule.new.vars) c.in-Ends.is ruled)

pub returns-in-Answers-clause-leaves : goal.returns-in-Answers-clause-leaves
returns-in-Answers-clause-leaves c =
    λ env at.
    let r = c.loop-at.invariant.reached env at in
    let ruled = subst (λ (n : ℕ). RuleLeaves c.args.side n c.get-rule.result.now c.loop-at.strict r.now c.in_ok-outcome.outcome c.run_rule.new.msg.blocks c.run_rule.new.vars) c.loop-at.invariant.size (c.in_ok-outcome.ensures.ruled r.now r.at_now) in
    awaits c.args.side c.args.msg.now.size c.args.rules.now env c.loop-at.at c.get-rule.result.now c.loop-at.strict c.loop-at.msg.blocks c.run_rule.new.msg.blocks c.loop-at.vars c.run_rule.new.vars
    c.get-rule.ensures r
    (subst (λ (o : Ruled). RuleLeaves c.args.side c.args.msg.now.size c.get-rule.result.now c.loop-at.strict r.now o c.run_rule.new.msg.blocks c.run_rule.new.vars) c.in-Answers.is ruled)

pub returns-in-Answers-clause-answers : goal.returns-in-Answers-clause-answers
returns-in-Answers-clause-answers c =
    let start = held c.args.side c.args.msg.now.blocks c.args.vars.now c.requires.front in
    let r = c.loop-at.invariant.reached start.0 start.1 in
    let asked = subst (λ (o : Ruled). RuleLeaves c.args.side c.loop-at.msg.size c.get-rule.result.now c.loop-at.strict r.now o c.run_rule.new.msg.blocks c.run_rule.new.vars) c.in-Answers.is (c.in_ok-outcome.ensures.ruled r.now r.at_now) in
    record { at = c.loop-at.at; rule = c.get-rule.result.now; there = c.get-rule.ensures; is = refl; answers_is = asked.answers_is }

pub loop-at-preserved : goal.loop-at-preserved
loop-at-preserved c =
    let next : (env : Env) → IsAt c.args.side env c.args.msg.now.blocks c.args.vars.now → Reached c.args.side c.args.msg.now.size c.args.rules.now env (c.loop-at.at + 1) c.in-Goes.mode c.run_rule.new.msg.blocks c.run_rule.new.vars = λ env at.
    let r = c.loop-at.invariant.reached env at in
    let ruled = subst (λ (n : ℕ). RuleLeaves c.args.side n c.get-rule.result.now c.loop-at.strict r.now c.in_ok-outcome.outcome c.run_rule.new.msg.blocks c.run_rule.new.vars) c.loop-at.invariant.size (c.in_ok-outcome.ensures.ruled r.now r.at_now) in
    goes_on c.args.side c.args.msg.now.size c.args.rules.now env c.loop-at.at c.get-rule.result.now c.in-Goes.field-0 c.loop-at.strict c.in-Goes.mode c.loop-at.msg.blocks c.run_rule.new.msg.blocks c.loop-at.vars c.run_rule.new.vars
    c.get-rule.ensures r
    (subst (λ (o : Ruled). RuleLeaves c.args.side c.args.msg.now.size c.get-rule.result.now c.loop-at.strict r.now o c.run_rule.new.msg.blocks c.run_rule.new.vars) c.in-Goes.is ruled)
    in
    let start = held c.args.side c.args.msg.now.blocks c.args.vars.now c.requires.front in
    record {
      reached = next;
      front = front_of c.args.side c.args.msg.now.size c.args.rules.now start.0 (c.loop-at.at + 1) c.in-Goes.mode c.run_rule.new.msg.blocks c.run_rule.new.vars (next start.0 start.1);
      size = c.in_ok-outcome.ensures.size ∙ c.loop-at.invariant.size;
      scratch = subst (λ (n : ℕ). IsScratch n c.run_rule.new.scratch) c.loop-at.invariant.size c.in_ok-outcome.ensures.scratch;
    }

pub returns-clause-leaves : goal.returns-clause-leaves
returns-clause-leaves c =
    λ env at.
    over c.args.side c.args.msg.now.size c.args.rules.now env c.loop-at.at c.loop-at.strict c.loop-at.msg.blocks c.loop-at.vars (omega (arith, c.loop-at-test.false, c.len-at-end.ensures)) (c.loop-at.invariant.reached env at)

pub returns-in_err-outcome-clause-succeeds : goal.returns-in_err-outcome-clause-succeeds
returns-in_err-outcome-clause-succeeds c =
    λ none. absurd (false≢true (c.in_err-outcome.ensures.succeeds (not_this_one rule_holds_pattern c.args.rules.now c.loop-at.at c.get-rule.result.now c.get-rule.ensures none)))
