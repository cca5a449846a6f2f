use Rattle.std.proofs.Common.{ℕ, sym, subst}
use Rattle.std.proofs.lemmas.Bool.{false≢true}
use Rattle.http_rules.specs.Action.Acts.{act}
use Rattle.http_rules.specs.Action.Does.{Replied}
use Rattle.http_rules.specs.declared.step.Step.{Step}
use Rattle.http_rules.specs.declared.turn.Turned.TheVariants as turned
use Rattle.http_rules.specs.declared.verdict.Ruled.{Ruled}
use Rattle.http_rules.specs.declared.verdict.Verdict.{Verdict}
use Rattle.http_rules.specs.Run.{RuleLeaves, told_by}
use Rattle.http_rules.specs.Steps.{course_of}
use Rattle.http_rules.specs.Stepped.{StepLeaves}
use Rattle.http_rules.proofs.Runs.{held}
use Rattle.http_rules.proofs.Stepping.{goes, ends, replies, plain_rule}
use Rattle.http_rules.proofs.turn.step_rule.Goals as goal

pub returns-in-Goes-clause-steps : goal.returns-in-Goes-clause-steps
returns-in-Goes-clause-steps c = λ env at.
    let size = c.args.msg.now.size in
    goes c.args.side size c.args.turn.rule.now c.args.turn.strict env c.in-Goes.step c.in-Goes.mode c.run_rule.new.msg.blocks c.run_rule.new.vars c.args.reply.now.blocks
    (subst (λ (r : Ruled). RuleLeaves c.args.side size c.args.turn.rule.now c.args.turn.strict env r c.run_rule.new.msg.blocks c.run_rule.new.vars) c.in-Goes.is (c.in_ok-step.ensures.ruled env at))
    c.requires.no_reply

pub returns-in-Ends-clause-steps : goal.returns-in-Ends-clause-steps
returns-in-Ends-clause-steps c = λ env at.
    let size = c.args.msg.now.size in
    subst (λ (s : Step). StepLeaves c.args.side (course_of size c.args.turn.rule.now c.args.turn.strict env) (turned.Ends s c.in-Ends.verdict) c.run_rule.new.msg.blocks c.run_rule.new.vars c.args.reply.now.blocks) (sym c.told_by.ensures)
    (ends c.args.side size c.args.turn.rule.now c.args.turn.strict env c.in-Ends.verdict c.run_rule.new.msg.blocks c.run_rule.new.vars c.args.reply.now.blocks
    (subst (λ (r : Ruled). RuleLeaves c.args.side size c.args.turn.rule.now c.args.turn.strict env r c.run_rule.new.msg.blocks c.run_rule.new.vars) c.in-Ends.is (c.in_ok-step.ensures.ruled env at))
    c.requires.no_reply)

pub run_reply-requires-clause-answers : goal.run_reply-requires-clause-answers
run_reply-requires-clause-answers c =
    let start = held c.args.side c.args.msg.now.blocks c.args.vars.now c.requires.front in
    let asked = subst (λ (r : Ruled). RuleLeaves c.args.side c.args.msg.now.size c.args.turn.rule.now c.args.turn.strict start.0 r c.run_rule.new.msg.blocks c.run_rule.new.vars) c.in-Answers.is (c.in_ok-step.ensures.ruled start.0 start.1) in
    asked.answers_is

pub returns-in_ok-step-in-Answers-clause-steps : goal.returns-in_ok-step-in-Answers-clause-steps
returns-in_ok-step-in-Answers-clause-steps c = λ env at.
    let size = c.args.msg.now.size in
    let rule = c.args.turn.rule.now in
    let strict = c.args.turn.strict in
    let blocks = c.run_rule.new.msg.blocks in
    let vars = c.run_rule.new.vars in
    let reply = c.run_reply.new.reply.blocks in
    let step = c.in_ok-step-in-Answers.step in
    let asked = subst (λ (r : Ruled). RuleLeaves c.args.side size rule strict env r blocks vars) c.in-Answers.is (c.in_ok-step.ensures.ruled env at) in
    let did = subst (λ (n : ℕ). Replied env (act n rule.action env) step reply) c.in_ok-step.ensures.size (c.in_ok-step-in-Answers.ensures.came env asked.at) in
    subst (λ (s : Step). StepLeaves c.args.side (course_of size rule strict env) (turned.Ends s c.verdict_by-verdict.result) blocks vars reply) (sym c.told_by-in-Answers.ensures)
    (subst (λ (v : Verdict). StepLeaves c.args.side (course_of size rule strict env) (turned.Ends (told_by v) v) blocks vars reply) (sym c.verdict_by-verdict.ensures)
    (replies c.args.side size rule strict env step blocks vars reply asked did))

pub returns-in_err-step-in-Answers-clause-succeeds : goal.returns-in_err-step-in-Answers-clause-succeeds
returns-in_err-step-in-Answers-clause-succeeds c = λ none. absurd (false≢true (c.in_err-step-in-Answers.ensures.succeeds (plain_rule c.args.turn.rule.now none)))
