use Rattle.std.specs.Prelude.{◌≡◌}
use Rattle.http_model.specs.Head.{Head, head_blocks}
use Rattle.http_rules.specs.Action.Given.{Env}
use Rattle.http_rules.specs.Action.Outcome.{IsAt}
use Rattle.http_rules.specs.declared.verdict.Verdict.{Verdict}
use Rattle.http_rules.specs.Run.{Leaves}
use Rattle.std.proofs.lemmas.Result.{IfOk-weaker}
use Rattle.session_model.specs.Env.{request_env}
use Rattle.http_rules.specs.declared.rule.action.Direction.TheVariants as directions
use Rattle.http_rules.specs.declared.action.side.Side.TheVariants as sides
use Rattle.http_rules.specs.Rules.{rules_of}
use Rattle.http_rules.proofs.Runs.{on_request, head_front, good_actions}
use Rattle.http_rules.proofs.run.run_request.Goals as goal

pub run_all-requires-clause-front : goal.run_all-requires-clause-front
run_all-requires-clause-front c = head_front c.args.msg.now.blocks c.requires.head

pub run_all-requires-clause-good : goal.run_all-requires-clause-good
run_all-requires-clause-good c = good_actions directions.Request c.args.rules.now c.requires.valid.each

pub returns-clause-runs : goal.returns-clause-runs
returns-clause-runs c =
    IfOk-weaker c.run_all.result
    (λ (verdict : Verdict). (env : Env) → IsAt sides.Request env c.args.msg.now.blocks c.args.vars.now → Leaves sides.Request (rules_of c.args.msg.now.size c.args.rules.now env) verdict c.run_all.new.msg.blocks c.run_all.new.vars c.run_all.new.reply.blocks)
    (λ (verdict : Verdict). (head : Head) → c.args.msg.now.blocks ≡ head_blocks head → Leaves sides.Request (rules_of c.args.msg.now.size c.args.rules.now (request_env c.args.vars.now head)) verdict c.run_all.new.msg.blocks c.run_all.new.vars c.run_all.new.reply.blocks)
    (λ verdict h. λ head is. h (request_env c.args.vars.now head) (on_request head c.args.msg.now.blocks c.args.vars.now is)) c.run_all.ensures.leaves
