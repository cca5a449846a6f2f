use Rattle.std.proofs.Common.{false, subst}
use Rattle.http_rules.specs.declared.rule.action.Direction.TheVariants as directions
use Rattle.http_rules.specs.declared.action.side.Side.TheVariants as sides
use Rattle.http_rules.specs.Action.Given.{Env}
use Rattle.http_rules.specs.declared.verdict.Ended.{Ended}
use Rattle.http_rules.specs.Run.{EndsAt, AnswersAt}
use Rattle.http_rules.proofs.Asked.{no_answer}
use Rattle.http_rules.proofs.Runs.{on_sent, good_actions}
use Rattle.http_rules.proofs.run.run_after.Goals as goal

pub run_rules-requires-clause-good : goal.run_rules-requires-clause-good
run_rules-requires-clause-good c = good_actions directions.After c.args.rules.now c.requires.valid.each

pub returns-clause-runs : goal.returns-clause-runs
returns-clause-runs c =
    λ head body is.
    let env : Env = record { is_request = false; head = head; body = body; method = c.args.method.now; vars = c.args.vars.now } in
    subst (λ (o : Ended). EndsAt (sides.Answer c.args.method) c.args.msg.now.size c.args.rules.now env o c.run_rules.new.msg.blocks c.run_rules.new.vars) c.in-With.is
    (c.in_ok-verdict.ensures.leaves env (on_sent c.args.method head body c.args.msg.now.blocks c.args.vars.now is))

pub unreachable-requires : goal.unreachable-requires
unreachable-requires c =
    no_answer c.args.rules.now c.in-Answering.field-0.now c.requires.valid.each (subst (λ (o : Ended). AnswersAt c.args.rules.now o) c.in-Answering.is c.in_ok-verdict.ensures.answers)
