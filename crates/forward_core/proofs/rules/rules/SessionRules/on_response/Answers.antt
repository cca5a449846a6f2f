use Rattle.std.proofs.Common.{false, ◌∙◌}
use Rattle.session_model.specs.Env.{response_env}
use Rattle.http_rules.specs.declared.action.side.Side.TheVariants as sides
use Rattle.forward_core.proofs.RulesLemmas.Steady.{leave_session, ready_ran, nothing_said}
use Rattle.forward_core.proofs.rules.rules.SessionRules.on_response.Goals as goal

pub returns-in_err-verdict-clause-ready : goal.returns-in_err-verdict-clause-ready
returns-in_err-verdict-clause-ready c =
    let run = c.run_response in
    ready_ran c.args.self.now c.args.msg.now.size run.new.vars run.new.reply run.new.scratch false c.requires.ready c.requires.size run.ensures.scratch (run.ensures.reply_size ∙ c.clear.ensures.size) (nothing_said run.new.vars c.args.self.now.peer)

pub returns-clause-ready : goal.returns-clause-ready
returns-clause-ready c =
    let run = c.run_response in
    let verdict = c.in_ok-verdict in
    ready_ran c.args.self.now c.args.msg.now.size run.new.vars run.new.reply run.new.scratch c.stays-stays.result c.requires.ready c.requires.size run.ensures.scratch (run.ensures.reply_size ∙ c.clear.ensures.size)
    (λ is.
    leave_session c.args.msg.now.size c.args.self.now.config.now.response (response_env c.args.self.now.vars c.args.method.now c.requires.head.0) (sides.Answer c.args.method) verdict.verdict run.new.msg.blocks run.new.vars run.new.reply.blocks (c.stays-stays.ensures.steady is).response
    (verdict.ensures.runs c.requires.head.0 c.requires.head.1) ∙ c.stays-stays.ensures.begun is)
