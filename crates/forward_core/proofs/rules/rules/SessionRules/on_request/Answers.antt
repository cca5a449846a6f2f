use Rattle.std.proofs.Common.{false, ◌∙◌}
use Rattle.session_model.specs.Env.{request_env}
use Rattle.http_rules.specs.declared.action.side.Side.TheVariants as sides
use Rattle.forward_core.proofs.RulesLemmas.Steady.{leave_session, ready_ran, nothing_said}
use Rattle.forward_core.proofs.rules.rules.SessionRules.on_request.Goals as goal

pub returns-in_err-verdict-clause-ready : goal.returns-in_err-verdict-clause-ready
returns-in_err-verdict-clause-ready c =
    let run = c.run_request in
    ready_ran c.args.self.now c.args.msg.now.size run.new.vars run.new.reply run.new.scratch false c.requires.ready c.requires.size run.ensures.scratch (run.ensures.reply_size ∙ c.clear.ensures.size) (nothing_said run.new.vars c.args.self.now.peer)

pub returns-clause-ready : goal.returns-clause-ready
returns-clause-ready c =
    let run = c.run_request in
    let verdict = c.in_ok-verdict in
    ready_ran c.args.self.now c.args.msg.now.size run.new.vars run.new.reply run.new.scratch c.stays-stays.result c.requires.ready c.requires.size run.ensures.scratch (run.ensures.reply_size ∙ c.clear.ensures.size)
    (λ is.
    leave_session c.args.msg.now.size c.args.self.now.config.now.request (request_env c.args.self.now.vars c.requires.head.0) sides.Request verdict.verdict run.new.msg.blocks run.new.vars run.new.reply.blocks (c.stays-stays.ensures.steady is).request
    (verdict.ensures.runs c.requires.head.0 c.requires.head.1) ∙ c.stays-stays.ensures.begun is)
