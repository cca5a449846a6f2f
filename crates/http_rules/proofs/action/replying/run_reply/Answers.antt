use Rattle.std.proofs.lemmas.Result.{IfOk-weaker}
use Rattle.http_rules.specs.declared.action.stepped.Stepped.{Stepped}
use Rattle.http_rules.specs.Action.Given.{Env}
use Rattle.http_rules.specs.Action.Acts.{act}
use Rattle.http_rules.specs.Action.Does.{Replied}
use Rattle.http_rules.specs.Action.Outcome.{IsAt, Answers}
use Rattle.http_rules.specs.Action.Replies.{redirected, returned}
use Rattle.http_rules.proofs.ActionLemmas.Replied.{redirects, returns}
use Rattle.http_rules.proofs.action.replying.run_reply.Goals as goal

pub returns-in-Redirect-clause-came : goal.returns-in-Redirect-clause-came
returns-in-Redirect-clause-came c =
    let size = c.args.msg.now.size in
    let at_redirect = c.in-Redirect in
    IfOk-weaker c.redirect.result
    (λ (step : Stepped). (env : Env) → IsAt c.args.side env c.args.msg.now.blocks c.args.vars.now → Answers (redirected size at_redirect.to at_redirect.code at_redirect.drop_query at_redirect.append_slash env) step c.redirect.new.reply.blocks)
    (λ (step : Stepped). (env : Env) → IsAt c.args.side env c.args.msg.now.blocks c.args.vars.now → Replied env (act size c.args.action.now env) step c.redirect.new.reply.blocks)
    (λ step h. λ env at. redirects env size c.args.action.now at_redirect.to at_redirect.code at_redirect.drop_query at_redirect.append_slash step c.redirect.new.reply.blocks at_redirect.is (h env at))
    c.redirect.ensures.came

pub returns-in-Return-clause-came : goal.returns-in-Return-clause-came
returns-in-Return-clause-came c =
    let size = c.args.msg.now.size in
    let at_return = c.in-Return in
    IfOk-weaker c.return_reply.result
    (λ (step : Stepped). (env : Env) → IsAt c.args.side env c.args.msg.now.blocks c.args.vars.now → Answers (returned size at_return.status at_return.content_type at_return.payload at_return.hdrs env) step c.return_reply.new.reply.blocks)
    (λ (step : Stepped). (env : Env) → IsAt c.args.side env c.args.msg.now.blocks c.args.vars.now → Replied env (act size c.args.action.now env) step c.return_reply.new.reply.blocks)
    (λ step h. λ env at. returns env size c.args.action.now at_return.status at_return.content_type at_return.payload at_return.hdrs step c.return_reply.new.reply.blocks at_return.is (h env at))
    c.return_reply.ensures.came
