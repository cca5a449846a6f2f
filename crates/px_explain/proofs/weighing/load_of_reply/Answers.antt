use Rattle.std.proofs.Common.{◌∙◌}
use Rattle.http_rules.specs.Action.Acts.{act}
use Rattle.px_explain.proofs.Weighed.{reply_done}
use Rattle.px_explain.proofs.weighing.load_of_reply.Goals as goal

pub returns : goal.returns
returns c = record {
  load = λ env at.
      c.load_replied.ensures
      ∙ reply_done c.replies_of_messages.ensures.end c.replies_of_messages.ensures.close env (act c.args.msg.now.size c.args.action.now env) c.in_ok-stepped.stepped c.run_reply.new.reply.blocks
      (c.in_ok-stepped.ensures.came env at);
}
