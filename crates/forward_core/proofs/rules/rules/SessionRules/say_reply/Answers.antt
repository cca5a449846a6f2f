use Rattle.std.proofs.Common.{Bool, ◌&&◌, subst}
use Rattle.forward_core.specs.Rules.Ruling.{config_of, SaysReply}
use Rattle.forward_core.proofs.RulesLemmas.Amends.{reply_kept, reply_plain}
use Rattle.forward_core.proofs.rules.rules.SessionRules.say_reply.Goals as goal

pub returns-then-edited-clause-says : goal.returns-then-edited-clause-says
returns-then-edited-clause-says c = λ m reply.
    let keep = c.args.keep in
    let said = c.amend_reply.new.self.said.blocks in
    let now = c.amend_reply.new.self.vars in
    subst (λ (edited : Bool). SaysReply (config_of c.args.self.now) m c.args.method.now c.args.self.now.vars keep (edited && keep) said now) c.if-edited.true
    (reply_kept (config_of c.args.self.now) m c.args.method.now c.args.self.now.vars keep c.in_ok-edited.edited said now (c.in_ok-edited.ensures.amends m reply))

pub returns-else-edited-clause-says : goal.returns-else-edited-clause-says
returns-else-edited-clause-says c = λ m reply.
    reply_plain (config_of c.args.self.now) m c.args.method.now c.args.self.now.vars c.args.keep c.in_ok-edited.edited c.amend_reply.new.self.said.blocks c.amend_reply.new.self.vars c.if-edited.false (c.in_ok-edited.ensures.amends m reply)
