use Rattle.http_rules.proofs.ActionLemmas.Hosts.{reset_refused, reset_passed}
use Rattle.http_rules.proofs.action.hosts.set_beside.Goals as goal

pub returns-then-not-stands_behind-clause-came : goal.returns-then-not-stands_behind-clause-came
returns-then-not-stands_behind-clause-came c =
    λ side env vars at.
    reset_refused side env vars c.args.msg.now.size c.args.msg.now.blocks c.args.name.now c.trim.result.now c.args.text.now c.stands_behind.result at c.trim.ensures c.stands_behind.ensures c.if-not-stands_behind.true

pub returns-clause-came : goal.returns-clause-came
returns-clause-came c =
    λ side env vars at.
    reset_passed side env vars c.args.msg.now.size c.args.msg.now.blocks c.set_made.new.msg.blocks c.args.name.now c.trim.result.now c.args.text.now c.stands_behind.result c.set_made.result at c.trim.ensures
    c.stands_behind.ensures c.if-not-stands_behind.false (c.set_made.ensures.came side env vars at)
