use Rattle.std.proofs.Common.{sym}
use Rattle.http_rules.proofs.ActionLemmas.Hosts.{reuri_refused, reuri_passed}
use Rattle.http_rules.proofs.action.hosts.put_uri.Goals as goal

pub returns-then-not-hosts_agree-clause-came : goal.returns-then-not-hosts_agree-clause-came
returns-then-not-hosts_agree-clause-came c =
    λ side env vars at.
    let line = c.in-Some._line in
    reuri_refused side env vars c.args.msg.now.size c.args.msg.now.blocks c.args.text.now line.a.now line.b.now line.c.now c.hosts_agree.result at (sym c.in-Some.ensures) c.hosts_agree.ensures c.if-not-hosts_agree.true

pub returns-clause-came : goal.returns-clause-came
returns-clause-came c =
    λ side env vars at.
    reuri_passed side env vars c.args.msg.now.size c.args.msg.now.blocks c.put_part.new.msg.blocks c.args.text.now c.hosts_agree.result c.put_part.result at c.hosts_agree.ensures c.if-not-hosts_agree.false
    (c.put_part.ensures.came side env vars at)
