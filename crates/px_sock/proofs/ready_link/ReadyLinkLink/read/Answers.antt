use Rattle.px_sock.proofs.Failing.{read_failed}
use Rattle.px_sock.proofs.ready_link.ReadyLinkLink.read.Goals as goal

pub returns-in-Err-clause-reads : goal.returns-in-Err-clause-reads
returns-in-Err-clause-reads g c =
    rw (← c.self.view_is) (read_failed c.self.inside.read_faults c.self.inside.write_faults c.count.new.faults c.count.ensures.one_more c.count.ensures.never_falls)
