use Rattle.px_run.proofs.Asked.{same_then, same_server_then}
use Rattle.px_run.proofs.readiness.ready_of.Goals as goal

pub returns-clause-client : goal.returns-clause-client
returns-clause-client g c =
    let written = same_then g.L.Link.seen g.L.Link.wrote _ _ _ c.may_write-goes_first.ensures.same c.may_write-goes_behind.ensures.same in
    same_then g.L.Link.seen g.L.Link.wrote _ _ _ (same_then g.L.Link.seen g.L.Link.wrote _ _ _ written c.may_read-client_read.ensures.same) c.cork.ensures.same

pub returns-clause-server : goal.returns-clause-server
returns-clause-server g c = same_server_then g.L.Link.seen g.L.Link.wrote _ _ _ c.may_write_server-server_write.ensures.same c.may_read_server-server_read.ensures.same
