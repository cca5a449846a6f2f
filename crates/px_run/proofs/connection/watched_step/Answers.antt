use Rattle.std.proofs.Common.{ap}
use Rattle.px_link.specs.Net.{address_of}
use Rattle.px_run.proofs.Asked.{same_by, same_server_by}
use Rattle.px_run.proofs.Courses.{asked_goes, may_asked}
use Rattle.px_run.proofs.connection.watched_step.Goals as goal

pub returns-in-Opened-clause-goes : goal.returns-in-Opened-clause-goes
returns-in-Opened-clause-goes g c = λ cfg first first_net h.
    asked_goes (g.C.Machine.meaning cfg) (g.C.Machine.stands cfg) g.C.Machine.seen g.L.Link.seen g.L.Link.wrote first (address_of c.args.to.now) (g.N.Net.seen first_net) c.step.new.core _ _ _ _ _ _
    (same_by g.L.Link.seen g.L.Link.wrote _ _ c.watch_server.ensures.client) c.watch_server.ensures.server (ap g.N.Net.seen c.watch_server.ensures.net) (c.in-Opened.ensures.goes cfg first first_net h)

pub returns-in-Opened-clause-may : goal.returns-in-Opened-clause-may
returns-in-Opened-clause-may g c =
    may_asked g.C.Machine.seen g.C.Machine.sound g.L.Link.seen g.L.Link.wrote c.step.new.core c.step.new.conn.server _ _ _ _ _ c.watch_server.ensures.server (ap g.N.Net.seen c.watch_server.ensures.net) c.watch_server.ensures.ran c.in-Opened.ensures.may

pub returns-in-Waits-clause-goes : goal.returns-in-Waits-clause-goes
returns-in-Waits-clause-goes g c = λ cfg first first_net h.
    asked_goes (g.C.Machine.meaning cfg) (g.C.Machine.stands cfg) g.C.Machine.seen g.L.Link.seen g.L.Link.wrote first (address_of c.args.to.now) (g.N.Net.seen first_net) c.step.new.core _ _ _ _ _ _
    (same_by g.L.Link.seen g.L.Link.wrote _ _ c.watch_connect.ensures.client) (same_server_by g.L.Link.seen g.L.Link.wrote _ _ c.watch_connect.ensures.server) c.watch_connect.ensures.net (c.in-Waits.ensures.goes cfg first first_net h)

pub returns-in-Waits-clause-may : goal.returns-in-Waits-clause-may
returns-in-Waits-clause-may g c =
    may_asked g.C.Machine.seen g.C.Machine.sound g.L.Link.seen g.L.Link.wrote c.step.new.core c.step.new.conn.server _ _ _ _ _ (same_server_by g.L.Link.seen g.L.Link.wrote _ _ c.watch_connect.ensures.server) c.watch_connect.ensures.net c.watch_connect.ensures.ran c.in-Waits.ensures.may
