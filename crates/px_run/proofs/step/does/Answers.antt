use Rattle.std.proofs.Common.{sym, subst}
use Rattle.px_link.specs.Net.{address_of}
use Rattle.px_run.specs.Course.{MayStep}
use Rattle.px_run.proofs.Courses.{asked_works, may_asked}
use Rattle.px_run.proofs.Logs.{works_by}
use Rattle.px_run.proofs.step.does.Goals as goal

pub act-requires-clause-allowed : goal.act-requires-clause-allowed
act-requires-clause-allowed g c = (_, c.next_of-next.ensures.allowed)

pub act-requires-clause-may : goal.act-requires-clause-may
act-requires-clause-may g c =
    let May : g.row.C.Denot → Type 0 = λ core. MayStep g.C.Machine.seen g.C.Machine.sound core c.ready_of-ready.new.conn.server (g.N.Net.seen c.ready_of-ready.new.conn.net) c.ready_of-ready.new.conn.ran in
    subst May (sym c.waiting-has_enough.ensures.same)
    (may_asked g.C.Machine.seen g.C.Machine.sound g.L.Link.seen g.L.Link.wrote c.args.core.now c.args.conn.now.server _ _ _ _ _ c.ready_of-ready.ensures.server c.ready_of-ready.ensures.net c.ready_of-ready.ensures.ran c.requires.may)

pub returns-clause-goes : goal.returns-clause-goes
returns-clause-goes g c = λ cfg first first_net w.
    c.act.ensures.goes cfg first first_net
    (works_by (g.C.Machine.meaning cfg) (g.C.Machine.stands cfg) g.C.Machine.seen g.L.Link.seen g.L.Link.wrote first (address_of c.args.to.now) (g.N.Net.seen first_net) c.args.core.now c.waiting-has_enough.new.core _ _ _ c.waiting-has_enough.ensures.same
    (asked_works (g.C.Machine.meaning cfg) (g.C.Machine.stands cfg) g.C.Machine.seen g.L.Link.seen g.L.Link.wrote first (address_of c.args.to.now) (g.N.Net.seen first_net) c.args.core.now _ _ _ _ _ _ c.ready_of-ready.ensures.client c.ready_of-ready.ensures.server c.ready_of-ready.ensures.net w))

pub returns-clause-logs : goal.returns-clause-logs
returns-clause-logs g c = λ cfg first first_net w.
    c.act.ensures.logs cfg first first_net
    (works_by (g.C.Machine.meaning cfg) (g.C.Machine.stands cfg) g.C.Machine.seen g.L.Link.seen g.L.Link.wrote first (address_of c.args.to.now) (g.N.Net.seen first_net) c.args.core.now c.waiting-has_enough.new.core _ _ _ c.waiting-has_enough.ensures.same
    (asked_works (g.C.Machine.meaning cfg) (g.C.Machine.stands cfg) g.C.Machine.seen g.L.Link.seen g.L.Link.wrote first (address_of c.args.to.now) (g.N.Net.seen first_net) c.args.core.now _ _ _ _ _ _ c.ready_of-ready.ensures.client c.ready_of-ready.ensures.server c.ready_of-ready.ensures.net w))
