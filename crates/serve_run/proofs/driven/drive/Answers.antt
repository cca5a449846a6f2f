use Rattle.px_link.specs.Net.{address_of}
use Rattle.serve_run.proofs.Drives.{drove_by}
use Rattle.serve_run.proofs.driven.drive.Goals as goal

pub returns-clause-drove : goal.returns-clause-drove
returns-clause-drove g c = λ cfg s.
    drove_by g.C.Machine.meaning g.C.Machine.stands g.C.Machine.seen g.N.Link.Link.seen g.N.Link.Link.wrote cfg (address_of c.args.to.now) c.run_session.new.core c.args.client.now c.run_session.new.client
    (g.N.Net.seen c.args.net.now) (g.N.Net.seen c.run_session.new.net) c.run_session.result (c.run_session.ensures.ran cfg s) (c.run_session.ensures.up_to_a_fault cfg s)
