use Rattle.std.proofs.Common.{sym, subst}
use Rattle.session_core.specs.History.{nothing_yet}
use Rattle.px_link.specs.Net.{address_of}
use Rattle.serve_run.specs.Drove.{Drove}
use Rattle.serve_run.proofs.driven.serve_caller.Goals as goal

pub drive_and_keep-requires-clause-stands : goal.drive_and_keep-requires-clause-stands
drive_and_keep-requires-clause-stands g c = (
  c.args.peer,
  subst (λ s. g.C.Machine.stands (g.C.ResetsFor.for_peer s c.args.peer) c.in-Ok.core nothing_yet) (sym c.open.ensures.settings) c.in-Ok.ensures.stands,
)

pub returns-in-Ok-clause-drove : goal.returns-in-Ok-clause-drove
returns-in-Ok-clause-drove g c =
    let stands = subst (λ s. g.C.Machine.stands (g.C.ResetsFor.for_peer s c.args.peer) c.in-Ok.core nothing_yet) (sym c.open.ensures.settings) c.in-Ok.ensures.stands in
    subst (λ s. Drove g.C.Machine.meaning g.C.Machine.stands g.C.Machine.seen g.N.Link.Link.seen g.N.Link.Link.wrote (g.C.ResetsFor.for_peer s c.args.peer) (address_of c.args.to.now) c.args.client.now c.drive_and_keep.new.client (g.N.Net.seen c.args.net.now) (g.N.Net.seen c.drive_and_keep.new.net) c.drive_and_keep.result)
    c.open.ensures.settings (c.drive_and_keep.ensures.drove c.args.peer stands)
