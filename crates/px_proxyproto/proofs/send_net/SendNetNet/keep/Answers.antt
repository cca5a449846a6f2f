use Rattle.std.proofs.Common.{subst}
use Rattle.px_link.specs.Net.{Keeps}
use Rattle.px_proxyproto.proofs.Nets.{keeps_behind}
use Rattle.px_proxyproto.proofs.send_net.SendNetNet.keep.Goals as goal

pub returns : goal.returns
returns g c =
    let seen = g.N.Link.Link.seen in
    let wrote = g.N.Link.Link.wrote in
    let old = g.N.Net.seen c.self.inside.inner in
    let new = g.N.Net.seen c.keep.new.self in
    let kept : Keeps (wrote c.args.link.inner) old new (seen c.args.link.inner) = subst (λ inner. Keeps (wrote inner) old new (seen inner)) c.into_inner.ensures.is c.keep.ensures.keeps in
    rw (← c.self.view_is) (record { keeps = keeps_behind seen wrote c.self.inside.heading old new c.args.link c.into_inner.ensures.within kept })
