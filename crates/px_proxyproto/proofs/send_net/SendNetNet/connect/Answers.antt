use Rattle.std.proofs.Common.{sym, subst}
use Rattle.std.specs.Prelude.{Result, Ok}
use Rattle.px_link.specs.declared.fault.Fault.{Fault}
use Rattle.px_link.specs.Net.{Connects, address_of}
use Rattle.px_proxyproto.specs.Nets.{headed}
use Rattle.px_proxyproto.specs.Sending.{SendLinkSeen, link_behind, LinkWrote}
use Rattle.px_proxyproto.proofs.Nets.{connected_behind, not_connected}
use Rattle.px_proxyproto.proofs.send_net.SendNetNet.connect.Goals as goal
use Rattle.px_proxyproto.proofs.send_net.SendNetNet.connect.Goals.{in-Ok, in-Err}

pub returns : goal.returns
returns g c =
    let seen = g.N.Link.Link.seen in
    let wrote = g.N.Link.Link.wrote in
    let heading = c.self.inside.heading in
    let old = g.N.Net.seen c.self.inside.inner in
    let new = g.N.Net.seen c.connect.new.self in
    let to = address_of c.args.to.now in
    let Does : Result (SendLinkSeen g.row.N-Link.Denot) Fault → Type 0 = λ result. Connects (link_behind seen) (LinkWrote wrote) (headed heading old) (headed heading new) to result in
    rw (← c.self.view_is) (record {
      connects = elim c.match-connect.branch [
        | in-Ok w ↦ subst Does (sym w.result-is) (subst (λ link. Does (Ok link)) (sym w.begun.ensures) (connected_behind seen wrote heading old new to w.in-Ok.link c.self.invariant w.in-Ok.ensures.connects))
        | in-Err w ↦ subst Does (sym w.result-is) (not_connected w.in-Err.fault seen wrote heading old new to w.in-Err.ensures.connects)
      ];
    })
