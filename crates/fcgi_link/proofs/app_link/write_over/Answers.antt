use Rattle.std.proofs.Common.{sym, subst}
use Rattle.std.specs.Prelude.{Option, Some}
use Rattle.px_link.specs.Link.{Writes}
use Rattle.fcgi_link.specs.declared.exchange.Exchange.{Exchange}
use Rattle.fcgi_link.specs.Exchange.{WroteOver, seen_over}
use Rattle.fcgi_link.proofs.app_link.write_over.Goals as goal

pub returns-in-Some-clause-writes : goal.returns-in-Some-clause-writes
returns-in-Some-clause-writes g c =
    let v = g.L.Link.wrote c.args.inner.now in
    let w = g.L.Link.wrote c.write-in-Some.new.inner in
    let s = g.L.Link.seen c.args.inner.now in
    let t = g.L.Link.seen c.write-in-Some.new.inner in
    let one = Some c.write-in-Some.new.self in
    subst (λ (x : Option Exchange). Writes (WroteOver x v) (WroteOver one w) (seen_over x s) (seen_over one t) c.args.piece.now c.write-in-Some.result) (sym c.in-Some.is) c.write-in-Some.ensures.writes
