use Rattle.std.proofs.Common.{sym, subst}
use Rattle.std.specs.Prelude.{Option, Some}
use Rattle.px_link.specs.Link.{Reads}
use Rattle.fcgi_link.specs.declared.exchange.Exchange.{Exchange}
use Rattle.fcgi_link.specs.Exchange.{seen_over}
use Rattle.fcgi_link.proofs.app_link.read_over.Goals as goal

pub returns-in-Some-clause-reads : goal.returns-in-Some-clause-reads
returns-in-Some-clause-reads g c =
    let s = g.L.Link.seen c.args.inner.now in
    let t = g.L.Link.seen c.read-in-Some.new.inner in
    subst (λ (x : Option Exchange). Reads (seen_over x s) (seen_over (Some c.read-in-Some.new.self) t) c.read-in-Some.new.into c.read-in-Some.result) (sym c.in-Some.is) c.read-in-Some.ensures.reads
