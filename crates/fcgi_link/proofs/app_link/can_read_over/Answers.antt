use Rattle.std.proofs.Common.{◌≡◌, sym, subst}
use Rattle.std.specs.Prelude.{Option, Some}
use Rattle.fcgi_link.specs.declared.exchange.Exchange.{Exchange}
use Rattle.fcgi_link.specs.Exchange.{seen_over}
use Rattle.fcgi_link.proofs.app_link.can_read_over.Goals as goal

pub returns-in-Some-clause-seen : goal.returns-in-Some-clause-seen
returns-in-Some-clause-seen g c =
    let s = g.L.Link.seen c.args.inner.now in
    let t = g.L.Link.seen c.can_read-in-Some.new.inner in
    subst (λ (x : Option Exchange). seen_over (Some c.can_read-in-Some.new.self) t ≡ seen_over x s) (sym c.in-Some.is) c.can_read-in-Some.ensures.seen
