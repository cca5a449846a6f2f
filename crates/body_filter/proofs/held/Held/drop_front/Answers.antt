use Rattle.std.proofs.Common.{◌≡◌, ◌-◌, ◌∙◌, ap, arith, drop, length, sym}
use Rattle.body_filter.proofs.Holding.{range_length, range_drop}
use Rattle.body_filter.proofs.held.Held.drop_front.Goals as goal

pub returns-clause-items : goal.returns-clause-items
returns-clause-items c =
    let size = range_length c.self.inside.bytes.items c.self.inside.from c.self.inside.to c.self.invariant.order c.self.invariant.within in
    let same : length c.args.self.now.items ≡ c.self.inside.to - c.self.inside.from = ap (λ h. length h.items) (sym c.self.view_is) ∙ size in
    range_drop c.self.inside.bytes.items c.self.inside.from c.self.inside.to c.args.n (omega (arith, c.requires, same)) c.self.invariant.order
    ∙ ap (λ h. drop c.args.n h.items) c.self.view_is
