use Rattle.std.proofs.Common.{ℕ, ◌≤◌, sym, subst, ◌∙◌}
use Rattle.px_proxyproto.specs.Headers.{Lacks}
use Rattle.px_proxyproto.specs.Reading.{wants_of}
use Rattle.px_proxyproto.proofs.Reading.{lacks}
use Rattle.px_proxyproto.proofs.reader.ProxyReader.wants.Goals as goal

pub returns-clause-lacks : goal.returns-clause-lacks
returns-clause-lacks c = λ bytes has.
    let same = (λ i. wants_of (record { front = sym c.front.ensures.front i; count = sym c.count.ensures.count i })) ∙ sym c.wanted.ensures.is in
    subst (λ (n : ℕ). (1 ≤ n) × Lacks bytes n) same (lacks c.args.self.now bytes has)
