use Rattle.std.proofs.Common.{ℕ, List, ◌++◌, take, ap, ◌∙◌}
use Rattle.std.specs.Net.Addr.{IsIpv6OfBits}
use Rattle.px_proxyproto.specs.Texts.{octets_6, groups_text}
use Rattle.px_proxyproto.proofs.line_text.put_address_6.Goals as goal

pub returns-clause-front : goal.returns-clause-front
unfolding IsIpv6OfBits octets_6
returns-clause-front c =
    let same = c.segments-groups.ensures ∙ c.from_bits-address.ensures in
    c.put_groups.ensures.front ∙ ap (λ (xs : List ℕ). take c.args.at c.args.into.now ++ groups_text xs) same
