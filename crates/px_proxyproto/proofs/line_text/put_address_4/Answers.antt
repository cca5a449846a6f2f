use Rattle.std.proofs.Common.{ℕ, List, ◌++◌, take, ap, ◌∙◌}
use Rattle.px_proxyproto.specs.Texts.{dotted_text}
use Rattle.px_proxyproto.proofs.line_text.put_address_4.Goals as goal

pub returns-clause-front : goal.returns-clause-front
returns-clause-front c =
    c.put_octets.ensures.front ∙ ap (λ (xs : List ℕ). take c.args.at c.args.into.now ++ dotted_text xs) c.octets_4-octets.ensures
