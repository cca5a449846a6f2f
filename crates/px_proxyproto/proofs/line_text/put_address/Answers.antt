use Rattle.std.proofs.Common.{Bool, ◌++◌, take, ap, sym, ◌∙◌}
use Rattle.px_proxyproto.specs.Texts.{address_text}
use Rattle.px_proxyproto.proofs.line_text.put_address.Goals as goal

pub returns-then-v6-clause-front : goal.returns-then-v6-clause-front
returns-then-v6-clause-front c =
    c.put_address_6.ensures.front ∙ ap (λ (v : Bool). take c.args.at c.args.into.now ++ address_text v c.args.addr) (sym c.if-v6.true)

pub returns-clause-front : goal.returns-clause-front
returns-clause-front c =
    c.put_address_4.ensures.front ∙ ap (λ (v : Bool). take c.args.at c.args.into.now ++ address_text v c.args.addr) (sym c.if-v6.false)
