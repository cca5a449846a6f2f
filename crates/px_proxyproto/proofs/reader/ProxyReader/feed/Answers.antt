use Rattle.std.proofs.Common.{◌++◌, ◌∙◌}
use Rattle.px_proxyproto.specs.Reading.{IsOf}
use Rattle.px_proxyproto.proofs.Reading.{of_more, told, within}
use Rattle.px_proxyproto.proofs.reader.ProxyReader.feed.Goals as goal

pub returns-clause-told : goal.returns-clause-told
returns-clause-told c = λ before has.
    let is = of_more c.args.self.now c.keep.new.self before c.args.bytes.now has.is c.keep.ensures.count c.keep.ensures.front in
    let seen : IsOf (record { front = c.front.result.now; count = c.count.result }) (before ++ c.args.bytes.now) = record { front = c.front.ensures.front ∙ is.front; count = c.count.ensures.count ∙ is.count } in
    told c.state_of.result c.args.self.now c.keep.new.self before c.args.bytes.now has c.requires is
    (c.state_of.ensures (before ++ c.args.bytes.now) seen (within c.args.self.now before c.args.bytes.now has c.requires))
