use Rattle.std.proofs.Common.{◌∙◌, sym, ap, arith}
use Rattle.htx_arena.specs.declared.space.space.Desc.{Desc}
use Rattle.htx_arena.specs.Layout.Raw.{info_len}
use Rattle.htx_arena.proofs.LayoutLemmas.WholeLemmas.{at}
use Rattle.htx_arena.proofs.layout.array.Array.payload_len.Goals as goal

pub returns : goal.returns
returns c =
    let t = at c.self.inside c.args.self.now c.args.at c.self.invariant c.self.view_is c.requires in
    let len = c.payload_len.ensures ∙ ap (λ (d : Desc). info_len d.info) c.descriptor.ensures ∙ sym t.len in
    let some = t.some in
    record { len = len; some = omega arith }
