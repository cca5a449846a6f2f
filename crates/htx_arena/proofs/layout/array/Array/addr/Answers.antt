use Rattle.std.proofs.Common.{◌∙◌, ap, sym}
use Rattle.htx_arena.specs.declared.space.space.Desc.{Desc}
use Rattle.htx_arena.proofs.LayoutLemmas.WholeLemmas.{at}
use Rattle.htx_arena.proofs.layout.array.Array.addr.Goals as goal

pub returns : goal.returns
returns c = ap (λ (d : Desc). d.addr) c.descriptor.ensures ∙ sym (at c.self.inside c.args.self.now c.args.at c.self.invariant c.self.view_is c.requires).addr
