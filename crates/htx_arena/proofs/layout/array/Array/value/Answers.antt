use Rattle.std.proofs.Common.{◌∙◌, ap, sym, subst}
use Rattle.htx_model.specs.Block.{kind_of, value_of, HasValue}
use Rattle.htx_arena.proofs.LayoutLemmas.ValueLemmas.{value_in}
use Rattle.htx_arena.proofs.LayoutLemmas.WholeLemmas.{at}
use Rattle.htx_arena.proofs.layout.array.Array.value.Goals as goal

pub returns : goal.returns
returns c =
    let block = (at c.self.inside c.args.self.now c.args.at c.self.invariant c.self.view_is c.requires.within).block in
    c.value.ensures ∙ sym (value_in c.self.inside.space c.args.at (subst HasValue (ap kind_of block) c.requires.valued)) ∙ sym (ap value_of block)
