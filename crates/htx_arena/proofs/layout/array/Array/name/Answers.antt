use Rattle.std.proofs.Common.{◌∙◌, ap, sym, subst}
use Rattle.htx_model.specs.Block.{name_of, IsFieldKind}
use Rattle.htx_arena.specs.Space.Windows.{desc_at}
use Rattle.htx_arena.specs.Layout.Raw.{payload_in}
use Rattle.htx_arena.proofs.LayoutLemmas.TellLemmas.{name_told}
use Rattle.htx_arena.proofs.LayoutLemmas.WholeLemmas.{at, kind_at}
use Rattle.htx_arena.proofs.layout.array.Array.name.Goals as goal

pub name-requires-clause-field : goal.name-requires-clause-field
name-requires-clause-field c = subst IsFieldKind (kind_at c.self.inside c.args.self.now c.args.at c.self.invariant c.self.view_is c.requires.within) c.requires.field

pub returns : goal.returns
returns c =
    let a = c.self.inside in
    let i = c.args.at in
    let field = subst IsFieldKind (kind_at a c.args.self.now i c.self.invariant c.self.view_is c.requires.within) c.requires.field in
    c.name.ensures ∙ sym (name_told (desc_at a.space i).info (payload_in a.space i) field) ∙ sym (ap name_of (at a c.args.self.now i c.self.invariant c.self.view_is c.requires.within).block)
