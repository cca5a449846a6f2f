use Rattle.std.proofs.Common.{◌≡◌, ◌<◌, ◌^◌, subst, sym, ap, List, ℕ, arith}
use Rattle.htx_arena.specs.declared.space.space.Desc.{Desc}
use Rattle.htx_arena.specs.Space.Windows.{desc_at}
use Rattle.htx_arena.specs.Layout.Moves.{IsMoved}
use Rattle.htx_arena.proofs.LayoutLemmas.MoveLemmas.{moved, moved_is}
use Rattle.htx_arena.proofs.layout.pack.pull.Goals as goal

pub returns-then-desc-to : goal.returns-then-desc-to
returns-then-desc-to c =
    let raw = c.args.space.now in
    let n = c.args.count in
    let i = c.args.index in
    let to = c.args.to in
    let now : c.set_descriptor.new.self ≡ moved raw i to = cc in
    let info = ap (λ (d : Desc). d.info) c.descriptor-desc.ensures in
    let info_fits : (desc_at raw i).info < 2 ^ 32 = omega arith in
    subst (λ (s : List ℕ). IsMoved raw s n i to) (sym now) (moved_is raw n i to c.requires (omega arith) info_fits)
