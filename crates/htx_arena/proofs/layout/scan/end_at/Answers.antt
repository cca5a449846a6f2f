use Rattle.std.proofs.Common.{arith, ap}
use Rattle.htx_arena.specs.declared.space.space.Desc.{Desc}
use Rattle.htx_arena.specs.Layout.Raw.{info_len}
use Rattle.htx_arena.proofs.layout.scan.end_at.Goals as goal

pub overflow_add-result : goal.overflow_add-result
overflow_add-result c =
    let len = ap (λ (d : Desc). info_len d.info) c.descriptor-desc.ensures in
    let addr = ap (λ (d : Desc). d.addr) c.descriptor-desc.ensures in
    omega (arith, c.requires.sound.within c.args.index c.requires.within)

pub returns : goal.returns
returns c =
    let len = ap (λ (d : Desc). info_len d.info) c.descriptor-desc.ensures in
    let addr = ap (λ (d : Desc). d.addr) c.descriptor-desc.ensures in
    let told = (c.requires.told.told c.args.index c.requires.within).len in
    let ends = c.requires.sound.within c.args.index c.requires.within in
    record { value = omega arith; small = omega arith }
