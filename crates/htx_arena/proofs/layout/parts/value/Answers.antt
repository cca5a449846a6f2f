use Rattle.std.proofs.Common.{arith, ap, length}
use Rattle.htx_arena.proofs.LayoutLemmas.ValueLemmas.{value_fits}
use Rattle.htx_arena.proofs.layout.parts.value.Goals as goal

pub slice_bounds-result-end : goal.slice_bounds-result-end
slice_bounds-result-end c =
    let fits = value_fits c.args.space.now c.args.count c.args.index c.requires.sound c.requires.within in
    let all = ap length c.bytes.ensures in
    let start = c.value_place-start.ensures.start in
    let len = c.value_place-start.ensures.len in
    omega arith
