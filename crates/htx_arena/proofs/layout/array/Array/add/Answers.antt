use Rattle.std.proofs.Common.{arith}
use Rattle.htx_arena.proofs.LayoutLemmas.WholeLemmas.{numbers}
use Rattle.htx_arena.proofs.layout.array.Array.add.Goals as goal

pub add-self-inside-requires-clause-fits : goal.add-self-inside-requires-clause-fits
add-self-inside-requires-clause-fits c =
    let n = numbers c.self.inside c.args.self.now c.self.invariant c.self.view_is in
    let load = n.loaded in
    let payloads = n.payloads in
    let size = n.size in
    let fits = c.requires.fits in
    omega arith
