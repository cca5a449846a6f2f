use Rattle.std.proofs.Common.{◌-◌, length}
use Rattle.htx_arena.proofs.LayoutLemmas.PackLemmas.{Packing}
use Rattle.htx_arena.proofs.layout.pack.defrag.Given as goal

abbrev pub invariant-loop-index : goal.invariant-loop-index
invariant-loop-index l = Packing l.fn.space l.space l.count l.from l.to

abbrev pub decreases-loop-index : goal.decreases-loop-index
decreases-loop-index l = length l.space - l.from
