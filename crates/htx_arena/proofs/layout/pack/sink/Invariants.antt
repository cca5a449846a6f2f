use Rattle.htx_arena.proofs.LayoutLemmas.SinkLemmas.{Sinking}
use Rattle.htx_arena.proofs.layout.pack.sink.Given as goal

abbrev pub invariant-loop-i : goal.invariant-loop-i
invariant-loop-i l = Sinking l.fn.space l.space l.count l.index l.end l.i
