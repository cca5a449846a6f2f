use Rattle.htx_arena.proofs.LayoutLemmas.FrontLemmas.{low_past}
use Rattle.htx_arena.proofs.layout.scan.low_of.Goals as goal

pub returns-then-ends : goal.returns-then-ends
returns-then-ends c = low_past c.args.space.now c.args.count c.args.ends.front c.args.ends.top c.requires.laid c.requires.topped c.if-ends.true
