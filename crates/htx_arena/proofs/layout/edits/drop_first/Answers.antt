use Rattle.std.proofs.Common.{◌∙◌}
use Rattle.htx_arena.specs.Layout.Raw.{blocks_of, addrs_of}
use Rattle.htx_arena.proofs.LayoutLemmas.RawLemmas.{without_first}
use Rattle.htx_arena.proofs.layout.edits.drop_first.Goals as goal

pub returns-clause-blocks : goal.returns-clause-blocks
returns-clause-blocks c = c.close.ensures.blocks ∙ without_first (blocks_of c.args.space.now c.args.count) c.args.n

pub returns-clause-addrs : goal.returns-clause-addrs
returns-clause-addrs c = c.close.ensures.addrs ∙ without_first (addrs_of c.args.space.now c.args.count) c.args.n
