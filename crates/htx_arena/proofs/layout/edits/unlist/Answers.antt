use Rattle.std.proofs.Common.{◌∙◌}
use Rattle.htx_arena.specs.Layout.Raw.{blocks_of, addrs_of}
use Rattle.htx_arena.proofs.LayoutLemmas.RawLemmas.{without_one}
use Rattle.htx_arena.proofs.layout.edits.unlist.Goals as goal

pub returns-clause-blocks : goal.returns-clause-blocks
returns-clause-blocks c = c.close.ensures.blocks ∙ without_one (blocks_of c.args.space.now c.args.count) c.args.at

pub returns-clause-addrs : goal.returns-clause-addrs
returns-clause-addrs c = c.close.ensures.addrs ∙ without_one (addrs_of c.args.space.now c.args.count) c.args.at
