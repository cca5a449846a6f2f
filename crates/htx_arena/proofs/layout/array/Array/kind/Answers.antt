use Rattle.std.proofs.Common.{◌∙◌}
use Rattle.htx_model.specs.Blocks.{block_at}
use Rattle.htx_arena.proofs.LayoutLemmas.ReplaceLemmas.{described_kind}
use Rattle.htx_arena.proofs.layout.array.Array.kind.Goals as goal

pub returns : goal.returns
returns c = c.kind.ensures ∙ described_kind (block_at c.args.self.now.blocks c.args.at) c.info.result.0 c.info.ensures.is
