use Rattle.htx_arena.proofs.LayoutLemmas.WholeLemmas.{described_at}
use Rattle.htx_arena.proofs.layout.array.Array.info.Goals as goal

pub returns-clause-is : goal.returns-clause-is
returns-clause-is c = described_at c.self.inside c.args.self.now c.args.at c.descriptor.result c.self.invariant c.self.view_is c.requires c.descriptor.ensures
