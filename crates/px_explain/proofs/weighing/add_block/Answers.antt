use Rattle.px_explain.proofs.Weighed.{on_ok}
use Rattle.px_explain.proofs.weighing.add_block.Goals as goal

pub returns-clause-blocks : goal.returns-clause-blocks
returns-clause-blocks c = on_ok c.add_copy-put.result _ (c.add_copy-put.ensures.fits.1 c.requires.fits) c.add_copy-put.ensures.ok
