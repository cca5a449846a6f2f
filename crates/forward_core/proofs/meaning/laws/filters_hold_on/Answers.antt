use Rattle.forward_core.proofs.MeaningLemmas.Holds.{holds}
use Rattle.forward_core.proofs.meaning.laws.filters_hold_on.Goals as goal

pub returns : goal.returns
returns c = λ filters. holds filters (c.goes_on.ensures filters)
