use Rattle.cfg_laws.proofs.ReadLemmas.PairPlaces.{pairs_stand}
use Rattle.cfg_laws.proofs.laws.pairs_that_are_read_are_spelled.Goals as goal

pub returns : goal.returns
returns c = pairs_stand
