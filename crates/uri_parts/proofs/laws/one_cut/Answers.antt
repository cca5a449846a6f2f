use Rattle.uri_parts.proofs.Cuts.{meets, spells, alone}
use Rattle.uri_parts.proofs.laws.one_cut.Goals as goal

pub returns-clause-meets : goal.returns-clause-meets
returns-clause-meets c = meets

pub returns-clause-spells : goal.returns-clause-spells
returns-clause-spells c = spells

pub returns-clause-alone : goal.returns-clause-alone
returns-clause-alone c = alone
