use Rattle.body_filter.proofs.KeptBack.{kept_given, kept_longest}
use Rattle.body_filter.proofs.laws.keeps_back.Goals as goal

pub returns-clause-given : goal.returns-clause-given
returns-clause-given c = kept_given

pub returns-clause-longest : goal.returns-clause-longest
returns-clause-longest c = kept_longest
