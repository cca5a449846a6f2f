use Rattle.forward_core.proofs.RequestLemmas.Open.{not_malformed, not_whole}
use Rattle.forward_core.proofs.request.laws.uncut_is_open.Goals as goal

pub returns-clause-malformed : goal.returns-clause-malformed
returns-clause-malformed c = not_malformed

pub returns-clause-whole : goal.returns-clause-whole
returns-clause-whole c = not_whole
