use Rattle.cfg_laws.proofs.LawLemmas.Calls.{call_back}
use Rattle.cfg_laws.proofs.laws.calls_read_back.Goals as goal

pub returns : goal.returns
returns c = call_back
