use Rattle.cfg_laws.proofs.ReadLemmas.Loading.{loaded_back}
use Rattle.cfg_laws.proofs.laws.loaded_reads_back.Goals as goal

pub returns : goal.returns
returns c = loaded_back
