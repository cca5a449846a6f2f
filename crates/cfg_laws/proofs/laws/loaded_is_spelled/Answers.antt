use Rattle.cfg_laws.proofs.ReadLemmas.Loading.{loaded_spelled}
use Rattle.cfg_laws.proofs.laws.loaded_is_spelled.Goals as goal

pub returns : goal.returns
returns c = loaded_spelled
