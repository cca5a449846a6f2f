use Rattle.cfg_laws.proofs.LawLemmas.Configs.{config_back}
use Rattle.cfg_laws.proofs.laws.configs_read_back.Goals as goal

pub returns : goal.returns
returns c = config_back
