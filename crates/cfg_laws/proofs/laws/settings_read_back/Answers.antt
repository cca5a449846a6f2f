use Rattle.cfg_laws.proofs.LawLemmas.SettingLines.{global_back, settings_back}
use Rattle.cfg_laws.proofs.LawLemmas.FilterLines.{requests_back, responses_back}
use Rattle.cfg_laws.proofs.laws.settings_read_back.Goals as goal

pub returns-clause-global : goal.returns-clause-global
returns-clause-global c = global_back

pub returns-clause-listen : goal.returns-clause-listen
returns-clause-listen c = settings_back

pub returns-clause-requests : goal.returns-clause-requests
returns-clause-requests c = requests_back

pub returns-clause-responses : goal.returns-clause-responses
returns-clause-responses c = responses_back
