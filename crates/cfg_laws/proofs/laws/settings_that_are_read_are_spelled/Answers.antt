use Rattle.cfg_laws.proofs.ReadLemmas.Addresses.{addresses_spelled, servers_spelled}
use Rattle.cfg_laws.proofs.ReadLemmas.SettingValues.{times_spelled, filters_spelled, paths_spelled, scripts_spelled}
use Rattle.cfg_laws.proofs.ReadLemmas.SettingLines.{start_said}
use Rattle.cfg_laws.proofs.ReadLemmas.Drafts.{line_keeps, lines_keep}
use Rattle.cfg_laws.proofs.ReadLemmas.SettingWholes.{whole_spelled, texts_spelled}
use Rattle.cfg_laws.proofs.laws.settings_that_are_read_are_spelled.Goals as goal

pub returns-clause-times : goal.returns-clause-times
returns-clause-times c = times_spelled

pub returns-clause-addresses : goal.returns-clause-addresses
returns-clause-addresses c = addresses_spelled

pub returns-clause-servers : goal.returns-clause-servers
returns-clause-servers c = servers_spelled

pub returns-clause-filters : goal.returns-clause-filters
returns-clause-filters c = filters_spelled

pub returns-clause-paths : goal.returns-clause-paths
returns-clause-paths c = paths_spelled

pub returns-clause-scripts : goal.returns-clause-scripts
returns-clause-scripts c = scripts_spelled

pub returns-clause-start : goal.returns-clause-start
returns-clause-start c = start_said

pub returns-clause-line : goal.returns-clause-line
returns-clause-line c = line_keeps

pub returns-clause-lines : goal.returns-clause-lines
returns-clause-lines c = lines_keep

pub returns-clause-whole : goal.returns-clause-whole
returns-clause-whole c = whole_spelled

pub returns-clause-texts : goal.returns-clause-texts
returns-clause-texts c = texts_spelled
