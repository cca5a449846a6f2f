use Rattle.cfg_laws.proofs.LawLemmas.Tabling.{table_read}
use Rattle.cfg_laws.proofs.LawLemmas.Ruling.{rules_read}
use Rattle.cfg_laws.proofs.LawLemmas.Pairing.{pairs_read}
use Rattle.cfg_laws.proofs.laws.listing_read_back.Goals as goal

pub returns-clause-table : goal.returns-clause-table
returns-clause-table c = table_read

pub returns-clause-rules : goal.returns-clause-rules
returns-clause-rules c = rules_read

pub returns-clause-pairs : goal.returns-clause-pairs
returns-clause-pairs c = pairs_read
