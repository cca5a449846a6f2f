use Rattle.cfg_laws.proofs.LawLemmas.Sizes.{number_back, size_back, time_back, port_back, count_back}
use Rattle.cfg_laws.proofs.laws.numbers_read_back.Goals as goal

pub returns-clause-number : goal.returns-clause-number
returns-clause-number c = number_back

pub returns-clause-size : goal.returns-clause-size
returns-clause-size c = size_back

pub returns-clause-time : goal.returns-clause-time
returns-clause-time c = time_back

pub returns-clause-port : goal.returns-clause-port
returns-clause-port c = port_back

pub returns-clause-count : goal.returns-clause-count
returns-clause-count c = count_back
