use Rattle.cfg_laws.proofs.LawLemmas.Addresses.{address_back, server_address_back}
use Rattle.cfg_laws.proofs.laws.addresses_read_back.Goals as goal

pub returns-clause-address : goal.returns-clause-address
returns-clause-address c = address_back

pub returns-clause-server : goal.returns-clause-server
returns-clause-server c = server_address_back
