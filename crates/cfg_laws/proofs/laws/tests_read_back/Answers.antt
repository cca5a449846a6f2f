use Rattle.cfg_laws.proofs.LawLemmas.Tests.{acl_line_back, test_in_direction}
use Rattle.cfg_laws.proofs.laws.tests_read_back.Goals as goal

pub returns-clause-line : goal.returns-clause-line
returns-clause-line c = acl_line_back

pub returns-clause-test : goal.returns-clause-test
returns-clause-test c = test_in_direction
