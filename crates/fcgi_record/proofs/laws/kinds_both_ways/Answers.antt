use Rattle.fcgi_record.proofs.laws.kinds_both_ways.Goals as goal
use Rattle.fcgi_record.proofs.KindBytes.{kind_alone}

pub returns-clause-alone : goal.returns-clause-alone
returns-clause-alone c = kind_alone
