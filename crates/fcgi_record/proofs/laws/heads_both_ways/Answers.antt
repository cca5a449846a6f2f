use Rattle.fcgi_record.proofs.laws.heads_both_ways.Goals as goal
use Rattle.fcgi_record.proofs.Bytes.{head_alone}

-- src/laws.rt:8:1
pub returns-clause-alone : goal.returns-clause-alone
returns-clause-alone c = head_alone
