use Rattle.fcgi_lane.proofs.RequestLemmas.Spelling.{head_read}
use Rattle.fcgi_lane.proofs.RequestLemmas.Walking.{head_asked}
use Rattle.fcgi_lane.proofs.request.laws.heads_are_read.Goals as goal

pub returns-clause-read : goal.returns-clause-read
returns-clause-read c = head_read

pub returns-clause-asked : goal.returns-clause-asked
returns-clause-asked c = head_asked
