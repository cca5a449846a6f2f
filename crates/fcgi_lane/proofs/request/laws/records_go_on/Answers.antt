use Rattle.fcgi_lane.proofs.RequestLemmas.Following.{records_go_on}
use Rattle.fcgi_lane.proofs.request.laws.records_go_on.Goals as goal

pub returns : goal.returns
returns c = records_go_on
