use Rattle.fcgi_lane.proofs.RequestLemmas.Walking.{request_asked}
use Rattle.fcgi_lane.proofs.request.laws.requests_are_read.Goals as goal

pub returns : goal.returns
returns c = request_asked
