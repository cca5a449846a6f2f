use Rattle.fcgi_lane.proofs.RequestLemmas.Following.{what_follows}
use Rattle.fcgi_lane.proofs.request.laws.what_follows.Goals as goal

pub returns : goal.returns
returns c = what_follows
