use Rattle.fcgi_lane.proofs.RequestLemmas.Names.{no_proxy}
use Rattle.fcgi_lane.proofs.request.laws.no_proxy.Goals as goal

pub returns : goal.returns
returns c = no_proxy
