use Rattle.fcgi_lane.proofs.RequestLemmas.Packings.{holds_whole}
use Rattle.fcgi_lane.proofs.request.laws.pairs_stay_whole.Goals as goal

pub returns : goal.returns
returns c = holds_whole
