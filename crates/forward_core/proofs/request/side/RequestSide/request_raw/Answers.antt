use Rattle.session_core.specs.Sided.{HoldsList}
use Rattle.forward_core.proofs.request.side.RequestSide.request_raw.Goals as goal

pub returns : goal.returns
unfolding HoldsList
returns c = c.raw.ensures.gives_back
