use Rattle.forward_core.proofs.RequestLemmas.Wholes.{replied_at}
use Rattle.forward_core.proofs.request.laws.came_replied.Goals as goal

pub returns : goal.returns
returns c = λ cfg side vars came asking to_server reply at stands. replied_at side.place cfg side.lane vars came asking to_server reply at stands.at
