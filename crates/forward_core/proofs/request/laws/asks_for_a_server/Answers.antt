use Rattle.forward_core.proofs.RequestLemmas.Wholes.{asks_at}
use Rattle.forward_core.proofs.request.laws.asks_for_a_server.Goals as goal

pub returns : goal.returns
returns c = λ cfg side vars came asking to_server reply at stands stream goes. asks_at side.place cfg side.lane vars came asking to_server reply at stands.at stream goes
