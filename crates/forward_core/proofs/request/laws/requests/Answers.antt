use Rattle.forward_core.proofs.RequestLemmas.Goes.{requests_at}
use Rattle.forward_core.proofs.request.laws.requests.Goals as goal

pub returns : goal.returns
returns c = λ cfg side vars came asking to_server reply at stands stream goes.
    requests_at side.place cfg side.lane vars came asking to_server reply at stands.at stands.is_for (λ p s. c.promise.ensures side.lane p s)
    (λ bytes end. c.reading.ensures cfg.limits asking.received.framing bytes end) stream goes
