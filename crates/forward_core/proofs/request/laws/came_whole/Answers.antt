use Rattle.forward_core.proofs.RequestLemmas.Wholes.{whole_at}
use Rattle.forward_core.proofs.request.laws.came_whole.Goals as goal

pub returns : goal.returns
returns c = λ cfg side vars came asking to_server reply whole stands.
    whole_at side.place cfg side.lane side.line side.awaits side.at_rest side.untouched vars came asking to_server reply whole stands.at stands.is_for (λ p s. c.promise.ensures side.lane p s) (λ p s e. c.has_body.ensures side.lane p s e)
