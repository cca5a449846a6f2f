use Rattle.forward_core.proofs.RequestLemmas.Resting.{no_head_at}
use Rattle.forward_core.proofs.request.laws.waits_for_a_head.Goals as goal

pub returns : goal.returns
returns c = λ cfg side vars came asking to_server reply sound stands at rest. no_head_at side.place cfg side.lane vars came asking to_server reply at stands.at stands.is_for (sound.rests rest)
