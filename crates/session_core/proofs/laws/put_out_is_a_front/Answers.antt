use Rattle.session_core.proofs.Consequences.{front}
use Rattle.session_core.proofs.laws.put_out_is_a_front.Goals as goal

pub returns : goal.returns
returns g c = λ cfg sides at past s. front (g.S.Works.meaning cfg) (g.S.Works.total cfg sides s.sided s.stand) at (g.S.Works.request sides) (g.S.Works.answer sides) s.sided past s.holds
