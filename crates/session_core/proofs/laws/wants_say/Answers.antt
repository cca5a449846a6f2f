use Rattle.session_core.proofs.Driving.{says}
use Rattle.session_core.proofs.laws.wants_say.Goals as goal

pub returns : goal.returns
returns g c = λ cfg sides at past s. says (g.S.Works.meaning cfg) at (g.S.Works.request sides) (g.S.Works.answer sides) s.sided past s.holds
