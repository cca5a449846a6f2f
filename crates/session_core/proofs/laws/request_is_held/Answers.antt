use Rattle.session_core.proofs.Driving.{asked_for}
use Rattle.session_core.proofs.laws.request_is_held.Goals as goal

pub returns : goal.returns
returns g c = λ cfg sides at past s is. asked_for (g.S.Works.meaning cfg) at (g.S.Works.request sides) (g.S.Works.answer sides) s.sided past is s.holds
