use Rattle.session_core.proofs.InHand.{exchanges_so}
use Rattle.session_core.proofs.laws.exchanges_are.Goals as goal

pub returns : goal.returns
returns g c = λ cfg sides at past s. exchanges_so (g.S.Works.meaning cfg) (g.S.Works.stands cfg sides) at (g.S.Works.request sides) (g.S.Works.answer sides) s.sided past s.stand s.holds
