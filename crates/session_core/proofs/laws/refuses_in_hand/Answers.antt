use Rattle.session_core.proofs.InHand.{refuses_so}
use Rattle.session_core.proofs.laws.refuses_in_hand.Goals as goal

pub returns : goal.returns
returns g c = λ cfg sides at past s is. refuses_so (g.S.Works.meaning cfg) (g.S.Works.stands cfg sides) at (g.S.Works.request sides) (g.S.Works.answer sides) s.sided past is s.stand s.holds
