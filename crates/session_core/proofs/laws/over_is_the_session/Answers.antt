use Rattle.session_core.proofs.Driving.{final_taken}
use Rattle.session_core.proofs.laws.over_is_the_session.Goals as goal

pub returns : goal.returns
returns g c = λ cfg sides at past how s e. final_taken (g.S.Works.meaning cfg) at (g.S.Works.request sides) (g.S.Works.answer sides) s.sided past how s.holds e
