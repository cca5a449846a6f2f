use Rattle.session_core.proofs.Consequences.{front}
use Rattle.session_core.proofs.Driving.{front_taken}
use Rattle.session_core.proofs.laws.taken_is_a_front.Goals as goal

pub returns : goal.returns
returns g c = λ cfg sides at past s.
    front_taken (g.S.Sides.meaning cfg) past (g.S.Sides.answer sides).window (g.S.Sides.request sides).window (g.S.Sides.answer sides).begun
    (front (g.S.Sides.meaning cfg) (g.S.Sides.total cfg sides s.sided s.stand) at (g.S.Sides.request sides) (g.S.Sides.answer sides) s.sided past s.holds)
