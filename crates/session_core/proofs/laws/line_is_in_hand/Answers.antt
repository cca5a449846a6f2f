use Rattle.session_core.proofs.InHand.{exchanges_so}
use Rattle.session_core.proofs.Lines.{line_in_hand, line_told}
use Rattle.session_core.proofs.laws.line_is_in_hand.Goals as goal

pub returns-clause-hand : goal.returns-clause-hand
returns-clause-hand g c = λ cfg sides at past s.
    let M = g.S.Works.meaning cfg in
    let q = g.S.Works.request sides in
    let a = g.S.Works.answer sides in
    line_in_hand M (g.S.Works.stands cfg sides) at q a past (exchanges_so M (g.S.Works.stands cfg sides) at q a s.sided past s.stand s.holds) (λ p stand. g.met.S.Works.line_is cfg sides p stand)

pub returns-clause-phase : goal.returns-clause-phase
returns-clause-phase g c = λ cfg sides at past s placed.
    let M = g.S.Works.meaning cfg in
    let q = g.S.Works.request sides in
    let a = g.S.Works.answer sides in
    line_told M (g.S.Works.stands cfg sides) (g.S.Works.placed sides) at q a past (exchanges_so M (g.S.Works.stands cfg sides) at q a s.sided past s.stand s.holds) placed
    (λ p place stand here. g.met.S.Works.line_at cfg sides p place stand here)
