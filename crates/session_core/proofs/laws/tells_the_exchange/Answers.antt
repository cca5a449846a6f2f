use Rattle.session_core.proofs.InHand.{exchanges_so}
use Rattle.session_core.proofs.Statuses.{tells_exchange, closes_whole}
use Rattle.session_core.proofs.laws.tells_the_exchange.Goals as goal

pub returns-clause-tells : goal.returns-clause-tells
returns-clause-tells g c = λ cfg sides at past s placed.
    let M = g.S.Works.meaning cfg in
    let q = g.S.Works.request sides in
    let a = g.S.Works.answer sides in
    tells_exchange M (g.S.Works.stands cfg sides) (g.S.Works.placed sides) at q a past (exchanges_so M (g.S.Works.stands cfg sides) at q a s.sided past s.stand s.holds) placed
    (λ p stand. g.met.S.Works.line_is cfg sides p stand) (λ p place stand here. g.met.S.Works.line_at cfg sides p place stand here) (λ p place stand here. g.met.S.Works.status_at cfg sides p place stand here)

pub returns-clause-close : goal.returns-clause-close
returns-clause-close g c = closes_whole
