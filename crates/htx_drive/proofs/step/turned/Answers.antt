use Rattle.htx_drive.proofs.Steps.{fails_so, idles_turn, idles_fault, most_paid}
use Rattle.htx_drive.proofs.step.turned.Goals as goal

pub returns-in-Ok-clause-goes : goal.returns-in-Ok-clause-goes
returns-in-Ok-clause-goes g c = λ cfg all ahead budget first to first_net net e r.
    idles_turn _ _ g.L.Link.seen g.L.Link.wrote first _ _ to first_net net _ budget _ r (λ p h. c.in-Ok.ensures.goes cfg all ahead budget 0 first p e h) (most_paid c.in-Ok.moved budget)

pub returns-in-Err-clause-goes : goal.returns-in-Err-clause-goes
returns-in-Err-clause-goes g c = λ cfg all ahead budget first to first_net net e r.
    idles_fault _ _ _ g.L.Link.seen g.L.Link.wrote first _ _ _ to first_net net budget r (λ p h. c.in-Err.ensures.goes cfg all ahead budget 0 first p e h)
    (fails_so (g.C.Machine.meaning cfg) (g.C.Machine.stands cfg) g.C.Machine.seen all _ budget c.turn_idle.new.core _ (λ p s. (_, g.met.C.Machine.taken_is_a_front cfg c.turn_idle.new.core p s)))
