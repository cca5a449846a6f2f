use Rattle.std.proofs.Common.{refl}
use Rattle.px_link.specs.Net.{address_of}
use Rattle.px_link.specs.Turns.{rest_of}
use Rattle.htx_drive.proofs.Dialling.{ends_as}
use Rattle.htx_drive.proofs.Handing.{no_both}
use Rattle.htx_drive.proofs.Turning.{works_in}
use Rattle.htx_drive.proofs.Steps.{worked_in, lost_so, idles_works, idles_as, idles_stop}
use Rattle.htx_drive.proofs.step.step_idle.Goals as goal

pub returns-in-Err-clause-goes : goal.returns-in-Err-clause-goes
returns-in-Err-clause-goes g c = λ cfg all ahead budget first first_net e r. (
  ahead,
  idles_stop _ _ g.L.Link.seen g.L.Link.wrote first _ (address_of c.args.to.now) _ _ budget
      (lost_so (g.C.Machine.meaning cfg) (g.C.Machine.stands cfg) g.C.Machine.seen all ahead budget c.args.core.now c.work.new.self (λ p s. (_, g.met.C.Machine.taken_is_a_front cfg c.args.core.now p s)) (no_both _ (c.in-Err.ensures.lost.0 refl))) r,
)

pub returns-in-Some-clause-goes : goal.returns-in-Some-clause-goes
returns-in-Some-clause-goes g c = λ cfg all ahead budget first first_net e r.
    let n = c.in-Ok.ensures.leads in
    idles_as _ _ g.L.Link.seen g.L.Link.wrote first _ (address_of c.args.to.now) _ _ budget (worked_in (g.C.Machine.stands cfg) g.C.Machine.seen all ahead budget c.work.new.self)
    (idles_works _ _ g.L.Link.seen g.L.Link.wrote first _ (address_of c.args.to.now) _ _ budget n.0 (works_in (g.C.Machine.stands cfg) g.C.Machine.seen all ahead budget 0 c.args.core.now c.work.new.self n.0 (n.1 cfg)) r)

pub returns-then-wants-clause-goes : goal.returns-then-wants-clause-goes
returns-then-wants-clause-goes g c = λ cfg all ahead budget first first_net e r.
    let n = c.in-Ok.ensures.leads in
    let on = idles_works _ _ g.L.Link.seen g.L.Link.wrote first _ (address_of c.args.to.now) _ _ budget n.0 (works_in (g.C.Machine.stands cfg) g.C.Machine.seen all ahead budget 0 c.args.core.now c.work.new.self n.0 (n.1 cfg)) r in
    ends_as c.asked.result _ _ _ _ (λ x s. s) (λ b s. (ahead, s)) (c.asked.ensures.goes cfg all ahead budget first _ first_net on)

pub returns-clause-goes : goal.returns-clause-goes
returns-clause-goes g c = λ cfg all ahead budget first first_net e r.
    let n = c.in-Ok.ensures.leads in
    let on = idles_works _ _ g.L.Link.seen g.L.Link.wrote first _ (address_of c.args.to.now) _ _ budget n.0 (works_in (g.C.Machine.stands cfg) g.C.Machine.seen all ahead budget 0 c.args.core.now c.work.new.self n.0 (n.1 cfg)) r in
    ends_as c.turned.result _ _ _ _ (λ x s. s) (λ b s. (rest_of ahead, s)) (c.turned.ensures.goes cfg all ahead budget first (address_of c.args.to.now) _ _ e on)
