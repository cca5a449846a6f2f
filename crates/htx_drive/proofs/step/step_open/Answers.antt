use Rattle.std.proofs.Common.{rules, refl, Some, false, ◌≡◌}
use Rattle.htx_drive.specs.Turned.{WorkedIn}
use Rattle.htx_drive.proofs.Handing.{no_both}
use Rattle.htx_drive.proofs.Turning.{works_in}
use Rattle.htx_drive.proofs.Steps.{closed_in, lost_so, fails_so, opens_works, opens_turn, opens_fault, opens_close, hand_same, most_paid}
use Rattle.htx_drive.proofs.step.step_open.Goals as goal

pub returns-in-Err-clause-goes : goal.returns-in-Err-clause-goes
returns-in-Err-clause-goes g c = λ cfg all ahead budget first to first_net e r. (
  ahead,
  opens_fault _ _ _ g.L.Link.seen g.L.Link.wrote first _ _ _ _ _ false to _ _ _ budget r (λ lent before p k h. hand_same _ g.L.Link.seen g.L.Link.wrote first _ lent _ before p k h)
      (lost_so (g.C.Machine.meaning cfg) (g.C.Machine.stands cfg) g.C.Machine.seen all ahead budget c.args.core.now c.work.new.self (λ p s. (_, g.met.C.Machine.taken_is_a_front cfg c.args.core.now p s)) (no_both _ (c.in-Err.ensures.lost.0 refl)))
      c.close.ensures.seen c.close.ensures.wrote c.keep.ensures.keeps,
)

pub returns-in-Some-clause-goes : goal.returns-in-Some-clause-goes
returns-in-Some-clause-goes g c = λ cfg all ahead budget first to first_net e r.
    let n = c.in-Ok.ensures.leads in
    let on = opens_works _ _ g.L.Link.seen g.L.Link.wrote first _ _ to _ _ budget n.0 (works_in (g.C.Machine.stands cfg) g.C.Machine.seen all ahead budget 0 c.args.core.now c.work.new.self n.0 (n.1 cfg)) r in
    let is : (g.C.Machine.seen c.work.new.self).wants.server_close ≡ Some c.in-Some.how = search rules in
    opens_close _ _ g.L.Link.seen g.L.Link.wrote first _ _ _ to _ _ _ c.in-Some.how budget on
    (λ p (s : WorkedIn (g.C.Machine.stands cfg) g.C.Machine.seen all ahead budget 0 c.work.new.self p).
    (closed_in (g.C.Machine.stands cfg) g.C.Machine.seen all ahead budget c.work.new.self c.server_closed.new.self p (c.server_closed.ensures.leads cfg p s.stand) s, (g.met.C.Machine.wants_say cfg c.work.new.self p s.stand).server_close c.in-Some.how is))
    c.close-in-Some.ensures.seen c.close-in-Some.ensures.wrote c.keep-in-Some.ensures.keeps

pub returns-in-Ok-turn_open-clause-goes : goal.returns-in-Ok-turn_open-clause-goes
returns-in-Ok-turn_open-clause-goes g c = λ cfg all ahead budget first to first_net e r.
    let n = c.in-Ok.ensures.leads in
    let on = opens_works _ _ g.L.Link.seen g.L.Link.wrote first _ _ to _ _ budget n.0 (works_in (g.C.Machine.stands cfg) g.C.Machine.seen all ahead budget 0 c.args.core.now c.work.new.self n.0 (n.1 cfg)) r in
    opens_turn _ _ g.L.Link.seen g.L.Link.wrote first _ _ _ _ to _ _ _ budget _ on (λ lent before p k h. c.in-Ok-turn_open.ensures.goes cfg all ahead budget 0 first lent before p k e h) (most_paid c.in-Ok-turn_open.moved budget)

pub returns-in-Err-turn_open-clause-goes : goal.returns-in-Err-turn_open-clause-goes
returns-in-Err-turn_open-clause-goes g c = λ cfg all ahead budget first to first_net e r.
    let n = c.in-Ok.ensures.leads in
    let on = opens_works _ _ g.L.Link.seen g.L.Link.wrote first _ _ to _ _ budget n.0 (works_in (g.C.Machine.stands cfg) g.C.Machine.seen all ahead budget 0 c.args.core.now c.work.new.self n.0 (n.1 cfg)) r in (
      _,
      opens_fault _ _ _ g.L.Link.seen g.L.Link.wrote first _ _ _ _ _ _ to _ _ _ budget on (λ lent before p k h. c.in-Err-turn_open.ensures.goes cfg all ahead budget 0 first lent before p k e h)
          (fails_so (g.C.Machine.meaning cfg) (g.C.Machine.stands cfg) g.C.Machine.seen all _ budget c.turn_open.new.core _ (λ p s. (_, g.met.C.Machine.taken_is_a_front cfg c.turn_open.new.core p s)))
          c.close-in-Err-turn_open.ensures.seen c.close-in-Err-turn_open.ensures.wrote c.keep-in-Err-turn_open.ensures.keeps,
    )
