use Rattle.std.proofs.Common.{◌≡◌, refl, arith, ap, ◌∙◌}
use Rattle.htx_drive.specs.Driven.{paid_by}
use Rattle.htx_drive.proofs.Handing.{hand_as, hand_works, goes_on, no_both}
use Rattle.htx_drive.specs.Turned.{StandsIn, none_failed}
use Rattle.htx_drive.proofs.Turning.{works_in, left_in, left_failing, paid_for}
use Rattle.htx_drive.proofs.serve.serve.Goals as goal

pub returns-in-Err-clause-goes : goal.returns-in-Err-clause-goes
returns-in-Err-clause-goes g c = λ cfg all budget first first_link before past k h.
    hand_as _ _ _ _ first _ first_link _ _ before past _ _ (λ p (s : StandsIn (g.C.Machine.stands cfg) g.C.Machine.seen all (g.T.Turns.left c.turns.turns) budget c.turns.resources.left c.turns.core p). record { front = ((g.C.Machine.seen c.turns.core).begun, g.met.C.Machine.taken_is_a_front cfg c.turns.core p s.stand); stand = λ e. absurd (no_both _ (c.in-Err.ensures.lost.0 refl) e); turned = none_failed s.worked s.turned; paid = s.paid }) (c.turns.invariant.goes cfg all budget first first_link before past k h)

pub returns-in-Some-clause-goes : goal.returns-in-Some-clause-goes
returns-in-Some-clause-goes g c = λ cfg all budget first first_link before past k h.
    let n = c.in-Ok.ensures.leads in
    hand_works _ _ _ _ first _ first_link _ before past _ _ n.0 (works_in (g.C.Machine.stands cfg) g.C.Machine.seen all _ budget c.turns.resources.left c.turns.core c.work.new.self n.0 (n.1 cfg)) (c.turns.invariant.goes cfg all budget first first_link before past k h)

pub returns-then-resources-eq0-clause-goes : goal.returns-then-resources-eq0-clause-goes
returns-then-resources-eq0-clause-goes g c = λ cfg all budget first first_link before past k h.
    let n = c.in-Ok.ensures.leads in
    let on = hand_works _ _ _ _ first _ first_link _ before past _ _ n.0 (works_in (g.C.Machine.stands cfg) g.C.Machine.seen all _ budget c.turns.resources.left c.turns.core c.work.new.self n.0 (n.1 cfg)) (c.turns.invariant.goes cfg all budget first first_link before past k h) in
    hand_as _ _ _ _ first _ first_link _ _ before past _ _ (left_in (g.C.Machine.meaning cfg) (g.C.Machine.stands cfg) g.C.Machine.seen all _ budget c.turns.resources.left c.work.new.self (λ p s. (_, g.met.C.Machine.taken_is_a_front cfg c.work.new.self p s))) on

pub returns-in-Err-serve_turn-clause-goes : goal.returns-in-Err-serve_turn-clause-goes
returns-in-Err-serve_turn-clause-goes g c = λ cfg all budget first first_link before past k h.
    let n = c.in-Ok.ensures.leads in
    let on = hand_works _ _ _ _ first _ first_link _ before past _ _ n.0 (works_in (g.C.Machine.stands cfg) g.C.Machine.seen all _ budget c.turns.resources.left c.turns.core c.work.new.self n.0 (n.1 cfg)) (c.turns.invariant.goes cfg all budget first first_link before past k h) in
    let done = goes_on _ _ _ _ _ first _ _ first_link _ _ _ before past _ _ 0 c.turns.resources.left on (λ p k h. c.in-Err-serve_turn.ensures.goes cfg all budget c.turns.resources.left first first_link before p k h) (λ e p s. s) (omega arith) in
    hand_as _ _ _ _ first _ first_link _ _ before past _ _ (left_failing (g.C.Machine.meaning cfg) (g.C.Machine.stands cfg) g.C.Machine.seen all _ budget c.turns.resources.left c.serve_turn.new.core (λ p s. (_, g.met.C.Machine.taken_is_a_front cfg c.serve_turn.new.core p s))) done

pub turns-preserved-in-Ok-true : goal.turns-preserved-in-Ok-true
turns-preserved-in-Ok-true g c =
    record {
      goes = λ cfg all budget first first_link before past k h.
          let n = c.in-Ok.ensures.leads in
          let on = hand_works _ _ _ _ first _ first_link _ before past _ _ n.0 (works_in (g.C.Machine.stands cfg) g.C.Machine.seen all _ budget c.turns.resources.left c.turns.core c.work.new.self n.0 (n.1 cfg)) (c.turns.invariant.goes cfg all budget first first_link before past k h) in
          goes_on _ _ _ _ _ first _ _ first_link _ _ _ before past _ _ (paid_by c.in-Ok-true.field-0) _ on (λ p k h. c.in-Ok-true.ensures.goes cfg all budget c.turns.resources.left first first_link before p k h)
          (λ e p s. paid_for (g.C.Machine.stands cfg) g.C.Machine.seen all _ _ c.in-Ok-true.field-0 budget _ _ e p s) (let e : paid_by c.in-Ok-true.field-0 ≡ 1 = ap paid_by c.in-Ok-true.field-0-test in omega arith);
      sound = c.in-Ok-true.ensures.sound;
      serving = c.in-Ok-true.ensures.serving ∙ c.in-Ok.ensures.serving ∙ c.turns.invariant.serving;
      fewer = omega (arith, c.turns.invariant.fewer, c.in-Ok-true.ensures.fewer);
      spends = omega arith;
    }

pub turns-preserved : goal.turns-preserved
turns-preserved g c =
    record {
      goes = λ cfg all budget first first_link before past k h.
          let n = c.in-Ok.ensures.leads in
          let on = hand_works _ _ _ _ first _ first_link _ before past _ _ n.0 (works_in (g.C.Machine.stands cfg) g.C.Machine.seen all _ budget c.turns.resources.left c.turns.core c.work.new.self n.0 (n.1 cfg)) (c.turns.invariant.goes cfg all budget first first_link before past k h) in
          goes_on _ _ _ _ _ first _ _ first_link _ _ _ before past _ _ (paid_by c.in-Ok-false.field-0) _ on (λ p k h. c.in-Ok-false.ensures.goes cfg all budget c.turns.resources.left first first_link before p k h)
          (λ e p s. paid_for (g.C.Machine.stands cfg) g.C.Machine.seen all _ _ c.in-Ok-false.field-0 budget _ _ e p s) (let e : paid_by c.in-Ok-false.field-0 ≡ 0 = ap paid_by c.in-Ok-false.field-0-test in omega arith);
      sound = c.in-Ok-false.ensures.sound;
      serving = c.in-Ok-false.ensures.serving ∙ c.in-Ok.ensures.serving ∙ c.turns.invariant.serving;
      fewer = omega (arith, c.turns.invariant.fewer, c.in-Ok-false.ensures.fewer);
      spends = omega arith;
    }
