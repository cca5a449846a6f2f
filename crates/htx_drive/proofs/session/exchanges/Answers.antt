use Rattle.std.proofs.Common.{refl, true, ◌∙◌}
use Rattle.px_link.specs.Net.{address_of}
use Rattle.htx_drive.specs.Driven.{Rests}
use Rattle.htx_drive.specs.Turned.{StandsIn, WorkedIn, none_failed}
use Rattle.htx_drive.proofs.Turning.{works_in, left_failing}
use Rattle.htx_drive.proofs.Handing.{no_both}
use Rattle.htx_drive.proofs.Resting.{rests_works, idle_rests, idle_stand}
use Rattle.htx_drive.proofs.Running.{goes_as, goes_works, goes_then, idle_goes}
use Rattle.htx_drive.proofs.session.exchanges.Goals as goal

pub returns-in-Err-clause-goes : goal.returns-in-Err-clause-goes
returns-in-Err-clause-goes g c = λ cfg all budget first first_net past h d.
    goes_as _ _ _ _ first _ _ (address_of c.args.to.now) _ _ past _ _ (λ p (s : Rests (StandsIn (g.C.Machine.stands cfg) g.C.Machine.seen all (g.T.Turns.left c.steps.turns) budget c.steps.resources.left c.steps.core) p). record { front = ((g.C.Machine.seen c.steps.core).begun, g.met.C.Machine.taken_is_a_front cfg c.steps.core p s.stand.stand); stand = λ e. absurd (no_both _ (c.in-Err.ensures.lost.0 refl) e); turned = none_failed s.stand.worked s.stand.turned; paid = s.stand.paid }) (c.steps.invariant.goes cfg all budget first first_net past h d)

pub returns-in-Some-clause-goes : goal.returns-in-Some-clause-goes
returns-in-Some-clause-goes g c = λ cfg all budget first first_net past h d.
    let n = c.in-Ok.ensures.leads in
    goes_works _ _ _ _ first _ (address_of c.args.to.now) _ _ past _ _ n.0 (rests_works _ _ n.0 (works_in (g.C.Machine.stands cfg) g.C.Machine.seen all _ budget c.steps.resources.left c.steps.core c.work.new.self n.0 (n.1 cfg))) (c.steps.invariant.goes cfg all budget first first_net past h d)

pub returns-then-resources-eq0-clause-goes : goal.returns-then-resources-eq0-clause-goes
returns-then-resources-eq0-clause-goes g c = λ cfg all budget first first_net past h d.
    let n = c.in-Ok.ensures.leads in
    let on = goes_works _ _ _ _ first _ (address_of c.args.to.now) _ _ past _ _ n.0 (rests_works _ _ n.0 (works_in (g.C.Machine.stands cfg) g.C.Machine.seen all _ budget c.steps.resources.left c.steps.core c.work.new.self n.0 (n.1 cfg))) (c.steps.invariant.goes cfg all budget first first_net past h d) in
    goes_as _ _ _ _ first _ _ (address_of c.args.to.now) _ _ past _ _ (λ p (s : Rests (WorkedIn (g.C.Machine.stands cfg) g.C.Machine.seen all (g.T.Turns.left c.steps.turns) budget c.steps.resources.left c.work.new.self) p). record { front = ((g.C.Machine.seen c.work.new.self).begun, g.met.C.Machine.taken_is_a_front cfg c.work.new.self p s.stand.stand); stand = λ e. s.stand.stand; turned = none_failed true s.stand.turned; paid = s.stand.paid }) on

pub returns-in-Err-exchange-clause-goes : goal.returns-in-Err-exchange-clause-goes
returns-in-Err-exchange-clause-goes g c = λ cfg all budget first first_net past h d.
    let n = c.in-Ok.ensures.leads in
    let on = goes_works _ _ _ _ first _ (address_of c.args.to.now) _ _ past _ _ n.0 (rests_works _ _ n.0 (works_in (g.C.Machine.stands cfg) g.C.Machine.seen all _ budget c.steps.resources.left c.steps.core c.work.new.self n.0 (n.1 cfg))) (c.steps.invariant.goes cfg all budget first first_net past h d) in
    goes_then _ _ _ _ first _ _ _ (address_of c.args.to.now) _ _ _ past _ _ _ on (λ p i e. c.in-Err-exchange.ensures.goes cfg all budget first first_net p i e)

pub returns-in-Err-idle_turn-clause-goes : goal.returns-in-Err-idle_turn-clause-goes
returns-in-Err-idle_turn-clause-goes g c = λ cfg all budget first first_net past h d.
    let n = c.in-Ok.ensures.leads in
    let on = goes_works _ _ _ _ first _ (address_of c.args.to.now) _ _ past _ _ n.0 (rests_works _ _ n.0 (works_in (g.C.Machine.stands cfg) g.C.Machine.seen all _ budget c.steps.resources.left c.steps.core c.work.new.self n.0 (n.1 cfg))) (c.steps.invariant.goes cfg all budget first first_net past h d) in
    goes_then _ _ _ _ first _ _ _ (address_of c.args.to.now) _ _ _ past _ _ _ on
    (λ p i e. idle_goes _ _ _ _ first _ _ (address_of c.args.to.now) _ _ p _ _
    (left_failing (g.C.Machine.meaning cfg) (g.C.Machine.stands cfg) g.C.Machine.seen all _ budget _ c.idle_turn.new.core (λ q t. (_, g.met.C.Machine.taken_is_a_front cfg c.idle_turn.new.core q t))) e
    (c.in-Err-idle_turn.ensures.goes cfg all budget first p (idle_stand _ _ _ first _ _ p i)))

pub steps-preserved-in-Ok-exchange : goal.steps-preserved-in-Ok-exchange
steps-preserved-in-Ok-exchange g c =
    record {
      goes = λ cfg all budget first first_net past h d.
          let n = c.in-Ok.ensures.leads in
          let on = goes_works _ _ _ _ first _ (address_of c.args.to.now) _ _ past _ _ n.0 (rests_works _ _ n.0 (works_in (g.C.Machine.stands cfg) g.C.Machine.seen all _ budget c.steps.resources.left c.steps.core c.work.new.self n.0 (n.1 cfg))) (c.steps.invariant.goes cfg all budget first first_net past h d) in
          goes_then _ _ _ _ first _ _ _ (address_of c.args.to.now) _ _ _ past _ _ _ on (λ p i e. c.in-Ok-exchange.ensures.goes cfg all budget first first_net p i e);
      sound = c.in-Ok-exchange.ensures.sound;
      serving = c.in-Ok-exchange.ensures.serving;
    }

pub steps-preserved : goal.steps-preserved
steps-preserved g c =
    record {
      goes = λ cfg all budget first first_net past h d.
          let n = c.in-Ok.ensures.leads in
          let on = goes_works _ _ _ _ first _ (address_of c.args.to.now) _ _ past _ _ n.0 (rests_works _ _ n.0 (works_in (g.C.Machine.stands cfg) g.C.Machine.seen all _ budget c.steps.resources.left c.steps.core c.work.new.self n.0 (n.1 cfg))) (c.steps.invariant.goes cfg all budget first first_net past h d) in
          goes_then _ _ _ _ first _ _ _ (address_of c.args.to.now) _ _ _ past _ _ _ on
          (λ p i e. idle_rests _ _ _ first _ _ (address_of c.args.to.now) _ _ p _ _ i.stand.over e (c.in-Ok-idle_turn.ensures.goes cfg all budget first p (idle_stand _ _ _ first _ _ p i)));
      sound = c.in-Ok-idle_turn.ensures.sound;
      serving = c.in-Ok-idle_turn.ensures.serving ∙ c.in-Ok.ensures.serving ∙ c.steps.invariant.serving;
    }
