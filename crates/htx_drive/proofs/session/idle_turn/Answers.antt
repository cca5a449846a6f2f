use Rattle.std.proofs.Common.{◌≡◌, ap, arith}
use Rattle.htx_drive.specs.Driven.{paid_by}
use Rattle.htx_drive.proofs.Running.{idle_paid}
use Rattle.htx_drive.proofs.Turning.{paid_for}
use Rattle.htx_drive.proofs.session.idle_turn.Goals as goal

pub returns-in-Ok-true-clause-goes : goal.returns-in-Ok-true-clause-goes
returns-in-Ok-true-clause-goes g c = λ cfg all budget first past h.
    idle_paid _ _ _ _ first _ _ past (paid_by c.in-Ok-true.field-0) _ _ (λ e p s. paid_for (g.C.Machine.stands cfg) g.C.Machine.seen all _ _ c.in-Ok-true.field-0 budget _ _ e p s)
    (c.in-Ok-true.ensures.goes cfg all budget c.args.resources.now.left first past h) (let e : paid_by c.in-Ok-true.field-0 ≡ 1 = ap paid_by c.in-Ok-true.field-0-test in omega arith)

pub returns-in-Ok-false-clause-goes : goal.returns-in-Ok-false-clause-goes
returns-in-Ok-false-clause-goes g c = λ cfg all budget first past h.
    idle_paid _ _ _ _ first _ _ past (paid_by c.in-Ok-false.field-0) _ _ (λ e p s. paid_for (g.C.Machine.stands cfg) g.C.Machine.seen all _ _ c.in-Ok-false.field-0 budget _ _ e p s)
    (c.in-Ok-false.ensures.goes cfg all budget c.args.resources.now.left first past h) (omega arith)

pub returns-in-Err-clause-goes : goal.returns-in-Err-clause-goes
returns-in-Err-clause-goes g c = λ cfg all budget first past h. idle_paid _ _ _ _ first _ _ past 0 _ _ (λ e p s. s) (c.in-Err.ensures.goes cfg all budget c.args.resources.now.left first past h) (omega arith)
