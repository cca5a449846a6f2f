use Rattle.htx_drive.proofs.step.asked.Goals as goal

pub returns-in-Ok-clause-goes : goal.returns-in-Ok-clause-goes
returns-in-Ok-clause-goes g c = λ cfg all ahead budget first client first_net r. c.in-Ok.ensures.goes cfg all ahead budget first client first_net r.past r.under r.more

pub returns-in-Err-clause-goes : goal.returns-in-Err-clause-goes
returns-in-Err-clause-goes g c = λ cfg all ahead budget first client first_net r. c.in-Err.ensures.goes cfg all ahead budget first client first_net r.past r.under r.more
