use Rattle.std.proofs.lemmas.Result.{on_ok_weaker}
use Rattle.htx_drive.proofs.core_machine.CoreMachine.work_part.Goals as goal

pub returns-clause-leads : goal.returns-clause-leads
returns-clause-leads g c = on_ok_weaker c.work_part.result (λ leads. (leads.0, leads.2)) c.work_part.ensures.leads
