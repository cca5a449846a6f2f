use Rattle.std.proofs.lemmas.Bool.{false≢true}
use Rattle.session_core.proofs.Noting.{noted}
use Rattle.session_core.proofs.Stalls.{some_want}
use Rattle.session_core.proofs.Statuses.{said_whole}
use Rattle.session_core.proofs.machine.Core.work_part.Goals as goal

pub returns-in-Ok-clause-leads : goal.returns-in-Ok-clause-leads
returns-in-Ok-clause-leads g c =
    let n = noted g.S.Works.meaning g.S.Works.request g.S.Works.answer g.S.Works.stands c.args.self.now.sides c.args.self.now.at c.run_part.new.self.sides c.run_part.new.self.at _ c.in-Ok.ensures.keeps c.in-Ok.ensures.met in
    (n.note, n.is, n.leads)

pub returns-in-Ok-clause-wants : goal.returns-in-Ok-clause-wants
returns-in-Ok-clause-wants g c = λ is. some_want (g.S.Works.request c.run_part.new.self.sides) (g.S.Works.answer c.run_part.new.self.sides) c.run_part.new.self.at (c.in-Ok.ensures.settled is)

pub returns-in-Ok-clause-said : goal.returns-in-Ok-clause-said
returns-in-Ok-clause-said g c = λ is. said_whole c.run_part.new.self.at.phase (g.S.Works.answer c.run_part.new.self.sides).answered (c.in-Ok.ensures.said is)

pub returns-in-Err-clause-succeeds : goal.returns-in-Err-clause-succeeds
returns-in-Err-clause-succeeds g c = λ cfg past s e. absurd (false≢true (c.in-Err.ensures.succeeds cfg past s e))
