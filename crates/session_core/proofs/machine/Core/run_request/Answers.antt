use Rattle.session_core.proofs.Working.{still}
use Rattle.session_core.proofs.machine.Core.run_request.Goals as goal

pub returns-in-Reading-clause-keeps : goal.returns-in-Reading-clause-keeps
returns-in-Reading-clause-keeps g c = λ cfg past s. still (g.S.Works.meaning cfg) g.S.Works.request g.S.Works.answer (g.S.Works.stands cfg) c.args.self.now.sides c.args.self.now.at past s

pub returns-in-Opening-clause-keeps : goal.returns-in-Opening-clause-keeps
returns-in-Opening-clause-keeps g c = λ cfg past s. still (g.S.Works.meaning cfg) g.S.Works.request g.S.Works.answer (g.S.Works.stands cfg) c.args.self.now.sides c.args.self.now.at past s

pub returns-in-Unserved-clause-keeps : goal.returns-in-Unserved-clause-keeps
returns-in-Unserved-clause-keeps g c = λ cfg past s. still (g.S.Works.meaning cfg) g.S.Works.request g.S.Works.answer (g.S.Works.stands cfg) c.args.self.now.sides c.args.self.now.at past s

pub returns-in-Served-clause-keeps : goal.returns-in-Served-clause-keeps
returns-in-Served-clause-keeps g c = λ cfg past s. still (g.S.Works.meaning cfg) g.S.Works.request g.S.Works.answer (g.S.Works.stands cfg) c.args.self.now.sides c.args.self.now.at past s

pub returns-in-Refusing-clause-keeps : goal.returns-in-Refusing-clause-keeps
returns-in-Refusing-clause-keeps g c = λ cfg past s. still (g.S.Works.meaning cfg) g.S.Works.request g.S.Works.answer (g.S.Works.stands cfg) c.args.self.now.sides c.args.self.now.at past s

pub returns-in-Replying-clause-keeps : goal.returns-in-Replying-clause-keeps
returns-in-Replying-clause-keeps g c = λ cfg past s. still (g.S.Works.meaning cfg) g.S.Works.request g.S.Works.answer (g.S.Works.stands cfg) c.args.self.now.sides c.args.self.now.at past s

pub returns-in-Over-clause-keeps : goal.returns-in-Over-clause-keeps
returns-in-Over-clause-keeps g c = λ cfg past s. still (g.S.Works.meaning cfg) g.S.Works.request g.S.Works.answer (g.S.Works.stands cfg) c.args.self.now.sides c.args.self.now.at past s
