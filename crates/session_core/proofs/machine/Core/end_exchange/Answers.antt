use Rattle.session_core.proofs.Working.{still}
use Rattle.session_core.proofs.machine.Core.end_exchange.Goals as goal

pub returns-in-Reading-clause-keeps : goal.returns-in-Reading-clause-keeps
returns-in-Reading-clause-keeps g c = λ cfg past s. still (g.S.Works.meaning cfg) g.S.Works.request g.S.Works.answer (g.S.Works.stands cfg) c.args.self.now.sides c.args.self.now.at past s

pub returns-in-Opening-clause-keeps : goal.returns-in-Opening-clause-keeps
returns-in-Opening-clause-keeps g c = λ cfg past s. still (g.S.Works.meaning cfg) g.S.Works.request g.S.Works.answer (g.S.Works.stands cfg) c.args.self.now.sides c.args.self.now.at past s

pub returns-in-Unserved-clause-keeps : goal.returns-in-Unserved-clause-keeps
returns-in-Unserved-clause-keeps g c = λ cfg past s. still (g.S.Works.meaning cfg) g.S.Works.request g.S.Works.answer (g.S.Works.stands cfg) c.args.self.now.sides c.args.self.now.at past s

pub returns-in-Serving-clause-keeps : goal.returns-in-Serving-clause-keeps
returns-in-Serving-clause-keeps g c = λ cfg past s. still (g.S.Works.meaning cfg) g.S.Works.request g.S.Works.answer (g.S.Works.stands cfg) c.args.self.now.sides c.args.self.now.at past s

pub returns-in-Over-clause-keeps : goal.returns-in-Over-clause-keeps
returns-in-Over-clause-keeps g c = λ cfg past s. still (g.S.Works.meaning cfg) g.S.Works.request g.S.Works.answer (g.S.Works.stands cfg) c.args.self.now.sides c.args.self.now.at past s
