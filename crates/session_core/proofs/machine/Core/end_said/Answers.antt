use Rattle.session_core.proofs.Noting.{unnoted}
use Rattle.session_core.proofs.machine.Core.end_said.Goals as goal

pub returns-clause-leads : goal.returns-clause-leads
returns-clause-leads g c =
    unnoted g.S.Works.meaning g.S.Works.request g.S.Works.answer g.S.Works.stands c.args.self.now.sides c.args.self.now.at c.end_exchange.new.self.sides c.end_exchange.new.self.at c.end_exchange.ensures.keeps c.end_exchange.ensures.cut
