use Rattle.session_core.proofs.Placing.{is_somewhere}
use Rattle.session_core.proofs.machine.Core.to_server.Goals as goal

pub to_server-requires : goal.to_server-requires
to_server-requires g c = record { placed = is_somewhere (g.S.Works.placed c.args.self.now.sides) (g.S.Works.answer c.args.self.now.sides) c.args.self.now.at.phase c.args.self.now.at.cut c.requires.placed }
