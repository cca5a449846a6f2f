use Rattle.session_core.proofs.Placing.{is_somewhere}
use Rattle.session_core.proofs.machine.Core.request_line.Goals as goal

pub request_line-requires : goal.request_line-requires
request_line-requires g c = record { placed = is_somewhere (g.S.Works.placed c.args.self.now.sides) (g.S.Works.answer c.args.self.now.sides) c.args.self.now.at.phase c.args.self.now.at.cut c.requires.placed }
