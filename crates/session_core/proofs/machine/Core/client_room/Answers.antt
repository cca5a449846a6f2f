use Rattle.session_core.proofs.Placing.{is_somewhere}
use Rattle.session_core.proofs.machine.Core.client_room.Goals as goal

pub client_room-requires : goal.client_room-requires
client_room-requires g c = record { placed = is_somewhere (g.S.Works.placed c.args.self.now.sides) (g.S.Works.answer c.args.self.now.sides) c.args.self.now.at.phase c.args.self.now.at.cut c.requires.placed }
