use Rattle.session_core.specs.History.{gains}
use Rattle.forward_core.proofs.JoinedLemmas.Joining.{answer_placed}
use Rattle.forward_core.proofs.JoinedLemmas.Windows.{session_answer}
use Rattle.forward_core.proofs.joined.sides.DirectionsWorks.from_server.Goals as goal

pub returns-clause-placed : goal.returns-clause-placed
returns-clause-placed c =
    let e = c.from_server.ensures in
    answer_placed c.args.self.now c.from_server.new.self (λ server. gains server c.args.bytes.now) e.leads e.place e.sound e.size

pub returns-clause-leads : goal.returns-clause-leads
returns-clause-leads c =
    let e = c.from_server.ensures in
    session_answer c.args.self.now c.from_server.new.self (λ server. gains server c.args.bytes.now) e.leads e.place e.window_size

pub from_server-requires-clause-sound : goal.from_server-requires-clause-sound
from_server-requires-clause-sound c = c.requires.placed.1.is_at.sound.answer
