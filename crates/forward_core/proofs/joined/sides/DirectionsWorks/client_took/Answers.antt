use Rattle.forward_core.proofs.JoinedLemmas.Joining.{answer_placed}
use Rattle.forward_core.proofs.JoinedLemmas.Windows.{session_answer}
use Rattle.forward_core.proofs.joined.sides.DirectionsWorks.client_took.Goals as goal

pub returns-clause-placed : goal.returns-clause-placed
returns-clause-placed c =
    let e = c.client_took.ensures in
    answer_placed c.args.self.now c.client_took.new.self (λ server. server) e.leads e.place e.sound e.size

pub returns-clause-leads : goal.returns-clause-leads
returns-clause-leads c =
    let e = c.client_took.ensures in
    session_answer c.args.self.now c.client_took.new.self (λ server. server) e.leads e.place e.window_size

pub client_took-requires-clause-sound : goal.client_took-requires-clause-sound
client_took-requires-clause-sound c = c.requires.placed.1.is_at.sound.answer
