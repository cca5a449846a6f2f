use Rattle.forward_core.proofs.JoinedLemmas.Joining.{request_placed}
use Rattle.forward_core.proofs.JoinedLemmas.Windows.{session_request}
use Rattle.forward_core.proofs.joined.sides.DirectionsWorks.server_took.Goals as goal

pub returns-clause-placed : goal.returns-clause-placed
returns-clause-placed c =
    let e = c.server_took.ensures in
    request_placed c.args.self.now c.server_took.new.self (λ came. came) (λ put. put) e.leads e.place e.sound e.limits

pub returns-clause-leads : goal.returns-clause-leads
returns-clause-leads c =
    let e = c.server_took.ensures in
    session_request c.args.self.now c.server_took.new.self (λ came. came) (λ put. put) e.leads e.place e.window_size

pub server_took-requires-clause-sound : goal.server_took-requires-clause-sound
server_took-requires-clause-sound c = c.requires.placed.1.is_at.sound.request
