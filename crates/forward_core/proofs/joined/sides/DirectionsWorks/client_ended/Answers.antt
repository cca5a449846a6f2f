use Rattle.session_core.specs.History.{ends}
use Rattle.forward_core.proofs.JoinedLemmas.Joining.{request_placed}
use Rattle.forward_core.proofs.JoinedLemmas.Windows.{session_request}
use Rattle.forward_core.proofs.joined.sides.DirectionsWorks.client_ended.Goals as goal

pub returns-clause-placed : goal.returns-clause-placed
returns-clause-placed c =
    let e = c.client_ended.ensures in
    request_placed c.args.self.now c.client_ended.new.self (λ came. ends came c.args.how) (λ put. put) e.leads e.place e.sound e.limits

pub returns-clause-leads : goal.returns-clause-leads
returns-clause-leads c =
    let e = c.client_ended.ensures in
    session_request c.args.self.now c.client_ended.new.self (λ came. ends came c.args.how) (λ put. put) e.leads e.place e.window_size

pub client_ended-requires-clause-sound : goal.client_ended-requires-clause-sound
client_ended-requires-clause-sound c = c.requires.placed.1.is_at.sound.request
