use Rattle.std.proofs.Common.{◌+◌, length}
use Rattle.forward_core.specs.Request.Seen.{unread_of, place_of, to_read}
use Rattle.session_core.specs.History.{gains}
use Rattle.forward_core.proofs.JoinedLemmas.Joining.{request_placed}
use Rattle.forward_core.proofs.JoinedLemmas.Windows.{session_request}
use Rattle.forward_core.proofs.joined.sides.DirectionsWorks.from_client.Goals as goal

pub returns-clause-placed : goal.returns-clause-placed
returns-clause-placed c =
    let e = c.from_client.ensures in
    request_placed c.args.self.now c.from_client.new.self (λ came. gains came c.args.bytes.now) (λ put. put) e.leads e.place e.sound e.limits

pub returns-clause-leads : goal.returns-clause-leads
returns-clause-leads c =
    let e = c.from_client.ensures in
    session_request c.args.self.now c.from_client.new.self (λ came. gains came c.args.bytes.now) (λ put. put) e.leads e.place e.window_size

pub from_client-requires-clause-sound : goal.from_client-requires-clause-sound
from_client-requires-clause-sound c = c.requires.placed.1.is_at.sound.request

pub returns-clause-request : goal.returns-clause-request
returns-clause-request c = (unread_of c.args.self.now.request + to_read (place_of c.args.self.now.request) (length c.args.bytes.now), c.from_client.ensures.seen)
