use Rattle.session_core.specs.History.{ends}
use Rattle.forward_core.proofs.JoinedLemmas.Joining.{answer_placed}
use Rattle.forward_core.proofs.JoinedLemmas.Windows.{session_answer}
use Rattle.forward_core.proofs.joined.sides.DirectionsWorks.server_ended.Goals as goal

pub returns-clause-placed : goal.returns-clause-placed
returns-clause-placed c =
    let e = c.server_ended.ensures in
    answer_placed c.args.self.now c.server_ended.new.self (λ server. ends server c.args.how) e.leads e.place e.sound e.size

pub returns-clause-leads : goal.returns-clause-leads
returns-clause-leads c =
    let e = c.server_ended.ensures in
    session_answer c.args.self.now c.server_ended.new.self (λ server. ends server c.args.how) e.leads e.place e.window_size

pub server_ended-requires-clause-sound : goal.server_ended-requires-clause-sound
server_ended-requires-clause-sound c = c.requires.placed.1.is_at.sound.answer
