use Rattle.std.proofs.lemmas.Result.{IfOk-weaker}
use Rattle.forward_core.specs.Joined.Joined.{request_of}
use Rattle.forward_core.proofs.JoinedLemmas.Windows.{session_asks}
use Rattle.forward_core.proofs.joined.sides.DirectionsWorks.ask.Goals as goal

pub returns-clause-leads : goal.returns-clause-leads
returns-clause-leads c =
    let new = c.ask_next.new.self in
    IfOk-weaker c.ask_next.result _ _ (λ asked so settings p s. session_asks settings new (request_of new) p asked (so.windows settings.1 s.windows) (so.leads settings.0 p s.directions)) c.ask_next.ensures.so

pub returns-clause-placed : goal.returns-clause-placed
returns-clause-placed c = IfOk-weaker c.ask_next.result _ _ (λ asked so. so.placed) c.ask_next.ensures.so

pub returns-clause-request : goal.returns-clause-request
returns-clause-request c = IfOk-weaker c.ask_next.result _ _ (λ asked so. so.request) c.ask_next.ensures.so

pub returns-clause-window : goal.returns-clause-window
returns-clause-window c = IfOk-weaker c.ask_next.result _ _ (λ asked so. so.window) c.ask_next.ensures.so

pub returns-clause-starts : goal.returns-clause-starts
returns-clause-starts c = IfOk-weaker c.ask_next.result _ _ (λ asked so. so.starts) c.ask_next.ensures.so

pub returns-clause-heard : goal.returns-clause-heard
returns-clause-heard c = IfOk-weaker c.ask_next.result _ _ (λ asked so. so.heard) c.ask_next.ensures.so
