use Rattle.std.proofs.Common.{ℕ, List, subst}
use Rattle.px_proxyproto.specs.Reading.{StandsInFront}
use Rattle.px_proxyproto.specs.declared.front.Front.TheVariants as fronts
use Rattle.rec_format.specs.Read.{visit}
use Rattle.proxy_sessions.proofs.Callers.{heard}
use Rattle.proxy_sessions.proofs.replaying.replay_greeted.Goals as goal

pub returns-in-Header : goal.returns-in-Header
returns-in-Header c =
    let conn = c.args.conn.now in
    let stands : StandsInFront (fronts.Header c.in-Header.len c.in-Header.pair) conn.client.bytes =
    subst (λ (bytes : List ℕ). StandsInFront (fronts.Header c.in-Header.len c.in-Header.pair) bytes) c.as_slice.ensures c.in-Header.ensures in
    heard c.args.config.now c.args.turns.items (visit conn) c.in-Header.len c.in-Header.pair c.caller_of.result.peer c.caller_of.result.heading c.replay_behind.result stands c.caller_of.ensures.peer c.caller_of.ensures.heading c.replay_behind.ensures
