use Rattle.rec_format.specs.Read.{visit}
use Rattle.http_rules.specs.declared.config.Config.{Config}
use Rattle.proxy_sessions.proofs.Callers.{behind_is}
use Rattle.proxy_sessions.proofs.replaying.replay_behind.Goals as goal

pub returns : goal.returns
returns c =
    let told : Config = record c.args.config.now { peer = c.args.caller.peer } in
    let client = c.in_ok-client.ensures in
    behind_is c.args.config.now.application c.args.caller.heading told c.args.turns.items c.args.conn.now c.args.len c.in_ok-client.client c.deref.result.now c.replay_for-replayed.result client.bytes client.ending c.deref.ensures.value c.replay_for-replayed.ensures
