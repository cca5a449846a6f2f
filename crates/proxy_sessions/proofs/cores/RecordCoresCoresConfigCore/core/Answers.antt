use Rattle.session_core.specs.History.{nothing_yet}
use Rattle.proxy_sessions.proofs.cores.RecordCoresCoresConfigCore.core.Goals as goal

pub returns-clause-stands : goal.returns-clause-stands
returns-clause-stands c =
    let cores = c.args.self.now in
    c.reset_for.ensures.stands (cores.config.now, cores.window) cores.config.now.peer nothing_yet c.in_ok-core.ensures.stands
