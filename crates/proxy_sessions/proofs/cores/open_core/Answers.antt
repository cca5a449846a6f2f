use Rattle.proxy_sessions.proofs.cores.open_core.Goals as goal

pub returns-clause-stands : goal.returns-clause-stands
returns-clause-stands c =
    let d = c.in_ok-directions.ensures in c.new-2.ensures.stands (c.args.config.now, c.args.window) d.stands.0 (record { directions = d.stands.1; windows = d.windows }) d.stands.2
