use Rattle.case_sessions.proofs.interleaved.cores.SharedCoresCoresCoreDirections.core.Goals as goal

pub returns-clause-stands : goal.returns-clause-stands
returns-clause-stands c =
    let d = c.in_ok-directions.ensures in
    let cfg = c.args.self.now.config.now in
    c.new-2.ensures.stands (cfg, cfg.limits.bufsize) d.stands.0 (record { directions = d.stands.1; windows = d.windows }) d.stands.2
