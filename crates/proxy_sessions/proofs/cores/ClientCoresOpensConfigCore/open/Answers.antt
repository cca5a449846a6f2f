use Rattle.proxy_sessions.proofs.cores.ClientCoresOpensConfigCore.open.Goals as goal

pub returns-in-Ok-clause-stands : goal.returns-in-Ok-clause-stands
returns-in-Ok-clause-stands c =
    let used = c.in-Ok.ensures.used in
    c.reset_for.ensures.stands (c.args.self.now, c.args.self.now.limits.bufsize) used.peer used.past used.stands
