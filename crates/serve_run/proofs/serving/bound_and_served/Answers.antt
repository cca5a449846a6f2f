use Rattle.serve_run.proofs.Endings.{net_behind, bind_breaks}
use Rattle.serve_run.proofs.serving.bound_and_served.Goals as goal

pub returns-in-Ok-clause-net : goal.returns-in-Ok-clause-net
returns-in-Ok-clause-net g c = λ e.
    let n = c.connections.ensures.net e in
    net_behind _ _ _ _ _ c.bind.new.self _ _ _ c.in-Ok.ensures.binds (c.connections.ensures.rose e) n.0 n.1 n.2 n.3 n.4 n.5

pub returns-in-Err-Failed-clause-front : goal.returns-in-Err-Failed-clause-front
returns-in-Err-Failed-clause-front g c =
    let b = rw c.in-Err-Failed.field-0-is at c.in-Err-Failed.ensures.binds in
    bind_breaks _ _ _ _ _ _ _ _ b
