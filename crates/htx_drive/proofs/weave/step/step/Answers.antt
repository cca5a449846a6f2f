use Rattle.std.proofs.Common.{rules, ◌≡◌, None, Some}
use Rattle.htx_drive.proofs.WeaveLemmas.Moving.{at_server}
use Rattle.htx_drive.proofs.weave.step.step.Goals as goal

pub returns-in-Err-clause-goes : goal.returns-in-Err-clause-goes
returns-in-Err-clause-goes g c = λ cfg all ahead count first first_net e r.
    let s : c.args.conn.now.server ≡ None = search rules in
    c.in-Err.ensures.goes cfg all ahead count first first_net e (at_server _ g.L.Link.seen g.L.Link.wrote first _ c.args.conn.now.server None _ _ _ count s r)

pub returns-in-Err-step_open-clause-goes : goal.returns-in-Err-step_open-clause-goes
returns-in-Err-step_open-clause-goes g c = λ cfg all ahead count first first_net e r.
    let s : c.args.conn.now.server ≡ Some c.in-Some.link = search rules in
    c.in-Err-step_open.ensures.goes cfg all ahead count first _ first_net e (at_server _ g.L.Link.seen g.L.Link.wrote first _ c.args.conn.now.server (Some c.in-Some.link) _ _ _ count s r)
