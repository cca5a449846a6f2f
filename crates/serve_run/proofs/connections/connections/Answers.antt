use Rattle.std.proofs.Common.{rules, ◌∙◌}
use Rattle.serve_run.specs.Served.{LostOne, ServedOne}
use Rattle.serve_run.proofs.Chain.{leaves_then}
use Rattle.serve_run.proofs.Rounds.{round_more, round_broken}
use Rattle.serve_run.proofs.connections.connections.Goals as goal

pub returns-in-Err-clause-front : goal.returns-in-Err-clause-front
returns-in-Err-clause-front g c =
    let same = c.loop-served.invariant.settings in
    let settings = g.S.Sessions.settings c.args.sessions.now in
    let front = rw same at c.in-Err.ensures.front in
    round_broken g.N.Net.seen (ServedOne g.N.Link.Link.seen g.N.Link.Link.wrote g.N.Net.seen (g.S.Sessions.session settings) (g.S.Sessions.to settings))
    (LostOne g.N.Link.Link.seen g.N.Link.Link.wrote g.N.Net.seen (g.S.Sessions.session settings) (g.S.Sessions.to settings)) c.args.net.now c.loop-served.net c.serve_one.new.net c.loop-served.served c.args.count _ _ _ (search rules) c.loop-served.invariant.served front

pub returns-in-Err-clause-leaves : goal.returns-in-Err-clause-leaves
returns-in-Err-clause-leaves g c =
    let same = c.loop-served.invariant.settings in
    leaves_then _ _ _ _ c.loop-served.invariant.leaves (rw same at c.in-Err.ensures.leaves)

pub loop-served-preserved : goal.loop-served-preserved
loop-served-preserved g c =
    let same = c.loop-served.invariant.settings in
    let ok = rw same at c.in-Ok.ensures.ok in
    record {
      served = round_more _ c.args.net.now c.loop-served.net c.serve_one.new.net c.loop-served.served _ _ _ c.loop-served.invariant.served ok.0 ok.1 ok.2;
      quiet = c.in-Ok.ensures.quiet ∙ c.loop-served.invariant.quiet;
      binds = c.in-Ok.ensures.binds ∙ c.loop-served.invariant.binds;
      leaves = leaves_then _ _ _ _ c.loop-served.invariant.leaves (rw same at c.in-Ok.ensures.leaves);
      settings = c.in-Ok.ensures.settings ∙ same;
    }
