use Rattle.std.proofs.Common.{None}
use Rattle.htx_drive.proofs.Turning.{ends_in}
use Rattle.htx_drive.proofs.WeaveLemmas.Single.{runs_works}
use Rattle.htx_drive.proofs.weave.single.end_said.Goals as goal

pub returns-clause-goes : goal.returns-clause-goes
returns-clause-goes g c = λ cfg all ahead count first to first_net r.
    runs_works _ _ g.L.Link.seen g.L.Link.wrote first _ to _ count c.args.conn.now.server _ None (ends_in (g.C.Machine.stands cfg) g.C.Machine.seen all ahead count 0 c.args.core.now c.end_said.new.self None (c.end_said.ensures.leads cfg)) r
