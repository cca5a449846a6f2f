use Rattle.std.proofs.Common.{refl}
use Rattle.htx_drive.proofs.Handing.{no_both}
use Rattle.htx_drive.proofs.Turning.{works_in}
use Rattle.htx_drive.proofs.Steps.{lost_so}
use Rattle.htx_drive.proofs.WeaveLemmas.Single.{runs_works, stops_with}
use Rattle.htx_drive.proofs.weave.single.work_part.Goals as goal

pub returns-in-Ok-Settled-clause-goes : goal.returns-in-Ok-Settled-clause-goes
returns-in-Ok-Settled-clause-goes g c = λ cfg all ahead count first to first_net r.
    let n = c.in-Ok-Settled.ensures.leads in
    runs_works _ _ g.L.Link.seen g.L.Link.wrote first _ to _ count c.args.conn.now.server _ n.0 (works_in (g.C.Machine.stands cfg) g.C.Machine.seen all ahead count 0 c.args.core.now c.work_part.new.self n.0 (n.1 cfg)) r

pub returns-in-Ok-Said-clause-goes : goal.returns-in-Ok-Said-clause-goes
returns-in-Ok-Said-clause-goes g c = λ cfg all ahead count first to first_net r.
    let n = c.in-Ok-Said.ensures.leads in
    runs_works _ _ g.L.Link.seen g.L.Link.wrote first _ to _ count c.args.conn.now.server _ n.0 (works_in (g.C.Machine.stands cfg) g.C.Machine.seen all ahead count 0 c.args.core.now c.work_part.new.self n.0 (n.1 cfg)) r

pub returns-in-Err-clause-goes : goal.returns-in-Err-clause-goes
returns-in-Err-clause-goes g c = λ cfg all ahead count first to first_net r. (
  ahead,
  stops_with _ _ g.L.Link.seen g.L.Link.wrote first _ to _ count c.args.conn.now.server _ _ c.give_back.ensures.back
      (lost_so (g.C.Machine.meaning cfg) (g.C.Machine.stands cfg) g.C.Machine.seen all ahead count c.args.core.now c.work_part.new.self (λ p s. (_, g.met.C.Machine.taken_is_a_front cfg c.args.core.now p s)) (no_both _ (c.in-Err.ensures.lost.0 refl))) r,
)
