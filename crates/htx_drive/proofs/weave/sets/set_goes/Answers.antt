use Rattle.std.proofs.Common.{◌∙◌, ℕ}
use Rattle.session_core.specs.History.{Past}
use Rattle.px_pool.specs.Seats.{core_of}
use Rattle.htx_drive.specs.Weave.State.{IsReady, IsFresh}
use Rattle.htx_drive.proofs.WeaveLemmas.Seating.{free_kept, some_of, keeps_on, keeps_spent, has_done}
use Rattle.htx_drive.proofs.WeaveLemmas.Places.{ended_of, some_has}
use Rattle.htx_drive.proofs.weave.sets.set_goes.Goals as goal

pub returns-in-Ok-On-clause-others : goal.returns-in-Ok-On-clause-others
returns-in-Ok-On-clause-others g c = λ other h. c.core.ensures.others c.goes.new.core other h

pub returns-in-Ok-Ended-clause-others : goal.returns-in-Ok-Ended-clause-others
returns-in-Ok-Ended-clause-others g c = λ other h. c.give.ensures.others other h ∙ c.core.ensures.others c.goes.new.core other h

pub returns-in-Ok-Spent-clause-others : goal.returns-in-Ok-Spent-clause-others
returns-in-Ok-Spent-clause-others g c = λ other h. c.core.ensures.others c.goes.new.core other h

pub returns-in-Err-clause-others : goal.returns-in-Err-clause-others
returns-in-Err-clause-others g c = λ other h. c.core.ensures.others c.goes.new.core other h

pub returns-in-Ok-On-clause-keeps : goal.returns-in-Ok-On-clause-keeps
returns-in-Ok-On-clause-keeps g c =
    keeps_on g.C.Machine.seen g.C.Machine.sound _ _ _ _ c.goes.new.core c.in-Ok-On.field-0 c.in-Ok-On.field-0-is (c.core.ensures.put c.goes.new.core) c.in-Ok-On.ensures.sound c.in-Ok-On.ensures.on

pub returns-in-Ok-Spent-clause-keeps : goal.returns-in-Ok-Spent-clause-keeps
returns-in-Ok-Spent-clause-keeps g c =
    keeps_spent g.C.Machine.seen g.C.Machine.sound _ _ _ _ c.goes.new.core c.in-Ok-Spent.field-0 c.in-Ok-Spent.field-0-is (c.core.ensures.put c.goes.new.core) c.in-Ok-Spent.ensures.sound c.in-Ok-Spent.ensures.on

pub returns-in-Ok-Ended-clause-keeps : goal.returns-in-Ok-Ended-clause-keeps
returns-in-Ok-Ended-clause-keeps g c =
    has_done (g.C.Machine.seen c.goes.new.core).serving _ _ _ _ c.in-Ok-Ended.field-0 c.in-Ok-Ended.field-0-is c.give.ensures.none c.in-Ok-Ended.ensures.on

pub returns-in-Ok-On-clause-ready : goal.returns-in-Ok-On-clause-ready
returns-in-Ok-On-clause-ready g c = λ all. free_kept (IsReady g.C.Machine.seen g.C.Machine.sound) _ _ (c.core.ensures.free c.goes.new.core) all

pub returns-in-Ok-Spent-clause-ready : goal.returns-in-Ok-Spent-clause-ready
returns-in-Ok-Spent-clause-ready g c = λ all. free_kept (IsReady g.C.Machine.seen g.C.Machine.sound) _ _ (c.core.ensures.free c.goes.new.core) all

pub returns-in-Ok-Ended-clause-ready : goal.returns-in-Ok-Ended-clause-ready
returns-in-Ok-Ended-clause-ready g c = λ all. c.give.ensures.ready (free_kept (IsReady g.C.Machine.seen g.C.Machine.sound) _ _ (c.core.ensures.free c.goes.new.core) all)

pub returns-in-Ok-On-clause-fresh : goal.returns-in-Ok-On-clause-fresh
returns-in-Ok-On-clause-fresh g c = λ cfg all ahead total first first_net e h free. free_kept (IsFresh (g.C.Machine.stands cfg)) _ _ (c.core.ensures.free c.goes.new.core) free

pub returns-in-Ok-Spent-clause-fresh : goal.returns-in-Ok-Spent-clause-fresh
returns-in-Ok-Spent-clause-fresh g c = λ cfg all ahead total first first_net e h free. free_kept (IsFresh (g.C.Machine.stands cfg)) _ _ (c.core.ensures.free c.goes.new.core) free

pub returns-in-Ok-Ended-clause-fresh : goal.returns-in-Ok-Ended-clause-fresh
returns-in-Ok-Ended-clause-fresh g c = λ cfg all ahead total first first_net e h free.
    let k = ended_of ℕ _ _ _ _ c.in-Ok-Ended.field-0 c.in-Ok-Ended.field-0-is (c.in-Ok-Ended.ensures.goes cfg all ahead total first first_net e (some_of _ (core_of c.args.number c.args.pool.now) c.core.result.now c.core.ensures.value h)) in
    c.give.ensures.fresh cfg (some_has (λ core. (past : Past) × g.C.Machine.stands cfg core past) _ c.goes.new.core (c.core.ensures.put c.goes.new.core) k.1) (free_kept (IsFresh (g.C.Machine.stands cfg)) _ _ (c.core.ensures.free c.goes.new.core) free)

pub returns-in-Err-clause-goes : goal.returns-in-Err-clause-goes
returns-in-Err-clause-goes g c = λ cfg all ahead total first first_net e h.
    (c.goes.new.core, c.in-Err.ensures.goes cfg all ahead total first first_net e (some_of _ (core_of c.args.number c.args.pool.now) c.core.result.now c.core.ensures.value h))
