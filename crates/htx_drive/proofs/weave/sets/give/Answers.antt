use Rattle.std.proofs.Common.{◌+◌, ◌∙◌, length, ap}
use Rattle.session_core.specs.History.{Past}
use Rattle.px_pool.specs.Owners.{count_out}
use Rattle.px_pool.specs.Seats.{core_of, free_of}
use Rattle.htx_drive.proofs.WeaveLemmas.Seating.{reset_free, some_of}
use Rattle.htx_drive.specs.Weave.State.{IsReady, IsFresh}
use Rattle.htx_drive.proofs.weave.sets.give.Goals as goal

pub returns-clause-others : goal.returns-clause-others
returns-clause-others g c = λ other h. c.release.ensures.others other h ∙ c.core.ensures.others c.reset.new.self other h

pub returns-clause-sets : goal.returns-clause-sets
returns-clause-sets g c = c.release.ensures.sets ∙ ap (λ l. length l + count_out c.args.pool.now.owners) (c.core.ensures.free c.reset.new.self)

pub returns-clause-ready : goal.returns-clause-ready
returns-clause-ready g c = λ all.
    reset_free (IsReady g.C.Machine.seen g.C.Machine.sound) _ (free_of c.args.pool.now) _ (free_of c.release.new.self) c.reset.new.self (c.core.ensures.put c.reset.new.self) c.release.ensures.free (c.core.ensures.free c.reset.new.self) (c.reset.ensures.sound, c.reset.ensures.idle) all

pub returns-clause-fresh : goal.returns-clause-fresh
returns-clause-fresh g c = λ cfg used all.
    let s = some_of (λ core. (past : Past) × g.C.Machine.stands cfg core past) (core_of c.args.number c.args.pool.now) c.core.result.now c.core.ensures.value used in
    reset_free (IsFresh (g.C.Machine.stands cfg)) _ (free_of c.args.pool.now) _ (free_of c.release.new.self) c.reset.new.self (c.core.ensures.put c.reset.new.self) c.release.ensures.free (c.core.ensures.free c.reset.new.self) (c.reset.ensures.stands cfg s.0 s.1) all
