use Rattle.std.proofs.Common.{sym, subst}
use Rattle.htx_drive.specs.Weave.State.{IsReady}
use Rattle.px_proxyproto.specs.Meeting.{source_in}
use Rattle.px_run.specs.Course.{StandsSomehow}
use Rattle.px_run.specs.Connection.{◌∘◌, IsFreshFor}
use Rattle.px_run.proofs.Sets.{all_pushed}
use Rattle.px_run.proofs.connection.give_set.Goals as goal

pub returns-clause-ready : goal.returns-clause-ready
returns-clause-ready g c =
    all_pushed (IsReady g.C.Machine.seen g.C.Machine.sound) _ c.args.sets.now.items c.push.new.self.items c.reset.new.self c.push.ensures.items c.requires.ready (c.reset.ensures.sound, c.reset.ensures.idle)

pub returns-clause-fresh : goal.returns-clause-fresh
returns-clause-fresh g c = λ cfg pair s h.
    let lent = subst (λ core. StandsSomehow (g.C.Machine.stands (g.C.ResetsFor.for_peer cfg (source_in pair))) core) (sym c.core.ensures.value) s in
    all_pushed (IsFreshFor (g.C.Machine.stands ∘ g.C.ResetsFor.for_peer cfg ∘ source_in)) _ c.args.sets.now.items c.push.new.self.items c.reset.new.self c.push.ensures.items h (pair, c.reset.ensures.stands (g.C.ResetsFor.for_peer cfg (source_in pair)) lent.0 lent.1)
