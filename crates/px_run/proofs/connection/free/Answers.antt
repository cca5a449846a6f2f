use Rattle.std.proofs.Common.{rules, ◌≡◌}
use Rattle.px_proxyproto.specs.Meeting.{source_in}
use Rattle.px_run.specs.Course.{StandsSomehow}
use Rattle.px_run.specs.declared.held.Held.TheVariants as helds
use Rattle.px_run.proofs.Looks.{has_it}
use Rattle.px_run.proofs.connection.free.Goals as goal

pub give_set-requires-clause-sound : goal.give_set-requires-clause-sound
give_set-requires-clause-sound g c =
    let e : c.args.core.now ≡ helds.Core c.in-Core.set = search rules in
    has_it g.C.Machine.sound c.args.core.now c.in-Core.set e c.requires.sound

pub returns-clause-fresh : goal.returns-clause-fresh
returns-clause-fresh g c = λ cfg pair s h.
    let e : c.args.core.now ≡ helds.Core c.in-Core.set = search rules in
    c.give_set.ensures.fresh cfg pair (has_it (StandsSomehow (g.C.Machine.stands (g.C.ResetsFor.for_peer cfg (source_in pair)))) c.args.core.now c.in-Core.set e s) h
