use Rattle.std.proofs.Common.{true, false, refl}
use Rattle.px_link.specs.Net.{address_of}
use Rattle.px_proxyproto.specs.Meeting.{source_in}
use Rattle.px_run.proofs.Texts.{within_begun, within_as}
use Rattle.px_run.proofs.Stories.{goes_begins, served_many, served_none}
use Rattle.px_run.specs.Connection.{◌∘◌}
use Rattle.px_run.proofs.running.run.Goals as goal

pub rounds-requires-clause-goes : goal.rounds-requires-clause-goes
rounds-requires-clause-goes g c =
    let cfg = c.requires.fresh.0 in
    (cfg, g.N.Net.seen c.args.net.now, g.K.Sink.faults c.args.out.now, g.K.Sink.written c.args.out.now, (goes_begins (g.C.Machine.meaning ∘ g.C.ResetsFor.for_peer cfg ∘ source_in) (g.C.Machine.stands ∘ g.C.ResetsFor.for_peer cfg ∘ source_in) g.C.Machine.seen g.C.Machine.sound g.C.Machine.rested g.L.Link.seen g.L.Link.wrote g.L.HasPair.tells c.args.plan.now.accepts_header c.args.plan.now.logs c.args.plan.now.opening g.N.Net.seen (address_of c.args.plan.now.to.now) (g.N.Net.seen c.args.net.now) (g.K.Sink.faults c.args.out.now) (g.K.Sink.written c.args.out.now) (g.N.Net.seen c.watch_listener.new.net) c.watch_listener.ensures.seen c.args.sets.items _ c.in-Ok-boxed.ensures c.in-Ok.ensures.none refl refl c.requires.ready c.requires.fresh.1))

pub leave_all-requires-clause-goes : goal.leave_all-requires-clause-goes
leave_all-requires-clause-goes g c =
    let cfg = c.requires.fresh.0 in (
      cfg,
      c.args.plan.now.accepts_header,
      c.args.plan.now.logs,
      c.args.plan.now.opening,
      (address_of c.args.plan.now.to.now),
      _,
      _,
      g.N.Net.seen c.args.net.now,
      g.K.Sink.faults c.args.out.now,
      g.K.Sink.faults c.rounds.new.out,
      g.K.Sink.written c.args.out.now,
      g.K.Sink.written c.rounds.new.out,
      c.in-Err-rounds.ensures.goes cfg (g.N.Net.seen c.args.net.now) (g.K.Sink.faults c.args.out.now) (g.K.Sink.written c.args.out.now) (goes_begins (g.C.Machine.meaning ∘ g.C.ResetsFor.for_peer cfg ∘ source_in) (g.C.Machine.stands ∘ g.C.ResetsFor.for_peer cfg ∘ source_in) g.C.Machine.seen g.C.Machine.sound g.C.Machine.rested g.L.Link.seen g.L.Link.wrote g.L.HasPair.tells c.args.plan.now.accepts_header c.args.plan.now.logs c.args.plan.now.opening g.N.Net.seen (address_of c.args.plan.now.to.now) (g.N.Net.seen c.args.net.now) (g.K.Sink.faults c.args.out.now) (g.K.Sink.written c.args.out.now) (g.N.Net.seen c.watch_listener.new.net) c.watch_listener.ensures.seen c.args.sets.items _ c.in-Ok-boxed.ensures c.in-Ok.ensures.none refl refl c.requires.ready c.requires.fresh.1),
    )

pub returns-in-Err-clause-served : goal.returns-in-Err-clause-served
returns-in-Err-clause-served g c = λ cfg f. served_none (g.C.Machine.meaning ∘ g.C.ResetsFor.for_peer cfg ∘ source_in) (g.C.Machine.stands ∘ g.C.ResetsFor.for_peer cfg ∘ source_in) g.C.Machine.seen g.C.Machine.sound g.C.Machine.rested g.L.Link.seen g.L.Link.wrote g.L.HasPair.tells c.args.plan.now.accepts_header c.args.plan.now.logs c.args.plan.now.opening g.N.Net.seen (address_of c.args.plan.now.to.now) (g.N.Net.seen c.args.net.now) (g.K.Sink.faults c.args.out.now) (g.K.Sink.written c.args.out.now) c.args.plan.now.connections _

pub returns-in-Err-boxed-clause-served : goal.returns-in-Err-boxed-clause-served
returns-in-Err-boxed-clause-served g c = λ cfg f. served_none (g.C.Machine.meaning ∘ g.C.ResetsFor.for_peer cfg ∘ source_in) (g.C.Machine.stands ∘ g.C.ResetsFor.for_peer cfg ∘ source_in) g.C.Machine.seen g.C.Machine.sound g.C.Machine.rested g.L.Link.seen g.L.Link.wrote g.L.HasPair.tells c.args.plan.now.accepts_header c.args.plan.now.logs c.args.plan.now.opening g.N.Net.seen (address_of c.args.plan.now.to.now) (g.N.Net.seen c.args.net.now) (g.K.Sink.faults c.args.out.now) (g.K.Sink.written c.args.out.now) c.args.plan.now.connections _

pub returns-in-Ok-rounds-clause-served : goal.returns-in-Ok-rounds-clause-served
returns-in-Ok-rounds-clause-served g c = λ cfg f.
    served_many (g.C.Machine.meaning ∘ g.C.ResetsFor.for_peer cfg ∘ source_in) (g.C.Machine.stands ∘ g.C.ResetsFor.for_peer cfg ∘ source_in) g.C.Machine.seen g.C.Machine.sound g.C.Machine.rested g.L.Link.seen g.L.Link.wrote g.L.HasPair.tells c.args.plan.now.accepts_header c.args.plan.now.logs c.args.plan.now.opening g.N.Net.seen (address_of c.args.plan.now.to.now) (g.N.Net.seen c.args.net.now) (g.K.Sink.faults c.args.out.now) (g.K.Sink.written c.args.out.now) true true (g.N.Net.seen c.rounds.new.net) (g.K.Sink.faults c.rounds.new.out) (g.K.Sink.written c.rounds.new.out) c.rounds.new.hall c.args.plan.now.connections _ c.in-Ok-rounds.ensures.empty refl refl _
    (within_begun c.args.plan.now.connections 0 c.rounds.new.hall.accepted refl c.rounds.ensures.within) c.in-Ok-rounds.ensures.all
    (c.in-Ok-rounds.ensures.goes cfg (g.N.Net.seen c.args.net.now) (g.K.Sink.faults c.args.out.now) (g.K.Sink.written c.args.out.now) (goes_begins (g.C.Machine.meaning ∘ g.C.ResetsFor.for_peer cfg ∘ source_in) (g.C.Machine.stands ∘ g.C.ResetsFor.for_peer cfg ∘ source_in) g.C.Machine.seen g.C.Machine.sound g.C.Machine.rested g.L.Link.seen g.L.Link.wrote g.L.HasPair.tells c.args.plan.now.accepts_header c.args.plan.now.logs c.args.plan.now.opening g.N.Net.seen (address_of c.args.plan.now.to.now) (g.N.Net.seen c.args.net.now) (g.K.Sink.faults c.args.out.now) (g.K.Sink.written c.args.out.now) (g.N.Net.seen c.watch_listener.new.net) c.watch_listener.ensures.seen c.args.sets.items _ c.in-Ok-boxed.ensures c.in-Ok.ensures.none refl refl c.requires.ready f))

pub returns-clause-served : goal.returns-clause-served
returns-clause-served g c = λ cfg f.
    served_many (g.C.Machine.meaning ∘ g.C.ResetsFor.for_peer cfg ∘ source_in) (g.C.Machine.stands ∘ g.C.ResetsFor.for_peer cfg ∘ source_in) g.C.Machine.seen g.C.Machine.sound g.C.Machine.rested g.L.Link.seen g.L.Link.wrote g.L.HasPair.tells c.args.plan.now.accepts_header c.args.plan.now.logs c.args.plan.now.opening g.N.Net.seen (address_of c.args.plan.now.to.now) (g.N.Net.seen c.args.net.now) (g.K.Sink.faults c.args.out.now) (g.K.Sink.written c.args.out.now) false _ (g.N.Net.seen c.leave_all.new.net) (g.K.Sink.faults c.rounds.new.out) (g.K.Sink.written c.rounds.new.out) c.leave_all.new.hall c.args.plan.now.connections _ c.leave_all.ensures.none refl tt _
    (within_as c.args.plan.now.connections c.rounds.new.hall.accepted c.leave_all.new.hall.accepted c.leave_all.ensures.accepted (within_begun c.args.plan.now.connections 0 c.rounds.new.hall.accepted refl c.rounds.ensures.within)) tt
    (c.leave_all.ensures.goes cfg c.args.plan.now.accepts_header c.args.plan.now.logs c.args.plan.now.opening (address_of c.args.plan.now.to.now) _ _ (g.N.Net.seen c.args.net.now) (g.K.Sink.faults c.args.out.now) (g.K.Sink.faults c.rounds.new.out) (g.K.Sink.written c.args.out.now) (g.K.Sink.written c.rounds.new.out)
    (c.in-Err-rounds.ensures.goes cfg (g.N.Net.seen c.args.net.now) (g.K.Sink.faults c.args.out.now) (g.K.Sink.written c.args.out.now) (goes_begins (g.C.Machine.meaning ∘ g.C.ResetsFor.for_peer cfg ∘ source_in) (g.C.Machine.stands ∘ g.C.ResetsFor.for_peer cfg ∘ source_in) g.C.Machine.seen g.C.Machine.sound g.C.Machine.rested g.L.Link.seen g.L.Link.wrote g.L.HasPair.tells c.args.plan.now.accepts_header c.args.plan.now.logs c.args.plan.now.opening g.N.Net.seen (address_of c.args.plan.now.to.now) (g.N.Net.seen c.args.net.now) (g.K.Sink.faults c.args.out.now) (g.K.Sink.written c.args.out.now) (g.N.Net.seen c.watch_listener.new.net) c.watch_listener.ensures.seen c.args.sets.items _ c.in-Ok-boxed.ensures c.in-Ok.ensures.none refl refl c.requires.ready f)))
