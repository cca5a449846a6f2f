use Rattle.std.proofs.Common.{◌≤◌, ℕ, List, Option, true}
use Rattle.std.specs.Prelude.{IfSome}
use Rattle.px_link.specs.Net.{address_of, NetSeen}
use Rattle.px_proxyproto.specs.Meeting.{source_in}
use Rattle.px_run.specs.Hall.{Goes, IsSameNet, IsBalanced}
use Rattle.px_run.specs.Connection.{◌∘◌}
use Rattle.px_run.proofs.running.rounds.Given as goal

abbrev pub invariant-loop : goal.invariant-loop
invariant-loop g l =
    record {
      goes : (cfg : g.row.C-Settings.Denot) (begun : NetSeen) (writes : ℕ) (before : Option (List ℕ)) → Goes (g.C.Machine.meaning ∘ g.C.ResetsFor.for_peer cfg ∘ source_in) (g.C.Machine.stands ∘ g.C.ResetsFor.for_peer cfg ∘ source_in) g.C.Machine.seen g.C.Machine.sound g.C.Machine.rested g.L.Link.seen g.L.Link.wrote g.L.HasPair.tells l.plan.accepts_header l.plan.logs l.plan.opening g.N.Net.seen (address_of l.plan.to.now) true true begun (g.N.Net.seen l.initial.net) writes (g.K.Sink.faults l.initial.out) before (g.K.Sink.written l.initial.out) l.initial.hall
          → Goes (g.C.Machine.meaning ∘ g.C.ResetsFor.for_peer cfg ∘ source_in) (g.C.Machine.stands ∘ g.C.ResetsFor.for_peer cfg ∘ source_in) g.C.Machine.seen g.C.Machine.sound g.C.Machine.rested g.L.Link.seen g.L.Link.wrote g.L.HasPair.tells l.plan.accepts_header l.plan.logs l.plan.opening g.N.Net.seen (address_of l.plan.to.now) true true begun (g.N.Net.seen l.net) writes (g.K.Sink.faults l.out) before (g.K.Sink.written l.out) l.hall;
      within : IfSome l.plan.connections (λ (count : ℕ). l.initial.hall.accepted ≤ count → l.hall.accepted ≤ count);
      balanced : IsBalanced (g.N.Net.seen l.initial.net) (g.N.Net.seen l.net) l.initial.hall.places.items l.hall.places.items;
      net : IsSameNet (g.N.Net.seen l.initial.net) (g.N.Net.seen l.net);
    }
