use Rattle.std.proofs.Common.{◌≡◌, ◌+◌, ◌≤◌, ℕ, List, Option, Bool, false}
use Rattle.std.specs.Prelude.{vec_len}
use Rattle.px_link.specs.Net.{Place, NetSeen}
use Rattle.px_proxyproto.specs.Meeting.{source_in}
use Rattle.px_run.specs.Hall.{Goes, count_taken, IsSameNet, IsBalanced}
use Rattle.px_run.specs.Connection.{◌∘◌}
use Rattle.px_run.proofs.running.leave_all.Given as goal
use Rattle.px_run.specs.declared.plan.Opening.{Opening}

abbrev pub invariant-loop-left : goal.invariant-loop-left
invariant-loop-left g l =
    record {
      goes : (cfg : g.row.C-Settings.Denot) (accepts_header logs : Bool) (opening : Opening) (to : Place) (fair whole : Bool) (begun : NetSeen) (writes writes_now : ℕ) (before after : Option (List ℕ)) → Goes (g.C.Machine.meaning ∘ g.C.ResetsFor.for_peer cfg ∘ source_in) (g.C.Machine.stands ∘ g.C.ResetsFor.for_peer cfg ∘ source_in) g.C.Machine.seen g.C.Machine.sound g.C.Machine.rested g.L.Link.seen g.L.Link.wrote g.L.HasPair.tells accepts_header logs opening g.N.Net.seen to fair whole begun (g.N.Net.seen l.initial.net) writes writes_now before after l.initial.hall
          → Goes (g.C.Machine.meaning ∘ g.C.ResetsFor.for_peer cfg ∘ source_in) (g.C.Machine.stands ∘ g.C.ResetsFor.for_peer cfg ∘ source_in) g.C.Machine.seen g.C.Machine.sound g.C.Machine.rested g.L.Link.seen g.L.Link.wrote g.L.HasPair.tells accepts_header logs opening g.N.Net.seen to false whole begun (g.N.Net.seen l.net) writes writes_now before after l.hall;
      accepted : l.hall.accepted ≡ l.initial.hall.accepted;
      balanced : IsBalanced (g.N.Net.seen l.initial.net) (g.N.Net.seen l.net) l.initial.hall.places.items l.hall.places.items;
      lent : count_taken l.hall.places.items ≤ (g.N.Net.seen l.net).lent;
      net : IsSameNet (g.N.Net.seen l.initial.net) (g.N.Net.seen l.net);
      len : vec_len l.hall.places + l.left ≡ vec_len l.initial.hall.places;
    }
