use Rattle.std.proofs.Common.{◌≡◌, ◌+◌, ◌++◌, ◌∷◌, [], List, Option, length, length-append, refl, ap, ◌∙◌, arith}
use Rattle.std.specs.Prelude.{option_to_list}
use Rattle.px_proxyproto.specs.Meeting.{source_in}
use Rattle.px_run.specs.declared.connection.Connection.{Connection}
use Rattle.px_run.proofs.Halls.{same_net, same_net_then, taken_popped}
use Rattle.px_run.proofs.Stays.{placed_last}
use Rattle.px_run.proofs.Stories.{goes_left, goes_unfair}
use Rattle.px_run.specs.Connection.{◌∘◌}
use Rattle.px_run.proofs.running.leave_all.Goals as goal

pub leave-requires-clause-placed : goal.leave-requires-clause-placed
leave-requires-clause-placed g c =
    let q = c.requires.goes in
    let cfg = q.0 in
    let h = c.loop-left.invariant.goes cfg q.1 q.2 q.3 q.4 q.5 q.6 q.7 q.8 q.9 q.10 q.11 q.12 in
    (cfg, q.1, q.3, q.4, h.visits, placed_last (g.C.Machine.meaning ∘ g.C.ResetsFor.for_peer cfg ∘ source_in) (g.C.Machine.stands ∘ g.C.ResetsFor.for_peer cfg ∘ source_in) g.C.Machine.seen g.C.Machine.sound g.C.Machine.rested g.L.Link.seen g.L.Link.wrote g.L.HasPair.tells q.1 q.3 g.N.Net.seen q.4 h.visits c.loop-left.hall.places.items c.pop.new.self.items c.loop-left.hall.sets.items c.pop.result c.in-Some.at c.in-Some.is c.pop.ensures.items h.all)

pub loop-left-init : goal.loop-left-init
loop-left-init g c =
    record {
      goes = λ cfg accepts_header logs opening to fair whole begun writes writes_now before after h. goes_unfair (g.C.Machine.meaning ∘ g.C.ResetsFor.for_peer cfg ∘ source_in) (g.C.Machine.stands ∘ g.C.ResetsFor.for_peer cfg ∘ source_in) g.C.Machine.seen g.C.Machine.sound g.C.Machine.rested g.L.Link.seen g.L.Link.wrote g.L.HasPair.tells accepts_header logs opening g.N.Net.seen to begun writes before fair whole (g.N.Net.seen c.args.net.now) writes_now after c.args.hall.now h;
      accepted = refl;
      balanced = refl;
      lent = c.requires.lent;
      net = same_net (g.N.Net.seen c.args.net.now);
      len = omega arith;
    }

pub loop-left-preserved : goal.loop-left-preserved
loop-left-preserved g c =
    let all : c.loop-left.hall.places.items ≡ c.pop.new.self.items ++ c.in-Some.at ∷ [] = c.pop.ensures.items ∙ ap (λ o. c.pop.new.self.items ++ option_to_list o) c.in-Some.is in
    let i = c.loop-left.invariant in
    let l = c.leave.ensures in
    let t = taken_popped c.loop-left.hall.places.items c.pop.new.self.items c.pop.result c.in-Some.at c.in-Some.is c.pop.ensures.items in
    let many : length c.loop-left.hall.places.items ≡ length c.pop.new.self.items + 1 = ap (λ (x : List (Option (Connection g.row.C.Denot g.row.L.Denot g.row.N.Denot))). length x) all ∙ length-append c.pop.new.self.items (c.in-Some.at ∷ []) in
    record {
      goes = λ cfg accepts_header logs opening to fair whole begun writes writes_now before after h.
          goes_left (g.C.Machine.meaning ∘ g.C.ResetsFor.for_peer cfg ∘ source_in) (g.C.Machine.stands ∘ g.C.ResetsFor.for_peer cfg ∘ source_in) g.C.Machine.seen g.C.Machine.sound g.C.Machine.rested g.L.Link.seen g.L.Link.wrote g.L.HasPair.tells accepts_header logs opening g.N.Net.seen to begun writes before _ whole (g.N.Net.seen c.loop-left.net) (g.N.Net.seen c.leave.new.net) writes_now after c.loop-left.hall _ c.in-Some.at all refl refl refl (l.gave_up cfg accepts_header opening to) (i.goes cfg accepts_header logs opening to fair whole begun writes writes_now before after h);
      accepted = i.accepted;
      balanced = let a = i.balanced in let b = l.balanced in omega (arith, a, b, t);
      lent = let a = i.lent in let b = l.balanced in omega (arith, a, b, t);
      net = same_net_then (g.N.Net.seen c.args.net.now) (g.N.Net.seen c.loop-left.net) (g.N.Net.seen c.leave.new.net) i.net l.net;
      len = let a = i.len in omega (arith, a, many);
    }
