use Rattle.std.proofs.Common.{rules, ◌≡◌, None, true, false}
use Rattle.px_proxyproto.specs.Meeting.{source_in}
use Rattle.px_run.specs.Callers.{pair_of, is_greeted}
use Rattle.px_run.proofs.Leaves.{lent_at, left_at}
use Rattle.px_run.proofs.Callers.{came_back, left_greeted, served_of, left_served}
use Rattle.px_run.specs.Connection.{◌∘◌}
use Rattle.px_run.proofs.running.give_up.Goals as goal

pub abandon-requires : goal.abandon-requires
abandon-requires g c =
    let q = c.requires.at in
    let none : c.args.conn.now.ran ≡ None = search rules in
    let met : is_greeted c.args.caller.now ≡ false = search rules in
    let s = served_of (g.C.Machine.meaning ∘ g.C.ResetsFor.for_peer q.0 ∘ source_in) (g.C.Machine.stands ∘ g.C.ResetsFor.for_peer q.0 ∘ source_in) g.C.Machine.seen g.C.Machine.sound g.C.Machine.rested g.L.Link.seen g.L.Link.wrote g.L.HasPair.tells q.1 q.2 g.N.Net.seen q.4 q.3 (g.N.Net.seen q.5) c.args.caller.now c.args.conn.now.client c.args.conn.now.server (g.N.Net.seen c.args.conn.now.net) c.args.conn.now.ran q.6 none met q.7 in
    record { lent = lent_at (g.C.Machine.meaning (g.C.ResetsFor.for_peer q.0 (source_in (pair_of c.args.caller.now)))) (g.C.Machine.stands (g.C.ResetsFor.for_peer q.0 (source_in (pair_of c.args.caller.now)))) g.C.Machine.seen g.C.Machine.sound g.C.Machine.rested g.L.Link.seen g.L.Link.wrote q.3 s.begins c.args.conn.now.client c.args.conn.now.server (g.N.Net.seen s.own) (g.N.Net.seen c.args.conn.now.net) c.args.conn.now.ran q.6 none s.at }

pub returns : goal.returns
returns g c = record {
  left = λ cfg accepts_header opening to first first_net held h.
      let none : c.args.conn.now.ran ≡ None = search rules in
      let met : is_greeted c.args.caller.now ≡ false = search rules in
      let own = g.C.ResetsFor.for_peer cfg (source_in (pair_of c.args.caller.now)) in
      left_served (g.C.Machine.meaning ∘ g.C.ResetsFor.for_peer cfg ∘ source_in) (g.C.Machine.stands ∘ g.C.ResetsFor.for_peer cfg ∘ source_in) g.C.Machine.seen g.C.Machine.sound g.C.Machine.rested g.L.Link.seen g.L.Link.wrote g.L.HasPair.tells accepts_header opening g.N.Net.seen first to (g.N.Net.seen first_net) c.args.caller.now c.args.conn.now.client c.abandon.new.conn.client c.args.conn.now.server (g.N.Net.seen c.args.conn.now.net) (g.N.Net.seen c.abandon.new.conn.net) c.args.conn.now.ran held none met
      (λ begins net at. left_at (g.C.Machine.meaning own) (g.C.Machine.stands own) g.C.Machine.seen g.C.Machine.sound g.C.Machine.rested g.L.Link.seen g.L.Link.wrote to begins c.args.conn.now.client c.abandon.new.conn.client c.args.conn.now.server c.abandon.new.conn.server (g.N.Net.seen net) (g.N.Net.seen c.args.conn.now.net) (g.N.Net.seen c.abandon.new.conn.net) c.args.conn.now.ran held none
      (λ turns count k. c.abandon.ensures.left own turns count begins to net k) (λ turns count k. c.abandon.ensures.left own turns count c.args.conn.now.client to c.args.conn.now.net k) at) h;
}

pub returns-then-is_greeted : goal.returns-then-is_greeted
returns-then-is_greeted g c = record {
  left = λ cfg accepts_header opening to first first_net held h.
      let greeted : is_greeted c.args.caller.now ≡ true = search rules in
      left_greeted (g.C.Machine.meaning ∘ g.C.ResetsFor.for_peer cfg ∘ source_in) (g.C.Machine.stands ∘ g.C.ResetsFor.for_peer cfg ∘ source_in) g.C.Machine.seen g.C.Machine.sound g.C.Machine.rested g.L.Link.seen g.L.Link.wrote g.L.HasPair.tells accepts_header opening g.N.Net.seen first to (g.N.Net.seen first_net) c.args.caller.now c.args.conn.now.client _ c.args.conn.now.server (g.N.Net.seen c.args.conn.now.net) c.args.conn.now.ran held greeted c.close.ensures.seen c.close.ensures.wrote h;
}

pub returns-then-is_some : goal.returns-then-is_some
returns-then-is_some g c = record {
  left = λ cfg accepts_header opening to first first_net held h.
      came_back (g.C.Machine.meaning ∘ g.C.ResetsFor.for_peer cfg ∘ source_in) (g.C.Machine.stands ∘ g.C.ResetsFor.for_peer cfg ∘ source_in) g.C.Machine.seen g.C.Machine.sound g.C.Machine.rested g.L.Link.seen g.L.Link.wrote g.L.HasPair.tells accepts_header opening g.N.Net.seen first to (g.N.Net.seen first_net) c.args.caller.now c.args.conn.now.client c.args.conn.now.server (g.N.Net.seen c.args.conn.now.net) c.args.conn.now.ran held (search rules) h;
}
