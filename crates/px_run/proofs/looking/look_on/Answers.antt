use Rattle.std.proofs.Common.{rules, ◌≡◌, None, false, refl}
use Rattle.px_link.specs.Net.{address_of}
use Rattle.px_proxyproto.specs.Meeting.{source_in}
use Rattle.px_run.specs.Callers.{pair_of, is_greeted}
use Rattle.px_run.specs.Log.{IsTold, IsToldOf}
use Rattle.px_run.proofs.Logs.{logs_none, logs_as}
use Rattle.px_run.proofs.Asked.{same_server}
use Rattle.px_run.proofs.Callers.{for_asked, served_of, served_on}
use Rattle.px_run.specs.Connection.{◌∘◌}
use Rattle.px_run.proofs.looking.look_on.Goals as goal

pub serve-requires-clause-at : goal.serve-requires-clause-at
serve-requires-clause-at g c =
    let q = c.requires.at in
    let none : c.args.connection.now.conn.ran ≡ None = search rules in
    let met : is_greeted c.args.connection.now.caller ≡ false = search rules in
    let s = served_of (g.C.Machine.meaning ∘ g.C.ResetsFor.for_peer q.0 ∘ source_in) (g.C.Machine.stands ∘ g.C.ResetsFor.for_peer q.0 ∘ source_in) g.C.Machine.seen g.C.Machine.sound g.C.Machine.rested g.L.Link.seen g.L.Link.wrote g.L.HasPair.tells c.args.plan.now.accepts_header c.args.plan.now.opening g.N.Net.seen q.1 (address_of c.args.plan.now.to.now) (g.N.Net.seen q.2) c.args.connection.now.caller c.args.connection.now.conn.client c.args.connection.now.conn.server (g.N.Net.seen c.args.connection.now.conn.net) c.args.connection.now.conn.ran c.args.connection.now.core none met q.4 in
    (q.0, s.begins, s.own, q.3, s.at)

pub returns-clause-at : goal.returns-clause-at
returns-clause-at g c = λ cfg first first_net f h.
    let none : c.args.connection.now.conn.ran ≡ None = search rules in
    let met : is_greeted c.args.connection.now.caller ≡ false = search rules in
    served_on (g.C.Machine.meaning ∘ g.C.ResetsFor.for_peer cfg ∘ source_in) (g.C.Machine.stands ∘ g.C.ResetsFor.for_peer cfg ∘ source_in) g.C.Machine.seen g.C.Machine.sound g.C.Machine.rested g.L.Link.seen g.L.Link.wrote g.L.HasPair.tells c.args.plan.now.accepts_header c.args.plan.now.opening g.N.Net.seen first (address_of c.args.plan.now.to.now) (g.N.Net.seen first_net) c.args.connection.now.caller _ _ _ _ _ _ _ _ _ _ _ none met c.serve.ensures.caller (λ begins own at. c.serve.ensures.at cfg begins own f at) h

pub returns-clause-fresh : goal.returns-clause-fresh
returns-clause-fresh g c = λ cfg first first_net f h.
    let none : c.args.connection.now.conn.ran ≡ None = search rules in
    let met : is_greeted c.args.connection.now.caller ≡ false = search rules in
    let s = served_of (g.C.Machine.meaning ∘ g.C.ResetsFor.for_peer cfg ∘ source_in) (g.C.Machine.stands ∘ g.C.ResetsFor.for_peer cfg ∘ source_in) g.C.Machine.seen g.C.Machine.sound g.C.Machine.rested g.L.Link.seen g.L.Link.wrote g.L.HasPair.tells c.args.plan.now.accepts_header c.args.plan.now.opening g.N.Net.seen first (address_of c.args.plan.now.to.now) (g.N.Net.seen first_net) c.args.connection.now.caller c.args.connection.now.conn.client c.args.connection.now.conn.server (g.N.Net.seen c.args.connection.now.conn.net) c.args.connection.now.conn.ran c.args.connection.now.core none met h in
    c.serve.ensures.fresh cfg s.begins s.own f s.at

pub returns-then-is_greeted-clause-at : goal.returns-then-is_greeted-clause-at
returns-then-is_greeted-clause-at g c = λ cfg first first_net f h. c.hear.ensures.at cfg c.args.plan.now.accepts_header first (address_of c.args.plan.now.to.now) first_net h

pub returns-then-is_some-clause-at : goal.returns-then-is_some-clause-at
returns-then-is_some-clause-at g c = λ cfg first first_net f h.
    for_asked (g.C.Machine.meaning ∘ g.C.ResetsFor.for_peer cfg ∘ source_in) (g.C.Machine.stands ∘ g.C.ResetsFor.for_peer cfg ∘ source_in) g.C.Machine.seen g.C.Machine.sound g.C.Machine.rested g.L.Link.seen g.L.Link.wrote g.L.HasPair.tells c.args.plan.now.accepts_header c.args.plan.now.opening g.N.Net.seen first (address_of c.args.plan.now.to.now) (g.N.Net.seen first_net) c.args.connection.now.caller _ _ _ _ _ _ _ _ c.leaves.ensures.client (same_server g.L.Link.seen g.L.Link.wrote c.args.connection.now.conn.server) refl h

pub returns-clause-logs : goal.returns-clause-logs
returns-clause-logs g c = λ cfg first first_net f h.
    let none : c.args.connection.now.conn.ran ≡ None = search rules in
    let met : is_greeted c.args.connection.now.caller ≡ false = search rules in
    let s = served_of (g.C.Machine.meaning ∘ g.C.ResetsFor.for_peer cfg ∘ source_in) (g.C.Machine.stands ∘ g.C.ResetsFor.for_peer cfg ∘ source_in) g.C.Machine.seen g.C.Machine.sound g.C.Machine.rested g.L.Link.seen g.L.Link.wrote g.L.HasPair.tells c.args.plan.now.accepts_header c.args.plan.now.opening g.N.Net.seen first (address_of c.args.plan.now.to.now) (g.N.Net.seen first_net) c.args.connection.now.caller c.args.connection.now.conn.client c.args.connection.now.conn.server (g.N.Net.seen c.args.connection.now.conn.net) c.args.connection.now.conn.ran c.args.connection.now.core none met h in
    let pair = pair_of c.args.connection.now.caller in
    logs_as c.args.tools.now.log.logs c.args.tools.now.log.connection
    (IsTold (g.C.Machine.meaning (g.C.ResetsFor.for_peer cfg (source_in pair))) (g.C.Machine.stands (g.C.ResetsFor.for_peer cfg (source_in pair))) g.C.Machine.seen g.L.Link.seen g.L.Link.wrote s.begins (address_of c.args.plan.now.to.now) (g.N.Net.seen s.own))
    (IsToldOf (g.C.Machine.meaning ∘ g.C.ResetsFor.for_peer cfg ∘ source_in) (g.C.Machine.stands ∘ g.C.ResetsFor.for_peer cfg ∘ source_in) g.C.Machine.seen g.L.Link.seen g.L.Link.wrote g.L.HasPair.tells c.args.plan.now.accepts_header c.args.plan.now.opening g.N.Net.seen (address_of c.args.plan.now.to.now) first first_net) c.serve.new.tools.log.logs c.serve.new.tools.log.connection c.args.tools.now.log.text.items c.serve.new.tools.log.text.items
    (λ entry t. record { pair = pair; begins = s.begins; met = s.met; own = s.own; introduces = s.introduces; told = t }) (c.serve.ensures.logs cfg s.begins s.own f s.at)

pub returns-then-is_greeted-clause-logs : goal.returns-then-is_greeted-clause-logs
returns-then-is_greeted-clause-logs g c = λ cfg first first_net f h. logs_none c.args.tools.now.log.logs c.args.tools.now.log.connection (IsToldOf (g.C.Machine.meaning ∘ g.C.ResetsFor.for_peer cfg ∘ source_in) (g.C.Machine.stands ∘ g.C.ResetsFor.for_peer cfg ∘ source_in) g.C.Machine.seen g.L.Link.seen g.L.Link.wrote g.L.HasPair.tells c.args.plan.now.accepts_header c.args.plan.now.opening g.N.Net.seen (address_of c.args.plan.now.to.now) first first_net) c.args.tools.now.log.text.items

pub returns-then-is_some-clause-logs : goal.returns-then-is_some-clause-logs
returns-then-is_some-clause-logs g c = λ cfg first first_net f h. logs_none c.args.tools.now.log.logs c.args.tools.now.log.connection (IsToldOf (g.C.Machine.meaning ∘ g.C.ResetsFor.for_peer cfg ∘ source_in) (g.C.Machine.stands ∘ g.C.ResetsFor.for_peer cfg ∘ source_in) g.C.Machine.seen g.L.Link.seen g.L.Link.wrote g.L.HasPair.tells c.args.plan.now.accepts_header c.args.plan.now.opening g.N.Net.seen (address_of c.args.plan.now.to.now) first first_net) c.args.tools.now.log.text.items
