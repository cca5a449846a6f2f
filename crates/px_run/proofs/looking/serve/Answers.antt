use Rattle.std.proofs.Common.{rules, ◌≡◌, None}
use Rattle.px_link.specs.Net.{address_of}
use Rattle.px_proxyproto.specs.Meeting.{source_in}
use Rattle.px_run.specs.Callers.{pair_of}
use Rattle.px_run.specs.Log.{IsTold}
use Rattle.px_run.proofs.Logs.{logs_none}
use Rattle.px_run.proofs.Looks.{serving_of, goes_of, may_of}
use Rattle.px_run.proofs.looking.serve.Goals as goal

pub moved-requires-clause-may : goal.moved-requires-clause-may
moved-requires-clause-may g c =
    let q = c.requires.at in
    let none : c.seat.result ≡ None = search rules in
    let a = c.seat.ensures.at q.0 q.1 (address_of c.args.to.now) q.2 q.3 q.4 in
    may_of (g.C.Machine.meaning (g.C.ResetsFor.for_peer q.0 (source_in (pair_of c.args.connection.now.caller)))) (g.C.Machine.stands (g.C.ResetsFor.for_peer q.0 (source_in (pair_of c.args.connection.now.caller)))) g.C.Machine.seen g.C.Machine.sound g.C.Machine.rested g.L.Link.seen g.L.Link.wrote q.1 (address_of c.args.to.now) (g.N.Net.seen q.2) _ _ _ _ _ c.seat.ensures.ran
    (serving_of (g.C.Machine.meaning (g.C.ResetsFor.for_peer q.0 (source_in (pair_of c.args.connection.now.caller)))) (g.C.Machine.stands (g.C.ResetsFor.for_peer q.0 (source_in (pair_of c.args.connection.now.caller)))) g.C.Machine.seen g.C.Machine.sound g.C.Machine.rested g.L.Link.seen g.L.Link.wrote q.1 (address_of c.args.to.now) (g.N.Net.seen q.2) _ _ _ _ _ c.seat.ensures.ran (c.seat.ensures.has none) a)

pub returns-clause-at : goal.returns-clause-at
returns-clause-at g c = λ cfg first first_net f h.
    let none : c.seat.result ≡ None = search rules in
    let a = c.seat.ensures.at cfg first (address_of c.args.to.now) first_net f h in
    c.moved.ensures.at (g.C.ResetsFor.for_peer cfg (source_in (pair_of c.args.connection.now.caller))) first first_net
    (goes_of (g.C.Machine.meaning (g.C.ResetsFor.for_peer cfg (source_in (pair_of c.args.connection.now.caller)))) (g.C.Machine.stands (g.C.ResetsFor.for_peer cfg (source_in (pair_of c.args.connection.now.caller)))) g.C.Machine.seen g.C.Machine.sound g.C.Machine.rested g.L.Link.seen g.L.Link.wrote first (address_of c.args.to.now) (g.N.Net.seen first_net) _ _ _ _
    (serving_of (g.C.Machine.meaning (g.C.ResetsFor.for_peer cfg (source_in (pair_of c.args.connection.now.caller)))) (g.C.Machine.stands (g.C.ResetsFor.for_peer cfg (source_in (pair_of c.args.connection.now.caller)))) g.C.Machine.seen g.C.Machine.sound g.C.Machine.rested g.L.Link.seen g.L.Link.wrote first (address_of c.args.to.now) (g.N.Net.seen first_net) _ _ _ _ _ c.seat.ensures.ran (c.seat.ensures.has none) a))

pub returns-clause-fresh : goal.returns-clause-fresh
returns-clause-fresh g c = λ cfg first first_net f h.
    let none : c.seat.result ≡ None = search rules in
    let a = c.seat.ensures.at cfg first (address_of c.args.to.now) first_net f h in
    c.moved.ensures.fresh cfg (pair_of c.args.connection.now.caller) first first_net
    (goes_of (g.C.Machine.meaning (g.C.ResetsFor.for_peer cfg (source_in (pair_of c.args.connection.now.caller)))) (g.C.Machine.stands (g.C.ResetsFor.for_peer cfg (source_in (pair_of c.args.connection.now.caller)))) g.C.Machine.seen g.C.Machine.sound g.C.Machine.rested g.L.Link.seen g.L.Link.wrote first (address_of c.args.to.now) (g.N.Net.seen first_net) _ _ _ _
    (serving_of (g.C.Machine.meaning (g.C.ResetsFor.for_peer cfg (source_in (pair_of c.args.connection.now.caller)))) (g.C.Machine.stands (g.C.ResetsFor.for_peer cfg (source_in (pair_of c.args.connection.now.caller)))) g.C.Machine.seen g.C.Machine.sound g.C.Machine.rested g.L.Link.seen g.L.Link.wrote first (address_of c.args.to.now) (g.N.Net.seen first_net) _ _ _ _ _ c.seat.ensures.ran (c.seat.ensures.has none) a))
    (c.seat.ensures.fresh cfg f)

pub returns-in-Some-clause-fresh : goal.returns-in-Some-clause-fresh
returns-in-Some-clause-fresh g c = λ cfg first first_net f h. c.in-Some.ensures.fresh cfg f

pub returns-clause-logs : goal.returns-clause-logs
returns-clause-logs g c = λ cfg first first_net f h.
    let none : c.seat.result ≡ None = search rules in
    let a = c.seat.ensures.at cfg first (address_of c.args.to.now) first_net f h in
    c.moved.ensures.logs (g.C.ResetsFor.for_peer cfg (source_in (pair_of c.args.connection.now.caller))) first first_net
    (goes_of (g.C.Machine.meaning (g.C.ResetsFor.for_peer cfg (source_in (pair_of c.args.connection.now.caller)))) (g.C.Machine.stands (g.C.ResetsFor.for_peer cfg (source_in (pair_of c.args.connection.now.caller)))) g.C.Machine.seen g.C.Machine.sound g.C.Machine.rested g.L.Link.seen g.L.Link.wrote first (address_of c.args.to.now) (g.N.Net.seen first_net) _ _ _ _
    (serving_of (g.C.Machine.meaning (g.C.ResetsFor.for_peer cfg (source_in (pair_of c.args.connection.now.caller)))) (g.C.Machine.stands (g.C.ResetsFor.for_peer cfg (source_in (pair_of c.args.connection.now.caller)))) g.C.Machine.seen g.C.Machine.sound g.C.Machine.rested g.L.Link.seen g.L.Link.wrote first (address_of c.args.to.now) (g.N.Net.seen first_net) _ _ _ _ _ c.seat.ensures.ran (c.seat.ensures.has none) a))

pub returns-in-Some-clause-logs : goal.returns-in-Some-clause-logs
returns-in-Some-clause-logs g c = λ cfg first first_net f h.
    logs_none c.args.tools.now.log.logs c.args.tools.now.log.connection (IsTold (g.C.Machine.meaning (g.C.ResetsFor.for_peer cfg (source_in (pair_of c.args.connection.now.caller)))) (g.C.Machine.stands (g.C.ResetsFor.for_peer cfg (source_in (pair_of c.args.connection.now.caller)))) g.C.Machine.seen g.L.Link.seen g.L.Link.wrote first (address_of c.args.to.now) (g.N.Net.seen first_net)) c.args.tools.now.log.text.items
