use Rattle.std.proofs.Common.{◌∙◌}
use Rattle.px_proxyproto.specs.Meeting.{source_in}
use Rattle.px_run.specs.Course.{RestsWith, GoesOn}
use Rattle.px_run.proofs.Courses.{goes_stands}
use Rattle.px_run.proofs.Looks.{has_it, serving_at, resting_at}
use Rattle.px_run.proofs.connection.rest.Goals as goal

pub returns-in_default-clause-at : goal.returns-in_default-clause-at
returns-in_default-clause-at g c = λ cfg first to first_net h.
    let m = c.requires.may in
    let same = c.rests_with.ensures.same in
    serving_at (g.C.Machine.meaning cfg) (g.C.Machine.stands cfg) g.C.Machine.seen g.C.Machine.sound g.C.Machine.rested g.L.Link.seen g.L.Link.wrote first to (g.N.Net.seen first_net) _ _ _ _ _ (m.0, same ∙ m.1, m.2) (h.0, same ∙ h.1, h.2)

pub returns-clause-at : goal.returns-clause-at
returns-clause-at g c = λ cfg first to first_net h.
    let m = c.requires.may in
    let held = c.args.connection.now.core in
    let conn = c.args.connection.now.conn in
    let rests = has_it (RestsWith g.C.Machine.seen g.C.Machine.rested c.in-Some.exchanges) held m.0 m.1 c.in-Some.ensures.rests in
    let goes = has_it (λ core. GoesOn (g.C.Machine.stands cfg) g.C.Machine.seen core g.L.Link.seen g.L.Link.wrote first conn.client conn.server to (g.N.Net.seen first_net) (g.N.Net.seen conn.net)) held m.0 m.1 h in
    resting_at (g.C.Machine.meaning cfg) (g.C.Machine.stands cfg) g.C.Machine.seen g.C.Machine.sound g.C.Machine.rested g.L.Link.seen g.L.Link.wrote first to (g.N.Net.seen first_net) _ _ _ _ _ m.0 c.in-Some.exchanges c.free.ensures.instead m.2 rests.idle rests.rests rests.counts goes

pub returns-clause-fresh : goal.returns-clause-fresh
returns-clause-fresh g c = λ cfg pair first to first_net h f.
    let stands = g.C.Machine.stands (g.C.ResetsFor.for_peer cfg (source_in pair)) in
    c.free.ensures.fresh cfg pair (h.0, c.rests_with.ensures.same ∙ h.1, goes_stands (g.C.Machine.meaning (g.C.ResetsFor.for_peer cfg (source_in pair))) stands g.C.Machine.seen g.L.Link.seen g.L.Link.wrote first to (g.N.Net.seen first_net) h.0 _ _ _ h.2) f

pub returns-then-not-asks_for_rest-clause-at : goal.returns-then-not-asks_for_rest-clause-at
returns-then-not-asks_for_rest-clause-at g c = λ cfg first to first_net h.
    serving_at (g.C.Machine.meaning cfg) (g.C.Machine.stands cfg) g.C.Machine.seen g.C.Machine.sound g.C.Machine.rested g.L.Link.seen g.L.Link.wrote first to (g.N.Net.seen first_net) _ _ _ _ _ c.requires.may h
