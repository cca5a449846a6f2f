use Rattle.std.proofs.Common.{rules, ◌≡◌}
use Rattle.px_link.specs.Net.{address_of}
use Rattle.px_proxyproto.specs.Meeting.{source_in}
use Rattle.px_run.specs.declared.held.Held.TheVariants as helds
use Rattle.px_run.proofs.Looks.{serving_at, over_at}
use Rattle.px_run.proofs.connection.moved.Goals as goal

pub returns-in-Moved-clause-at : goal.returns-in-Moved-clause-at
returns-in-Moved-clause-at g c = λ cfg first first_net h.
    serving_at (g.C.Machine.meaning cfg) (g.C.Machine.stands cfg) g.C.Machine.seen g.C.Machine.sound g.C.Machine.rested g.L.Link.seen g.L.Link.wrote first (address_of c.args.to.now) (g.N.Net.seen first_net) _ _ _ _ _ c.in-Moved.ensures.may (c.in-Moved.ensures.goes cfg first first_net h)

pub returns-in-Opened-clause-at : goal.returns-in-Opened-clause-at
returns-in-Opened-clause-at g c = λ cfg first first_net h.
    serving_at (g.C.Machine.meaning cfg) (g.C.Machine.stands cfg) g.C.Machine.seen g.C.Machine.sound g.C.Machine.rested g.L.Link.seen g.L.Link.wrote first (address_of c.args.to.now) (g.N.Net.seen first_net) _ _ _ _ _ c.in-Opened.ensures.may (c.in-Opened.ensures.goes cfg first first_net h)

pub returns-in-Waits-clause-at : goal.returns-in-Waits-clause-at
returns-in-Waits-clause-at g c = λ cfg first first_net h. c.rest.ensures.at cfg first (address_of c.args.to.now) first_net (c.in-Waits.ensures.goes cfg first first_net h)

pub returns-in-Waits-clause-fresh : goal.returns-in-Waits-clause-fresh
returns-in-Waits-clause-fresh g c = λ cfg pair first first_net h f.
    c.rest.ensures.fresh cfg pair first (address_of c.args.to.now) first_net (c.in-Waits.ensures.goes (g.C.ResetsFor.for_peer cfg (source_in pair)) first first_net h) f

pub rest-requires-clause-may : goal.rest-requires-clause-may
rest-requires-clause-may g c = c.in-Waits.ensures.may

pub returns-in-Moved-clause-looked : goal.returns-in-Moved-clause-looked
returns-in-Moved-clause-looked g c = c.in-Moved.ensures.may.2.goes_on

pub returns-in-Opened-clause-looked : goal.returns-in-Opened-clause-looked
returns-in-Opened-clause-looked g c = c.in-Opened.ensures.may.2.goes_on

pub free-requires-clause-sound : goal.free-requires-clause-sound
free-requires-clause-sound g c = let m = c.in-Ended.ensures.may in (m.0, m.1, m.2.is_sound)

pub told-requires : goal.told-requires
told-requires g c = record { ended = c.in-Ended.ensures.may.2.came }

pub told-requires-in-Lost : goal.told-requires-in-Lost
told-requires-in-Lost g c = record { ended = c.in-Lost.ensures.may.2.came }

pub returns-in-Ended-clause-at : goal.returns-in-Ended-clause-at
returns-in-Ended-clause-at g c = λ cfg first first_net h.
    over_at (g.C.Machine.meaning cfg) (g.C.Machine.stands cfg) g.C.Machine.seen g.C.Machine.sound g.C.Machine.rested g.L.Link.seen g.L.Link.wrote first (address_of c.args.to.now) (g.N.Net.seen first_net) _ _ _ _ _ c.free.ensures.instead c.in-Ended.ensures.may.2.no_server (c.in-Ended.ensures.goes cfg first first_net h).2.so

pub returns-in-Lost-clause-at : goal.returns-in-Lost-clause-at
returns-in-Lost-clause-at g c = λ cfg first first_net h.
    let n : c.replace.new.dest ≡ helds.Nothing = search rules in
    over_at (g.C.Machine.meaning cfg) (g.C.Machine.stands cfg) g.C.Machine.seen g.C.Machine.sound g.C.Machine.rested g.L.Link.seen g.L.Link.wrote first (address_of c.args.to.now) (g.N.Net.seen first_net) _ _ _ _ _ n c.in-Lost.ensures.may.2.no_server (c.in-Lost.ensures.goes cfg first first_net h).2.so

pub returns-in-Ended-clause-fresh : goal.returns-in-Ended-clause-fresh
returns-in-Ended-clause-fresh g c = λ cfg pair first first_net h f.
    let e = c.in-Ended.ensures.goes (g.C.ResetsFor.for_peer cfg (source_in pair)) first first_net h in
    c.free.ensures.fresh cfg pair (e.0, e.1, e.2.core) f
