use Rattle.std.proofs.Common.{rules, ◌≡◌, ℕ, None, false, sym, ap, subst}
use Rattle.std.specs.Prelude.{drop}
use Rattle.px_link.specs.Net.{address_of}
use Rattle.px_link.specs.Turns.{rest_of}
use Rattle.px_pool.specs.Seats.{Seats, core_of, free_of}
use Rattle.htx_drive.specs.Weave.Woven.{Pays}
use Rattle.htx_drive.specs.Weave.State.{IsAt, IsFresh}
use Rattle.htx_drive.proofs.WeaveLemmas.Seating.{free_kept, free_seated, beside_both}
use Rattle.htx_drive.proofs.WeaveLemmas.Halting.{pays_halts, halts_unroomed}
use Rattle.htx_drive.proofs.WeaveLemmas.Places.{begun, waits_more, at_on, at_spent, at_done, on_of, spent_of, ended_of}
use Rattle.htx_drive.proofs.weave.sets.move_of.Goals as goal

pub returns-then-not-seated-clause-at : goal.returns-then-not-seated-clause-at
returns-then-not-seated-clause-at g c = λ cfg prompt turns ahead total first first_net e room free p.
    let conn = c.args.conn.now in
    let none : conn.ran ≡ None = search rules in
    let is : c.seated.result ≡ false = search rules in
    let w = c.seated.ensures.wait is in
    let P : Seats g.row.C.Denot → Type 0 = λ s. Pays total c.args.resources.now.left (IsAt (g.C.Machine.meaning cfg) (g.C.Machine.stands cfg) g.C.Machine.seen g.C.Machine.sound prompt turns (rest_of ahead) g.L.Link.seen g.L.Link.wrote first conn.client conn.server (address_of c.args.to.now) (g.N.Net.seen first_net) (g.N.Net.seen conn.net) conn.ran (core_of c.args.number s)) in
    subst P (sym w.2)
    (waits_more (g.C.Machine.meaning cfg) (g.C.Machine.stands cfg) g.C.Machine.seen g.C.Machine.sound prompt turns ahead g.L.Link.seen g.L.Link.wrote first (address_of c.args.to.now) (g.N.Net.seen first_net) conn.client conn.server (g.N.Net.seen conn.net) total c.args.resources.now.left conn.ran (core_of c.args.number c.args.pool.now) (λ prompt. room prompt (c.seated.ensures.none is) w.1) none w.0 p)

pub returns-in-Ok-On-clause-at : goal.returns-in-Ok-On-clause-at
returns-in-Ok-On-clause-at g c = λ cfg prompt turns ahead total first first_net e room free p.
    let conn = c.args.conn.now in
    let none : conn.ran ≡ None = search rules in
    let b = begun (g.C.Machine.meaning cfg) (g.C.Machine.stands cfg) g.C.Machine.seen g.C.Machine.sound prompt turns ahead g.L.Link.seen g.L.Link.wrote first (address_of c.args.to.now) (g.N.Net.seen first_net) conn.client conn.server (g.N.Net.seen conn.net) total c.args.resources.now.left c.args.number conn.ran c.args.pool.now c.seated.new.pool none c.seated.ensures.seated free p in
    at_on (g.C.Machine.meaning cfg) (g.C.Machine.stands cfg) g.C.Machine.seen g.C.Machine.sound prompt turns (rest_of ahead) g.L.Link.seen g.L.Link.wrote first c.set_goes.new.conn.client c.set_goes.new.conn.server (address_of c.args.to.now) (g.N.Net.seen first_net) (g.N.Net.seen c.set_goes.new.conn.net) total c.set_goes.new.resources.left b.waited b.at_once c.set_goes.new.conn.ran (core_of c.args.number c.set_goes.new.pool)
    c.in-Ok-On.field-0 c.in-Ok-On.field-0-is c.in-Ok-On.ensures.keeps (on_of ℕ _ _ _ _ c.in-Ok-On.field-0 c.in-Ok-On.field-0-is (c.in-Ok-On.ensures.goes cfg (drop b.waited turns) ahead total first first_net e b.go))

pub returns-in-Ok-Ended-clause-at : goal.returns-in-Ok-Ended-clause-at
returns-in-Ok-Ended-clause-at g c = λ cfg prompt turns ahead total first first_net e room free p.
    let conn = c.args.conn.now in
    let none : conn.ran ≡ None = search rules in
    let b = begun (g.C.Machine.meaning cfg) (g.C.Machine.stands cfg) g.C.Machine.seen g.C.Machine.sound prompt turns ahead g.L.Link.seen g.L.Link.wrote first (address_of c.args.to.now) (g.N.Net.seen first_net) conn.client conn.server (g.N.Net.seen conn.net) total c.args.resources.now.left c.args.number conn.ran c.args.pool.now c.seated.new.pool none c.seated.ensures.seated free p in
    at_done (g.C.Machine.meaning cfg) (g.C.Machine.stands cfg) g.C.Machine.seen g.C.Machine.sound prompt turns (rest_of ahead) g.L.Link.seen g.L.Link.wrote first c.set_goes.new.conn.client c.set_goes.new.conn.server (address_of c.args.to.now) (g.N.Net.seen first_net) (g.N.Net.seen c.set_goes.new.conn.net) total c.set_goes.new.resources.left b.waited b.at_once c.set_goes.new.conn.ran (core_of c.args.number c.set_goes.new.pool)
    c.in-Ok-Ended.field-0 c.in-Ok-Ended.field-0-is c.in-Ok-Ended.ensures.keeps (ended_of ℕ _ _ _ _ c.in-Ok-Ended.field-0 c.in-Ok-Ended.field-0-is (c.in-Ok-Ended.ensures.goes cfg (drop b.waited turns) ahead total first first_net e b.go))

pub returns-in-Ok-Spent-clause-halted : goal.returns-in-Ok-Spent-clause-halted
returns-in-Ok-Spent-clause-halted g c = λ cfg prompt turns ahead total first first_net e free p.
    let conn = c.args.conn.now in
    let none : conn.ran ≡ None = search rules in
    let b = begun (g.C.Machine.meaning cfg) (g.C.Machine.stands cfg) g.C.Machine.seen g.C.Machine.sound prompt turns ahead g.L.Link.seen g.L.Link.wrote first (address_of c.args.to.now) (g.N.Net.seen first_net) conn.client conn.server (g.N.Net.seen conn.net) total c.args.resources.now.left c.args.number conn.ran c.args.pool.now c.seated.new.pool none c.seated.ensures.seated free p in
    pays_halts (g.C.Machine.meaning cfg) (g.C.Machine.stands cfg) g.C.Machine.seen turns g.L.Link.seen g.L.Link.wrote first (address_of c.args.to.now) (g.N.Net.seen first_net) g.C.Machine.sound prompt ahead c.set_goes.new.conn.client c.set_goes.new.conn.server (g.N.Net.seen c.set_goes.new.conn.net) c.set_goes.new.conn.ran (core_of c.args.number c.set_goes.new.pool) total c.set_goes.new.resources.left
    (at_spent (g.C.Machine.meaning cfg) (g.C.Machine.stands cfg) g.C.Machine.seen g.C.Machine.sound prompt turns ahead g.L.Link.seen g.L.Link.wrote first c.set_goes.new.conn.client c.set_goes.new.conn.server (address_of c.args.to.now) (g.N.Net.seen first_net) (g.N.Net.seen c.set_goes.new.conn.net) total c.set_goes.new.resources.left b.waited b.at_once c.set_goes.new.conn.ran (core_of c.args.number c.set_goes.new.pool) c.in-Ok-Spent.field-0 c.in-Ok-Spent.field-0-is c.in-Ok-Spent.ensures.keeps (spent_of ℕ _ _ _ _ c.in-Ok-Spent.field-0 c.in-Ok-Spent.field-0-is (c.in-Ok-Spent.ensures.goes cfg (drop b.waited turns) ahead total first first_net e b.go)))

pub returns-then-not-seated-clause-fresh : goal.returns-then-not-seated-clause-fresh
returns-then-not-seated-clause-fresh g c = λ cfg prompt turns ahead total first first_net e free p.
    let is : c.seated.result ≡ false = search rules in
    free_kept (IsFresh (g.C.Machine.stands cfg)) _ _ (ap (λ (s : Seats g.row.C.Denot). free_of s) (c.seated.ensures.wait is).2) free

pub returns-in-Ok-On-clause-fresh : goal.returns-in-Ok-On-clause-fresh
returns-in-Ok-On-clause-fresh g c = λ cfg prompt turns ahead total first first_net e free p.
    let conn = c.args.conn.now in
    let none : conn.ran ≡ None = search rules in
    let b = begun (g.C.Machine.meaning cfg) (g.C.Machine.stands cfg) g.C.Machine.seen g.C.Machine.sound prompt turns ahead g.L.Link.seen g.L.Link.wrote first (address_of c.args.to.now) (g.N.Net.seen first_net) conn.client conn.server (g.N.Net.seen conn.net) total c.args.resources.now.left c.args.number conn.ran c.args.pool.now c.seated.new.pool none c.seated.ensures.seated free p in
    c.in-Ok-On.ensures.fresh cfg (drop b.waited turns) ahead total first first_net e b.go (free_seated (IsFresh (g.C.Machine.stands cfg)) c.args.number c.args.pool.now c.seated.new.pool c.seated.ensures.seated free)

pub returns-in-Ok-Ended-clause-fresh : goal.returns-in-Ok-Ended-clause-fresh
returns-in-Ok-Ended-clause-fresh g c = λ cfg prompt turns ahead total first first_net e free p.
    let conn = c.args.conn.now in
    let none : conn.ran ≡ None = search rules in
    let b = begun (g.C.Machine.meaning cfg) (g.C.Machine.stands cfg) g.C.Machine.seen g.C.Machine.sound prompt turns ahead g.L.Link.seen g.L.Link.wrote first (address_of c.args.to.now) (g.N.Net.seen first_net) conn.client conn.server (g.N.Net.seen conn.net) total c.args.resources.now.left c.args.number conn.ran c.args.pool.now c.seated.new.pool none c.seated.ensures.seated free p in
    c.in-Ok-Ended.ensures.fresh cfg (drop b.waited turns) ahead total first first_net e b.go (free_seated (IsFresh (g.C.Machine.stands cfg)) c.args.number c.args.pool.now c.seated.new.pool c.seated.ensures.seated free)

pub returns-in-Err-clause-halted : goal.returns-in-Err-clause-halted
returns-in-Err-clause-halted g c = λ cfg prompt turns ahead total first first_net e free p.
    let conn = c.args.conn.now in
    let none : conn.ran ≡ None = search rules in
    let b = begun (g.C.Machine.meaning cfg) (g.C.Machine.stands cfg) g.C.Machine.seen g.C.Machine.sound prompt turns ahead g.L.Link.seen g.L.Link.wrote first (address_of c.args.to.now) (g.N.Net.seen first_net) conn.client conn.server (g.N.Net.seen conn.net) total c.args.resources.now.left c.args.number conn.ran c.args.pool.now c.seated.new.pool none c.seated.ensures.seated free p in
    let s = c.in-Err.ensures.goes cfg (drop b.waited turns) ahead total first first_net e b.go in
    let lost = c.in-Err.ensures.lost in
    halts_unroomed (g.C.Machine.meaning cfg) (g.C.Machine.stands cfg) g.C.Machine.seen turns g.L.Link.seen g.L.Link.wrote first (address_of c.args.to.now) (g.N.Net.seen first_net) s.0 c.set_goes.new.conn.client c.set_goes.new.conn.server (g.N.Net.seen c.set_goes.new.conn.net) c.set_goes.new.conn.ran b.waited total c.set_goes.new.resources.left lost.0 lost.1 s.1

pub returns-in-Ok-On-clause-beside : goal.returns-in-Ok-On-clause-beside
returns-in-Ok-On-clause-beside g c = beside_both _ _ _ _ c.seated.ensures.beside c.in-Ok-On.ensures.beside

pub returns-in-Ok-Ended-clause-beside : goal.returns-in-Ok-Ended-clause-beside
returns-in-Ok-Ended-clause-beside g c = beside_both _ _ _ _ c.seated.ensures.beside c.in-Ok-Ended.ensures.beside

pub returns-in-Ok-Spent-clause-beside : goal.returns-in-Ok-Spent-clause-beside
returns-in-Ok-Spent-clause-beside g c = beside_both _ _ _ _ c.seated.ensures.beside c.in-Ok-Spent.ensures.beside

pub returns-in-Err-clause-beside : goal.returns-in-Err-clause-beside
returns-in-Err-clause-beside g c = beside_both _ _ _ _ c.seated.ensures.beside c.in-Err.ensures.beside
