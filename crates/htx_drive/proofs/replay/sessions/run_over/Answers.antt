use Rattle.std.proofs.Common.{subst}
use Rattle.px_link.specs.Net.{address_of}
use Rattle.session_model.specs.Meaning.{Meaning}
use Rattle.htx_drive.specs.Ran.{GaveUp}
use Rattle.htx_drive.specs.declared.SessionFault.{SessionFault}
use Rattle.htx_drive.proofs.ReplayLemmas.Whole.{only_memory}
use Rattle.htx_drive.proofs.ReplayLemmas.Turned.{by_turns}
use Rattle.htx_drive.proofs.replay.sessions.run_over.Goals as goal

pub returns-in-Ok : goal.returns-in-Ok
returns-in-Ok g c = λ v client servers.
    let cfg = g.K.Cores.settings c.args.cores.now in
    let ran = c.in-Ok.ensures.in_turns cfg c.requires.stands in
    let over = c.args.over.now in
    by_turns (g.C.Machine.meaning cfg) (g.C.Machine.stands cfg) g.C.Machine.seen c.run_session.new.core v g.L.Link.seen g.L.Link.wrote over.client c.run_session.new.client (address_of c.args.to.now) (g.N.Net.seen over.net) (g.N.Net.seen c.run_session.new.net) c.args.turns.now c.run_session.new.turns c.in-Ok.ran client servers ran.0 ran.1

pub only_memory-requires : goal.only_memory-requires
only_memory-requires g c =
    let paid = c.requires.paid in
    let cfg = g.K.Cores.settings c.args.cores.now in
    let to = address_of c.args.to.now in
    let link = c.args.over.now.client in
    let net = c.args.over.now.net in
    let core = c.run_session.new.core in
    let client = c.run_session.new.client in
    let after = c.run_session.new.net in
    let law = c.only_want_of_memory_gives_up.ensures in
    let M : Meaning = g.C.Machine.meaning cfg in
    let P : SessionFault → Type 0 = λ f. GaveUp M (g.C.Machine.stands cfg) core (g.C.Machine.seen core).lost g.L.Link.seen g.L.Link.wrote link client to (g.N.Net.seen net) (g.N.Net.seen after) c.args.budget f in
    let gave : P c.in-Err.fault = c.in-Err.ensures.gave_up cfg c.requires.stands in
    only_memory c.in-Err.fault
    (λ e. law.unspent c.args.cores.now core paid.visit to link client net after c.args.budget c.requires.ready paid.client paid.servers paid.enough (subst P e gave))
    (λ e. law.written c.args.cores.now core paid.visit to link client net after c.args.budget paid.client (subst P e gave))
