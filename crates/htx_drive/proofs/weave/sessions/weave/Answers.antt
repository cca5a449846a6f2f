use Rattle.std.proofs.Common.{[], true, false, refl, ap, arith}
use Rattle.std.proofs.lemmas.Bool.{false≢true}
use Rattle.std.specs.Prelude.{Err}
use Rattle.px_link.specs.Net.{address_of}
use Rattle.htx_drive.proofs.WeaveLemmas.Rounds.{all_back}
use Rattle.htx_drive.proofs.WeaveLemmas.Counts.{free_most}
use Rattle.htx_drive.proofs.WeaveLemmas.Whole.{may_begin, all_begin, all_done, all_at_once}
use Rattle.htx_drive.proofs.weave.sessions.weave.Goals as goal

pub to_their_ends-requires-clause-may : goal.to_their_ends-requires-clause-may
to_their_ends-requires-clause-may g c = may_begin g.C.Machine.seen g.C.Machine.sound g.N.Net.seen c.args.pool.now c.args.conns.now c.requires.some c.requires.unused c.requires.ready c.requires.new

pub returns-in-Ok-clause-ended : goal.returns-in-Ok-clause-ended
returns-in-Ok-clause-ended g c = λ cfg fresh.
    let turns = g.W.Weft.left c.args.turns.now in
    let begin = all_begin (g.C.Machine.meaning cfg) (g.C.Machine.stands cfg) g.C.Machine.seen g.C.Machine.sound g.L.Link.seen g.L.Link.wrote g.N.Net.seen (address_of c.args.to.now) false turns c.args.pool.now c.args.conns.now c.args.budget (λ e. absurd (false≢true e)) c.requires.unused c.requires.new fresh in
    all_done (g.C.Machine.meaning cfg) (g.C.Machine.stands cfg) g.C.Machine.seen g.C.Machine.sound g.L.Link.seen g.L.Link.wrote g.N.Net.seen (address_of c.args.to.now) false turns [] c.args.conns.now c.to_their_ends.new.conns c.to_their_ends.new.pool c.args.budget c.to_their_ends.new.resources.left c.in-Ok.ensures.ended
    (c.in-Ok.ensures.at cfg false turns c.args.conns.now c.args.budget begin)

pub returns-in-Ok-clause-out : goal.returns-in-Ok-clause-out
returns-in-Ok-clause-out g c = all_back c.to_their_ends.new.pool.owners c.to_their_ends.new.conns c.in-Ok.ensures.ended c.in-Ok.ensures.may.seated

pub returns-in-Ok-clause-fresh : goal.returns-in-Ok-clause-fresh
returns-in-Ok-clause-fresh g c = λ cfg fresh.
    let turns = g.W.Weft.left c.args.turns.now in
    let begin = all_begin (g.C.Machine.meaning cfg) (g.C.Machine.stands cfg) g.C.Machine.seen g.C.Machine.sound g.L.Link.seen g.L.Link.wrote g.N.Net.seen (address_of c.args.to.now) false turns c.args.pool.now c.args.conns.now c.args.budget (λ e. absurd (false≢true e)) c.requires.unused c.requires.new fresh in
    (c.in-Ok.ensures.at cfg false turns c.args.conns.now c.args.budget begin).fresh

pub returns-in-Err-clause-given_up : goal.returns-in-Err-clause-given_up
returns-in-Err-clause-given_up g c = λ cfg fresh.
    let turns = g.W.Weft.left c.args.turns.now in
    let begin = all_begin (g.C.Machine.meaning cfg) (g.C.Machine.stands cfg) g.C.Machine.seen g.C.Machine.sound g.L.Link.seen g.L.Link.wrote g.N.Net.seen (address_of c.args.to.now) false turns c.args.pool.now c.args.conns.now c.args.budget (λ e. absurd (false≢true e)) c.requires.unused c.requires.new fresh in
    c.leave_all.ensures.left cfg turns c.args.conns.now (address_of c.args.to.now) c.args.budget c.to_their_ends.new.resources.left c.in-Err.fault (λ e. c.in-Err.ensures.spent (ap (λ f. Err f) e)) (c.in-Err.ensures.halted cfg false turns c.args.conns.now c.args.budget begin)

pub returns-in-Ok-clause-at_once : goal.returns-in-Ok-clause-at_once
returns-in-Ok-clause-at_once g c = λ cfg fresh room.
    let turns = g.W.Weft.left c.args.turns.now in
    let most = free_most c.args.pool.now.owners c.args.pool.now.cores in
    let begin = all_begin (g.C.Machine.meaning cfg) (g.C.Machine.stands cfg) g.C.Machine.seen g.C.Machine.sound g.L.Link.seen g.L.Link.wrote g.N.Net.seen (address_of c.args.to.now) true turns c.args.pool.now c.args.conns.now c.args.budget (λ e. omega (arith, room, most)) c.requires.unused c.requires.new fresh in
    all_at_once (g.C.Machine.meaning cfg) (g.C.Machine.stands cfg) g.C.Machine.seen g.C.Machine.sound g.L.Link.seen g.L.Link.wrote g.N.Net.seen (address_of c.args.to.now) true turns [] c.args.conns.now c.to_their_ends.new.conns c.to_their_ends.new.pool c.args.budget c.to_their_ends.new.resources.left refl c.in-Ok.ensures.ended
    (c.in-Ok.ensures.at cfg true turns c.args.conns.now c.args.budget begin)
