use Rattle.std.proofs.Common.{◌≡◌, ℕ, ◌-◌, ◌<◌, List, Some, sym, subst, arith, slice_index_or, length}
use Rattle.std.specs.Prelude.{slice_get}
use Rattle.std.proofs.lemmas.Option.{slice_get-get_or}
use Rattle.px_link.specs.Net.{address_of}
use Rattle.px_link.specs.Turns.{rest_of}
use Rattle.px_link.specs.declared.turns.Turn.{Turn}
use Rattle.px_pool.specs.Seats.{core_of}
use Rattle.htx_drive.specs.Replay.Memory.{turns_of}
use Rattle.htx_drive.specs.Weave.Woven.{Pays}
use Rattle.htx_drive.specs.Weave.State.{IsAt, MayMove}
use Rattle.htx_drive.specs.declared.weave.conn.Conn.{Conn}
use Rattle.htx_drive.proofs.WeaveLemmas.All.{of_number, on_ok_at, on_err_at, of_on_ok, of_on_err, next_first, next_rest, other_rest, set_length, may_at, moves_at}
use Rattle.htx_drive.proofs.WeaveLemmas.Counts.{counts_on, has_room}
use Rattle.htx_drive.proofs.WeaveLemmas.Halts.{halts_at, lent_all}
use Rattle.htx_drive.proofs.WeaveLemmas.Rounds.{seats_at, lowers_at}
use Rattle.htx_drive.proofs.weave.all.move_at.Goals as goal

pub move_of-requires-clause-may : goal.move_of-requires-clause-may
move_of-requires-clause-may g c =
    let k : ℕ = c.args.number - 1 in
    let was : Conn g.row.L.Denot g.row.N.Denot = slice_index_or c.args.conns.now k c.index-conns-number.result in
    let some = c.requires.some in
    let within = c.requires.within in
    let is : slice_get c.args.conns.now k ≡ Some was = slice_get-get_or c.args.conns.now k c.index-conns-number.result (omega (arith, some, within)) in
    subst (λ (n : ℕ). MayMove g.C.Machine.seen g.C.Machine.sound was.server (g.N.Net.seen was.net).lent was.ran (core_of n c.args.pool.now)) (sym (of_number c.args.number some)) (c.requires.may.may k was is)

pub returns-clause-may : goal.returns-clause-may
returns-clause-may g c =
    let k : ℕ = c.args.number - 1 in
    let was : Conn g.row.L.Denot g.row.N.Denot = slice_index_or c.args.conns.now k c.index-conns-number.result in
    let some = c.requires.some in
    let within = c.requires.within in
    let number = of_number c.args.number some in
    let is : slice_get c.args.conns.now k ≡ Some was = slice_get-get_or c.args.conns.now k c.index-conns-number.result (omega (arith, some, within)) in
    on_ok_at c.move_of.result _ (λ a ok.
    record {
      some = subst (λ (n : ℕ). 0 < n) (sym c.move_of.ensures.beside.sets) c.requires.may.some;
      counts = counts_on c.args.number (length c.args.conns.now) _ c.args.pool.now.owners c.move_of.new.pool.owners c.move_of.ensures.beside some within (set_length c.args.conns.now k c.move_of.new.conn) c.requires.may.counts;
      ready = of_on_ok c.move_of.result _ a ok c.move_of.ensures.ready;
      seated = seats_at c.args.pool.now c.move_of.new.pool c.args.conns.now k was c.move_of.new.conn c.args.number number is c.move_of.ensures.beside c.move_of.ensures.ended (λ none. of_on_ok c.move_of.result _ a ok (c.move_of.ensures.gone none)) c.requires.may.seated;
      may = may_at g.C.Machine.seen g.C.Machine.sound g.N.Net.seen c.args.pool.now c.move_of.new.pool c.args.conns.now c.args.number k c.move_of.new.conn number (omega (arith, some, within)) c.move_of.ensures.others (of_on_ok c.move_of.result _ a ok c.move_of.ensures.may)
          c.requires.may.may;
    })

pub returns-clause-at : goal.returns-clause-at
returns-clause-at g c = λ left next.
    let k : ℕ = c.args.number - 1 in
    let was : Conn g.row.L.Denot g.row.N.Denot = slice_index_or c.args.conns.now k c.index-conns-number.result in
    let conn : Conn g.row.L.Denot g.row.N.Denot = c.move_of.new.conn in
    let some = c.requires.some in
    let within = c.requires.within in
    let is : slice_get c.args.conns.now k ≡ Some was = slice_get-get_or c.args.conns.now k c.index-conns-number.result (omega (arith, some, within)) in
    let first_turn = next_first c.args.number c.args.turn left next in
    on_ok_at c.move_of.result _ (λ a ok cfg prompt turns firsts budget all.
    moves_at (g.C.Machine.meaning cfg) (g.C.Machine.stands cfg) g.C.Machine.seen g.C.Machine.sound g.L.Link.seen g.L.Link.wrote g.N.Net.seen (address_of c.args.to.now) prompt turns left (rest_of left) firsts c.args.conns.now c.args.pool.now c.move_of.new.pool budget c.args.resources.now.left c.move_of.new.resources.left
    c.args.number k was conn (of_number c.args.number some) is c.move_of.ensures.beside.sets
    (λ first total p.
    let P : List Turn → Type 0 = λ l. Pays total c.move_of.new.resources.left (IsAt (g.C.Machine.meaning cfg) (g.C.Machine.stands cfg) g.C.Machine.seen g.C.Machine.sound prompt (turns_of c.args.number turns) l g.L.Link.seen g.L.Link.wrote first.client conn.client conn.server (address_of c.args.to.now) (g.N.Net.seen first.net) (g.N.Net.seen conn.net) conn.ran (core_of c.args.number c.move_of.new.pool)) in
    subst P (next_rest c.args.number c.args.turn left next) (of_on_ok c.move_of.result _ a ok (c.move_of.ensures.at cfg prompt (turns_of c.args.number turns) (turns_of c.args.number left) total first.client first.net first_turn (has_room prompt c.args.number c.args.pool.now.owners (length c.args.conns.now) some within c.requires.may.counts all.room) all.fresh p)))
    c.move_of.ensures.others
    (λ other ne. other_rest c.args.number other c.args.turn left ne next)
    (λ first total p. of_on_ok c.move_of.result _ a ok (c.move_of.ensures.fresh cfg prompt (turns_of c.args.number turns) (turns_of c.args.number left) total first.client first.net first_turn all.fresh p))
    all)

pub returns-clause-halted : goal.returns-clause-halted
returns-clause-halted g c = λ left next.
    let k : ℕ = c.args.number - 1 in
    let was : Conn g.row.L.Denot g.row.N.Denot = slice_index_or c.args.conns.now k c.index-conns-number.result in
    let some = c.requires.some in
    let within = c.requires.within in
    let is : slice_get c.args.conns.now k ≡ Some was = slice_get-get_or c.args.conns.now k c.index-conns-number.result (omega (arith, some, within)) in
    let first_turn = next_first c.args.number c.args.turn left next in
    on_err_at c.move_of.result _ (λ fault err cfg prompt turns firsts budget all.
    halts_at (g.C.Machine.meaning cfg) (g.C.Machine.stands cfg) g.C.Machine.seen g.C.Machine.sound g.L.Link.seen g.L.Link.wrote g.N.Net.seen (address_of c.args.to.now) prompt turns left firsts c.args.conns.now c.args.pool.now budget c.args.resources.now.left c.move_of.new.resources.left c.args.number k was c.move_of.new.conn
    (of_number c.args.number some) is
    (λ first total p. of_on_err c.move_of.result _ fault err (c.move_of.ensures.halted cfg prompt (turns_of c.args.number turns) (turns_of c.args.number left) total first.client first.net first_turn all.fresh p))
    all)

pub returns-clause-lent : goal.returns-clause-lent
returns-clause-lent g c =
    let k : ℕ = c.args.number - 1 in
    let some = c.requires.some in
    let within = c.requires.within in
    on_err_at c.move_of.result _ (λ fault err.
    lent_all g.C.Machine.seen g.C.Machine.sound g.N.Net.seen c.args.pool.now c.args.conns.now k c.move_of.new.conn (omega (arith, some, within)) (of_on_err c.move_of.result _ fault err c.move_of.ensures.lent) c.requires.may.may)

pub returns-clause-lowers : goal.returns-clause-lowers
returns-clause-lowers g c = λ e.
    let k : ℕ = c.args.number - 1 in
    let was : Conn g.row.L.Denot g.row.N.Denot = slice_index_or c.args.conns.now k c.index-conns-number.result in
    let some = c.requires.some in
    let within = c.requires.within in
    let is : slice_get c.args.conns.now k ≡ Some was = slice_get-get_or c.args.conns.now k c.index-conns-number.result (omega (arith, some, within)) in
    on_ok_at c.move_of.result _ (λ a ok.
    lowers_at c.args.pool.now c.move_of.new.pool c.args.conns.now k was c.move_of.new.conn c.args.number c.args.resources.now.left c.move_of.new.resources.left (of_number c.args.number some) is (of_on_ok c.move_of.result _ a ok (c.move_of.ensures.lowers e)))
