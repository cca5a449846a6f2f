use Rattle.std.proofs.Common.{◌<◌, length, arith, get_or}
use Rattle.std.proofs.lemmas.Option.{slice_get-get_or}
use Rattle.htx_drive.proofs.WeaveLemmas.Whole.{one_more_left, all_left}
use Rattle.htx_drive.proofs.weave.leaving.leave_all.Goals as goal

pub leave-requires : goal.leave-requires
leave-requires g c =
    let same = c.loop-place.auto.conns in
    let within = c.loop-place-test.true in
    let is = slice_get-get_or c.loop-place.conns c.loop-place.place c.index-conns-place.result (omega (arith, same, within)) in
    record { lent = λ none. c.requires.lent c.loop-place.place _ (c.loop-place.invariant.same c.loop-place.place _ (omega arith) is) none }

pub loop-place-preserved : goal.loop-place-preserved
loop-place-preserved g c =
    let same = c.loop-place.auto.conns in
    let test = c.loop-place-test.true in
    let within : c.loop-place.place < length c.loop-place.conns = omega (arith, same, test) in
    let was = get_or c.loop-place.conns c.loop-place.place c.index-conns-place.result in
    one_more_left g.C.Machine.meaning g.C.Machine.stands g.C.Machine.seen g.L.Link.seen g.L.Link.wrote g.N.Net.seen c.loop-place.place c.args.conns.now c.loop-place.conns was c.leave.new.conn within
    (slice_get-get_or c.loop-place.conns c.loop-place.place c.index-conns-place.result within) (record { so = c.leave.ensures.left }) c.loop-place.invariant

pub returns-clause-left : goal.returns-clause-left
returns-clause-left g c = λ cfg turns firsts to budget spare fault spent all.
    let same = c.loop-place.auto.conns in
    let end = c.loop-place.auto.place-end in
    let test = c.loop-place-test.false in
    all_left g.C.Machine.meaning g.C.Machine.stands g.C.Machine.seen g.L.Link.seen g.L.Link.wrote g.N.Net.seen c.loop-place.place c.args.conns.now c.loop-place.conns cfg to turns firsts budget spare fault (omega (arith, same, end, test)) c.loop-place.invariant spent all
